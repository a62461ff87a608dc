-- Which requests of a list go (RFC 1813, appendix II, 6.2).
use Rattle.std.specs.Prelude.{◌≡◌, ℕ, ℤ, Bool, ◌==◌}
use Rattle.nfs_machine.specs.Bytes.{same_bytes}
use Rattle.nfs_machine.specs.Locks.{lies_within}
use Rattle.nfs_machine.specs.LockSteps.{is_request}
use Rattle.nfs_machine.specs.OneFile.{requested}
use Rattle.nfs_machine.specs.State.{Request}
use Rattle.nlm_ranges.specs.declared.requests.Going.{Going}
use Rattle.nlm_ranges.specs.declared.requests.Going.TheVariants.{For, Of, Under, Within}

-- those for a lock, asked for in the same terms, those of a caller, that under a number, or those of a range's owner
-- that lie within it
abbrev pub goes : Going → Request → Bool
goes (For exclusive lock) r = is_request exclusive lock.now r
goes (Of caller_name) r = same_bytes r.asked.caller_name caller_name.now
goes (Under number) r = r.number == number
goes (Within range) r = lies_within range.now (requested r)

-- what of a request is kept beside it
pub record IsListed (r : Request) (number : ℕ) (process : ℤ) (offset : ℕ) : Type 0 where
  pub number_is : number ≡ r.number
  pub process_is : process ≡ r.asked.process
  pub offset_is : offset ≡ r.asked.offset
