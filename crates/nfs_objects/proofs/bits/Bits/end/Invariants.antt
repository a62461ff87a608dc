use Rattle.std.proofs.Common.{◌≡◌, ◌≤◌, ℕ, slice_index_or}
use Rattle.nfs_objects.proofs.bits.Bits.end.Given as goal

-- the words from this one on have no bit
abbrev pub invariant-loop-place : goal.invariant-loop-place
invariant-loop-place l = (k : ℕ) → l.place ≤ k → slice_index_or l.fn.self.words k 0 ≡ 0
