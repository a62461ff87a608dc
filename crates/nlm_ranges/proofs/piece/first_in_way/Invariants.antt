-- No lock seen so far stands in the way.
use Rattle.std.proofs.Common.{◌≡◌, false, Some, take}
use Rattle.std.specs.List.{list_any}
use Rattle.nfs_machine.specs.LockLaws.{stands_in_way}
use Rattle.nlm_ranges.proofs.piece.first_in_way.Given as goal

abbrev pub invariant-loop-lock : goal.invariant-loop-lock
invariant-loop-lock l = list_any (stands_in_way l.range (Some l.exclusive)) (take l.lock-index l.locks) ≡ false
