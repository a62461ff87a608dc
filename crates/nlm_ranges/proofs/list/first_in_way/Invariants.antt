-- No lock of the pieces seen so far stands in the way.
use Rattle.std.proofs.Common.{◌≡◌, false, Some, take}
use Rattle.std.specs.List.{list_any}
use Rattle.nfs_machine.specs.LockLaws.{stands_in_way}
use Rattle.nlm_ranges.proofs.list.first_in_way.Given as goal
use Rattle.nlm_ranges.specs.Cutting.{joined}

abbrev pub invariant-loop-piece : goal.invariant-loop-piece
invariant-loop-piece l =
    list_any (stands_in_way l.range (Some l.exclusive)) (joined (take l.piece-index l.pieces)) ≡ false
