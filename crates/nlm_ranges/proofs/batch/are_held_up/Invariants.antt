-- The requests seen so far are held up.
use Rattle.std.proofs.Common.{take}
use Rattle.std.specs.List.{AllByRecursion}
use Rattle.nfs_machine.specs.OneFile.{IsHeldUp}
use Rattle.nlm_ranges.proofs.batch.are_held_up.Given as goal

abbrev pub invariant-loop-listed : goal.invariant-loop-listed
invariant-loop-listed l = AllByRecursion (IsHeldUp l.locks) (take l.listed-index l.requests)
