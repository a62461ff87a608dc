-- The requests of the batches seen so far are held up.
use Rattle.std.proofs.Common.{take}
use Rattle.std.specs.List.{AllByRecursion}
use Rattle.nfs_machine.specs.OneFile.{IsHeldUp}
use Rattle.nlm_ranges.proofs.requests.are_held_up.Given as goal
use Rattle.nlm_ranges.specs.Cutting.{joined}

abbrev pub invariant-loop-batch : goal.invariant-loop-batch
invariant-loop-batch l = AllByRecursion (IsHeldUp l.locks) (joined (take l.batch-index l.batches))
