-- The requests of the batches seen so far were added.
use Rattle.std.proofs.Common.{◌≡◌, map, take}
use Rattle.std.specs.Arc.{arc_value}
use Rattle.nlm_ranges.proofs.requests.all_shared.Given as goal
use Rattle.nlm_ranges.specs.Cutting.{joined}

abbrev pub invariant-loop-batch : goal.invariant-loop-batch
invariant-loop-batch l = map arc_value l.requests.items ≡ joined (take l.batch-index l.batches)
