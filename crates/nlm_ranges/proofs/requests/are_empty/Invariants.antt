-- The batches seen so far have no requests.
use Rattle.std.proofs.Common.{◌≡◌, [], take}
use Rattle.nlm_ranges.proofs.requests.are_empty.Given as goal
use Rattle.nlm_ranges.specs.Cutting.{joined}

abbrev pub invariant-loop-batch : goal.invariant-loop-batch
invariant-loop-batch l = joined (take l.batch-index l.batches) ≡ []
