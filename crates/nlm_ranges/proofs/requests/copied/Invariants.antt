-- The batches seen so far were copied.
use Rattle.std.proofs.Common.{◌≡◌, take}
use Rattle.nlm_ranges.proofs.requests.copied.Given as goal

abbrev pub invariant-loop-batch : goal.invariant-loop-batch
invariant-loop-batch l = l.copy.items ≡ take l.batch-index l.batches
