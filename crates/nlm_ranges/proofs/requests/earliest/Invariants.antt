-- None of the requests seen so far is one of these.
use Rattle.std.proofs.Common.{◌≡◌, false, take}
use Rattle.std.specs.List.{list_any}
use Rattle.nlm_ranges.proofs.requests.earliest.Given as goal
use Rattle.nlm_ranges.specs.Cutting.{joined}
use Rattle.nlm_ranges.specs.Requests.{goes}

abbrev pub invariant-loop-batch : goal.invariant-loop-batch
invariant-loop-batch l = list_any (goes l.going) (joined (take l.batch-index l.batches)) ≡ false
