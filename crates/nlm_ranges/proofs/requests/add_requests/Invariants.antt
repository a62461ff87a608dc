-- What is left to add stands behind what was added.
use Rattle.std.proofs.Common.{◌≡◌, ◌++◌, length, map}
use Rattle.std.specs.Arc.{arc_value}
use Rattle.nlm_ranges.proofs.requests.add_requests.Given as goal
use Rattle.nlm_ranges.specs.Cutting.{joined}

abbrev pub invariant-batches : goal.invariant-batches
invariant-batches l =
    joined l.batches.items ++ map arc_value l.rest
    ≡ joined l.initial.batches.items ++ map arc_value l.requests

abbrev pub decreases-batches : goal.decreases-batches
decreases-batches l = length l.rest
