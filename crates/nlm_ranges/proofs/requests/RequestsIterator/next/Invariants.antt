-- The requests that are left.
use Rattle.std.proofs.Common.{◌≡◌, ◌++◌, length}
use Rattle.nlm_ranges.proofs.requests.RequestsIterator.next.Given as goal
use Rattle.nlm_ranges.specs.Cutting.{joined}

abbrev pub invariant-batches : goal.invariant-batches
invariant-batches l = l.fn.self ≡ l.self-inside.front.now ++ joined l.self-inside.batches.now

abbrev pub decreases-batches : goal.decreases-batches
decreases-batches l = length l.self-inside.batches.now
