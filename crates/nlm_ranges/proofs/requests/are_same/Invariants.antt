-- What is left is the same where all is.
use Rattle.std.proofs.Common.{◌≡◌}
use Rattle.std.specs.Cmp.Lexicographic.{pointwise}
use Rattle.nlm_ranges.proofs.requests.are_same.Given as goal
use Rattle.nlm_ranges.specs.Same.{equal_requests}

abbrev pub invariant-loop-request : goal.invariant-loop-request
invariant-loop-request l =
    pointwise equal_requests l.fn.requests l.fn.others ≡ pointwise equal_requests l.requests l.others
