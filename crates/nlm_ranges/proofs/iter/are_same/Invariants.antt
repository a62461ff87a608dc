-- What is left is the same where all is.
use Rattle.std.proofs.Common.{◌≡◌}
use Rattle.std.specs.Cmp.Lexicographic.{pointwise}
use Rattle.nlm_ranges.proofs.iter.are_same.Given as goal
use Rattle.nlm_ranges.specs.Same.{same_lock}

abbrev pub invariant-loop-lock : goal.invariant-loop-lock
invariant-loop-lock l = pointwise same_lock l.fn.locks l.fn.others ≡ pointwise same_lock l.locks l.others
