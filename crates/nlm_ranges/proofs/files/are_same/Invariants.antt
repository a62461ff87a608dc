-- What is left is the same where all is.
use Rattle.std.proofs.Common.{◌≡◌}
use Rattle.std.specs.Cmp.Lexicographic.{pointwise}
use Rattle.nlm_ranges.proofs.files.are_same.Given as goal
use Rattle.nlm_ranges.specs.Same.{same_locked}

abbrev pub invariant-loop-file : goal.invariant-loop-file
invariant-loop-file l = pointwise same_locked l.fn.files l.fn.others ≡ pointwise same_locked l.files l.others
