-- The locks seen so far are between the ends.
use Rattle.std.proofs.Common.{take}
use Rattle.std.specs.List.{AllByRecursion}
use Rattle.nlm_ranges.proofs.piece.ends.Given as goal
use Rattle.nlm_ranges.specs.Held.{IsBetween}

abbrev pub invariant-loop-lock : goal.invariant-loop-lock
invariant-loop-lock l = AllByRecursion (IsBetween l.ends.0 l.ends.1) (take l.lock-index l.locks)
