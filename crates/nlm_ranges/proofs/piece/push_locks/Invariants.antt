-- The locks seen so far were added.
use Rattle.std.proofs.Common.{◌≡◌, ◌++◌, take}
use Rattle.nlm_ranges.proofs.piece.push_locks.Given as goal

abbrev pub invariant-loop-other : goal.invariant-loop-other
invariant-loop-other l = l.locks.items ≡ l.initial.locks.items ++ take l.other-index l.others
