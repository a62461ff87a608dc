-- The locks that are left.
use Rattle.std.proofs.Common.{◌≡◌, ◌+◌, ◌++◌, length}
use Rattle.nlm_ranges.proofs.iter.LocksIterator.next.Given as goal
use Rattle.nlm_ranges.specs.Cutting.{joined}

abbrev pub invariant-pieces : goal.invariant-pieces
invariant-pieces l =
    l.fn.self ≡ l.self-inside.front.now ++ (joined l.self-inside.pieces.now ++ joined l.self-inside.behind.now)

abbrev pub decreases-pieces : goal.decreases-pieces
decreases-pieces l = length l.self-inside.pieces.now + length l.self-inside.behind.now
