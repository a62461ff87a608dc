-- The pieces seen so far have no locks.
use Rattle.std.proofs.Common.{◌≡◌, [], take}
use Rattle.nlm_ranges.proofs.list.are_empty.Given as goal
use Rattle.nlm_ranges.specs.Cutting.{joined}

abbrev pub invariant-loop-piece : goal.invariant-loop-piece
invariant-loop-piece l = joined (take l.piece-index l.pieces) ≡ []
