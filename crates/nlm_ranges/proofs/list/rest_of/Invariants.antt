-- What is left of the pieces seen so far was added.
use Rattle.std.proofs.Common.{◌≡◌, take}
use Rattle.std.specs.List.{flat_map}
use Rattle.nlm_ranges.proofs.list.rest_of.Given as goal
use Rattle.nlm_ranges.specs.Cutting.{cut, joined}

abbrev pub invariant-loop-piece : goal.invariant-loop-piece
invariant-loop-piece l = joined l.rest.items ≡ flat_map (cut l.range) (joined (take l.piece-index l.pieces))
