-- The pieces seen so far were added.
use Rattle.std.proofs.Common.{◌≡◌, ◌++◌, take}
use Rattle.nlm_ranges.proofs.list.add_pieces.Given as goal
use Rattle.nlm_ranges.specs.Cutting.{joined}

abbrev pub invariant-loop-other : goal.invariant-loop-other
invariant-loop-other l =
    joined l.pieces.items ≡ joined l.initial.pieces.items ++ joined (take l.other-index l.others)
