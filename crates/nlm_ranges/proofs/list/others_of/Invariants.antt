-- Of the pieces seen so far the locks of other callers were added.
use Rattle.std.proofs.Common.{◌≡◌, filter, not, take}
use Rattle.nlm_ranges.proofs.list.others_of.Given as goal
use Rattle.nlm_ranges.specs.Cutting.{is_of_caller, joined}

abbrev pub invariant-loop-piece : goal.invariant-loop-piece
invariant-loop-piece l =
    joined l.others.items ≡ filter (λ k. not (is_of_caller l.caller_name k)) (joined (take l.piece-index l.pieces))
