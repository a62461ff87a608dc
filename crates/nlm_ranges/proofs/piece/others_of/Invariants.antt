-- Of the locks seen so far those of other callers were added.
use Rattle.std.proofs.Common.{◌≡◌, filter, not, take}
use Rattle.nlm_ranges.proofs.piece.others_of.Given as goal
use Rattle.nlm_ranges.specs.Cutting.{is_of_caller}

abbrev pub invariant-loop-lock : goal.invariant-loop-lock
invariant-loop-lock l = l.others.items ≡ filter (λ k. not (is_of_caller l.caller_name k)) (take l.lock-index l.locks)
