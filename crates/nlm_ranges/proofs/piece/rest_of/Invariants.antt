-- What is left of the locks seen so far was added.
use Rattle.std.proofs.Common.{◌≡◌, take}
use Rattle.std.specs.List.{flat_map}
use Rattle.nlm_ranges.proofs.piece.rest_of.Given as goal
use Rattle.nlm_ranges.specs.Cutting.{cut}

abbrev pub invariant-loop-lock : goal.invariant-loop-lock
invariant-loop-lock l = l.rest.items ≡ flat_map (cut l.range) (take l.lock-index l.locks)
