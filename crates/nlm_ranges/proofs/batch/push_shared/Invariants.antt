-- The requests seen so far were added.
use Rattle.std.proofs.Common.{◌≡◌, ◌++◌, map, take}
use Rattle.std.specs.Arc.{arc_value}
use Rattle.nlm_ranges.proofs.batch.push_shared.Given as goal

abbrev pub invariant-loop-other : goal.invariant-loop-other
invariant-loop-other l =
    map arc_value l.requests.items ≡ map arc_value l.initial.requests.items ++ take l.other-index l.others
