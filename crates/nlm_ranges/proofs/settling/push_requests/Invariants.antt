-- The requests seen so far were added.
use Rattle.std.proofs.Common.{◌≡◌, ◌++◌, map, take}
use Rattle.std.specs.Arc.{arc_value}
use Rattle.nlm_ranges.proofs.settling.push_requests.Given as goal

abbrev pub invariant-loop-other : goal.invariant-loop-other
invariant-loop-other l =
    map arc_value l.requests.items
    ≡ map arc_value l.initial.requests.items ++ map arc_value (take l.other-index l.others)
