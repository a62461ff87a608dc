-- Whatever what is left comes to, all comes to that behind what was granted so far. Fewer are left each time.
use Rattle.std.proofs.Common.{◌≡◌, [], length, map}
use Rattle.std.specs.Arc.{arc_value}
use Rattle.nlm_ranges.proofs.settling.settle.Given as goal
use Rattle.nlm_ranges.specs.Granting.{IsOnWay, holding}

abbrev pub invariant-requests : goal.invariant-requests
invariant-requests l =
    (l.settling.waiting.items ≡ [])
    × IsOnWay (holding (arc_value l.locks) l.waiting) (arc_value l.settling.locks)
    (map arc_value l.settling.granted.items) (map arc_value l.requests.items)

abbrev pub decreases-requests : goal.decreases-requests
decreases-requests l = length l.requests.items
