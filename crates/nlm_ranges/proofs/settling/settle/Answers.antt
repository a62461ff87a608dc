use Rattle.std.proofs.Common.{map, subst, sym}
use Rattle.std.specs.Arc.{arc_value}
use Rattle.nlm_ranges.proofs.GrantingLemmas.{way-ends}
use Rattle.nlm_ranges.proofs.settling.settle.Goals as goal
use Rattle.nlm_ranges.specs.Granting.{IsOnWay, holding, kept_in}

pub returns : goal.returns
returns c =
    let first = holding (arc_value c.args.locks.now) c.args.waiting.now in
    let settling = c.try_each.new.self in
    let tried = rw c.in_default.is at c.in_ok-left.ensures in
    let old = c.requests.settling in
    way-ends first (arc_value settling.locks) (map arc_value settling.granted.items) (kept_in settling)
    (tried.leads first (subst (λ rs. IsOnWay first (arc_value old.locks) (map arc_value old.granted.items)
    (map arc_value rs)) (sym c.deref.ensures.value) c.requests.invariant.1)) tried.held_up
