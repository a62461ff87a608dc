use Rattle.std.proofs.Common.{◌+◌, ◌<◌, arith, length, map, subst}
use Rattle.std.specs.Arc.{arc_value}
use Rattle.std.proofs.lemmas.List.{take_rest}
use Rattle.nlm_ranges.proofs.GrantingLemmas.{each-anew, each-on}
use Rattle.nlm_ranges.proofs.settling.Settling.try_each.Goals as goal
use Rattle.nlm_ranges.specs.Granting.{IsEmptied}

pub returns-then-branch : goal.returns-then-branch
returns-then-branch c =
    let requests = c.args.requests.now in
    let place = c.loop-place.place in
    let within : place < length requests = omega arith in
    each-anew arc_value c.args.self.now c.loop-place.self c.try_one.new.self requests place
    c.index-requests-place.result within c.index-requests-place.is c.loop-place.invariant.1.1 c.all_left.new.self _
    c.in_ok-try_one.field-0 c.loop-place.invariant.1.0 c.if-branch.true c.in_ok-try_one.ensures
    (subst (λ rs. IsEmptied c.try_one.new.self (map arc_value rs) c.all_left.new.self
    (map arc_value c.in_ok-all_left.field-0.items)) (take_rest requests (place + 1)) c.in_ok-all_left.ensures)

pub loop-place-preserved : goal.loop-place-preserved
loop-place-preserved c =
    let requests = c.args.requests.now in
    let within : c.loop-place.place < length requests = omega arith in
    let one = c.in_ok-try_one.ensures in
    let most = one.most in
    let few = c.loop-place.invariant.1.0 in (
      one.held_up c.if-branch.false,
      (
        omega (arith, most, few),
        each-on arc_value c.args.self.now c.loop-place.self c.try_one.new.self requests c.loop-place.place
            c.index-requests-place.result within c.index-requests-place.is c.loop-place.invariant.1.1
            c.in_ok-try_one.field-0 one,
      ),
    )
