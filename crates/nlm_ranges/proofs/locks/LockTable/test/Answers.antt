use Rattle.std.proofs.Common.{◌≡◌, ◌++◌, Some, false, rules, subst}
use Rattle.std.proofs.lemmas.Option.{IfSome_then}
use Rattle.std.proofs.lemmas.List.Elements.{Contains-append_left, Contains-append_right}
use Rattle.nfs_machine.specs.Locks.{Conflicts}
use Rattle.nlm_ranges.proofs.LockTableLemmas.{in-way, none-for-shared, none-in-way, none-then}
use Rattle.nlm_ranges.proofs.locks.LockTable.test.Goals as goal
use Rattle.nlm_ranges.specs.Held.{IsInTheWay}

pub returns-in-Some : goal.returns-in-Some
returns-in-Some c =
    let exclusive = c.self.inside.exclusive in
    let shared = c.self.inside.shared in
    let lock = c.in-Some.held.now in
    record {
      free = tt;
      held = subst (λ ls. IsInTheWay ls c.args.range.now (Some c.args.exclusive) lock) c.self.view_is
          (in-way (exclusive ++ shared) c.args.range.now (Some c.args.exclusive) lock c.self.invariant.listed
          (Contains-append_left exclusive shared lock c.in-Some.ensures.some.0) c.last-last.ensures.rises
          c.in-Some.ensures.some.1);
    }

pub returns-then-not-exclusive : goal.returns-then-not-exclusive
returns-then-not-exclusive c =
    let unset : c.args.exclusive ≡ false = search rules in
    record {
      free = subst (λ ls. Conflicts ls c.args.range.now (Some c.args.exclusive) → ⊥) c.self.view_is
          (none-for-shared c.self.inside.exclusive c.self.inside.shared c.args.range.now c.args.exclusive
          c.self.invariant unset c.in_default.ensures.none);
      held = tt;
    }

pub returns : goal.returns
returns c =
    let exclusive = c.self.inside.exclusive in
    let shared = c.self.inside.shared in
    record {
      free = none-then c.in_way-2.result _ _ c.in_way-2.ensures.none (λ none.
          subst (λ ls. Conflicts ls c.args.range.now (Some c.args.exclusive) → ⊥) c.self.view_is
          (none-in-way exclusive shared c.args.range.now (Some c.args.exclusive) c.in_default.ensures.none none));
      held = IfSome_then c.in_way-2.result c.in_way-2.ensures.some (λ x h.
          subst (λ ls. IsInTheWay ls c.args.range.now (Some c.args.exclusive) x.now) c.self.view_is
          (in-way (exclusive ++ shared) c.args.range.now (Some c.args.exclusive) x.now c.self.invariant.listed
          (Contains-append_right exclusive shared x.now h.0) c.last-last.ensures.rises h.1));
    }
