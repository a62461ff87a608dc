use Rattle.std.proofs.Common.{◌++◌, Some, subst, sym}
use Rattle.nfs_machine.specs.Locks.{Conflicts, HasModes, modes_with}
use Rattle.nlm_ranges.proofs.LockTableLemmas.{now-exclusive, now-shared}
use Rattle.nlm_ranges.proofs.locks.LockTable.set.Goals as goal
use Rattle.nlm_ranges.specs.Held.{IsWidened}

pub invariant_of-result : goal.invariant_of-result
invariant_of-result c =
    (now-exclusive c.self.inside.exclusive c.self.inside.shared c.self.invariant c.args.range.now
    c.widened-wide.result c.args.exclusive c.last-last.ensures.rises
    (subst (λ locks. Conflicts locks c.args.range.now (Some c.args.exclusive) → ⊥) (sym c.self.view_is) c.requires)
    (subst (λ locks. IsWidened locks c.args.range.now (Some c.args.exclusive) c.widened-wide.result)
    (sym c.self.view_is) c.widened-wide.ensures)
    c.in_ok-exclusives.exclusives c.in_ok-shares.shares c.in_ok-exclusives.ensures c.in_ok-shares.ensures
    c.in_ok-more.more c.in_ok-more.ensures c.if-exclusive.true).0

pub returns-then-exclusive : goal.returns-then-exclusive
returns-then-exclusive c =
    let new = c.in_ok-more.more ++ c.in_ok-shares.shares in
    subst (λ locks. HasModes new (modes_with locks c.args.range.now (Some c.args.exclusive))) c.self.view_is
    (now-exclusive c.self.inside.exclusive c.self.inside.shared c.self.invariant c.args.range.now
    c.widened-wide.result c.args.exclusive c.last-last.ensures.rises
    (subst (λ locks. Conflicts locks c.args.range.now (Some c.args.exclusive) → ⊥) (sym c.self.view_is) c.requires)
    (subst (λ locks. IsWidened locks c.args.range.now (Some c.args.exclusive) c.widened-wide.result)
    (sym c.self.view_is) c.widened-wide.ensures)
    c.in_ok-exclusives.exclusives c.in_ok-shares.shares c.in_ok-exclusives.ensures c.in_ok-shares.ensures
    c.in_ok-more.more c.in_ok-more.ensures c.if-exclusive.true).1

pub invariant_of-result-2 : goal.invariant_of-result-2
invariant_of-result-2 c =
    (now-shared c.self.inside.exclusive c.self.inside.shared c.self.invariant c.args.range.now
    c.widened-wide.result c.args.exclusive c.last-last.ensures.rises
    (subst (λ locks. Conflicts locks c.args.range.now (Some c.args.exclusive) → ⊥) (sym c.self.view_is) c.requires)
    (subst (λ locks. IsWidened locks c.args.range.now (Some c.args.exclusive) c.widened-wide.result)
    (sym c.self.view_is) c.widened-wide.ensures)
    c.in_ok-exclusives.exclusives c.in_ok-shares.shares c.in_ok-exclusives.ensures c.in_ok-shares.ensures
    c.in_ok-shared.shared c.in_ok-shared.ensures c.if-exclusive.false).0

pub returns : goal.returns
returns c =
    let new = c.in_ok-exclusives.exclusives ++ c.in_ok-shared.shared in
    subst (λ locks. HasModes new (modes_with locks c.args.range.now (Some c.args.exclusive))) c.self.view_is
    (now-shared c.self.inside.exclusive c.self.inside.shared c.self.invariant c.args.range.now
    c.widened-wide.result c.args.exclusive c.last-last.ensures.rises
    (subst (λ locks. Conflicts locks c.args.range.now (Some c.args.exclusive) → ⊥) (sym c.self.view_is) c.requires)
    (subst (λ locks. IsWidened locks c.args.range.now (Some c.args.exclusive) c.widened-wide.result)
    (sym c.self.view_is) c.widened-wide.ensures)
    c.in_ok-exclusives.exclusives c.in_ok-shares.shares c.in_ok-exclusives.ensures c.in_ok-shares.ensures
    c.in_ok-shared.shared c.in_ok-shared.ensures c.if-exclusive.false).1
