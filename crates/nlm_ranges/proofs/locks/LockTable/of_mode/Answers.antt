use Rattle.std.proofs.Common.{subst, sym}
use Rattle.std.proofs.lemmas.List.Elements.{Contains-append_left, Contains-append_right}
use Rattle.std.specs.List.{Contains}
use Rattle.nfs_machine.specs.Locks.{AreListed}
use Rattle.nlm_ranges.proofs.locks.LockTable.of_mode.Goals as goal
use Rattle.nlm_ranges.specs.Held.{AreAll}

pub returns-then-exclusive : goal.returns-then-exclusive
returns-then-exclusive c = record {
  mode = subst (λ b. AreAll b c.self.inside.exclusive) (sym c.if-exclusive.true) c.self.invariant.exclusives;
  has = λ l h. subst (λ ls. Contains ls l) c.self.view_is
      (Contains-append_left c.self.inside.exclusive c.self.inside.shared l h);
  listed = subst AreListed c.self.view_is c.self.invariant.listed;
}

pub returns : goal.returns
returns c = record {
  mode = subst (λ b. AreAll b c.self.inside.shared) (sym c.if-exclusive.false) c.self.invariant.shares;
  has = λ l h. subst (λ ls. Contains ls l) c.self.view_is
      (Contains-append_right c.self.inside.exclusive c.self.inside.shared l h);
  listed = subst AreListed c.self.view_is c.self.invariant.listed;
}
