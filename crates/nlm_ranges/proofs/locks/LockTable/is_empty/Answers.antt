use Rattle.std.proofs.Common.{◌≡◌, ◌==◌, List, ap, false, length, rules, subst, sym, true, ◌∙◌}
use Rattle.nfs_machine.specs.Locks.{AreListed}
use Rattle.nfs_machine.specs.LocksFormed.{NoLocksConflict}
use Rattle.nfs_machine.specs.State.{Lock}
use Rattle.nlm_ranges.proofs.LockTableLemmas.{none-first, some-first}
use Rattle.nlm_ranges.proofs.locks.LockTable.is_empty.Goals as goal

pub returns-then-not-is_empty : goal.returns-then-not-is_empty
returns-then-not-is_empty c =
    let unset : c.is_empty.result ≡ false = search rules in record {
      empty = sym (ap (λ (ls : List Lock). length ls == 0) (sym c.self.view_is)
          ∙ some-first c.self.inside.exclusive c.self.inside.shared (sym c.is_empty.ensures ∙ unset));
      listed = subst AreListed c.self.view_is c.self.invariant.listed;
      apart = subst NoLocksConflict c.self.view_is c.self.invariant.apart;
    }

pub returns : goal.returns
returns c =
    let set : c.is_empty.result ≡ true = search rules in record {
      empty = c.is_empty-2.ensures
          ∙ sym (ap (λ (ls : List Lock). length ls == 0) (sym c.self.view_is)
          ∙ none-first c.self.inside.exclusive c.self.inside.shared (sym c.is_empty.ensures ∙ set));
      listed = subst AreListed c.self.view_is c.self.invariant.listed;
      apart = subst NoLocksConflict c.self.view_is c.self.invariant.apart;
    }
