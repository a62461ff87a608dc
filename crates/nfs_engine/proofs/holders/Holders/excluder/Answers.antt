use Rattle.std.proofs.Common.{ℕ, Option, None, sym, subst}
use Rattle.nfs_objects.specs.declared.modes.Mode.{Mode}
use Rattle.nfs_objects.specs.declared.modes.Mode.TheVariants.{Exclusive}
use Rattle.nfs_engine.specs.Holders.{IsExcluder, holders_value}
use Rattle.nfs_engine.specs.declared.holders.Holders.{Holders}
use Rattle.nfs_engine.proofs.HolderCountLemmas.{first_excludes}
use Rattle.nfs_engine.proofs.holders.Holders.excluder.Goals as goal

pub returns-in-Exclusive-mode : goal.returns-in-Exclusive-mode
returns-in-Exclusive-mode c =
    subst (λ (m : Mode). IsExcluder m (holders_value c.args.self.now) c.first.result) (sym c.in-Exclusive-mode.is)
    (subst (λ (h : Holders). IsExcluder Exclusive (holders_value h) c.first.result) (sym c.in-Several.is)
    (subst (λ (r : Option ℕ). IsExcluder Exclusive (record { alone = None; beside = c.in-Several.sharers }) r)
    (sym c.first.ensures) (first_excludes c.in-Several.sharers)))
