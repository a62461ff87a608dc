use Rattle.std.proofs.Common.{refl}
use Rattle.std.specs.Prelude.{option_copied}
use Rattle.std.proofs.lemmas.Result.{err_from_is_err_and}
use Rattle.nfs_objects.specs.declared.address.Addr.TheVariants as addresses
use Rattle.nfs_inodes.proofs.BuriedFileLemmas.{none-has}
use Rattle.nfs_inodes.proofs.ReaderHaltLemmas.{lacking-stops}
use Rattle.nfs_inodes.proofs.burying.no_export.Goals as goal

pub returns-in_err-export_table : goal.returns-in_err-export_table
returns-in_err-export_table c =
    let p = err_from_is_err_and c.from_residual.result c.from_residual.ensures.1 in
    rw (p.1, p.2) (lacking-stops c.args.draft.now addresses.Exports _ c.in_err-export_table.ensures.known)

pub returns : goal.returns
returns c = (
  refl,
  none-has c.args.draft.now (option_copied c.in_ok-export_table.field-0) c.in_ok-export_table.ensures.known
      c.in_ok-export_table.ensures.table,
)
