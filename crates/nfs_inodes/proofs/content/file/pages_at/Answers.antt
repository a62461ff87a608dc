use Rattle.std.specs.Prelude.{option_copied, option_map}
use Rattle.std.specs.Arc.{arc_value}
use Rattle.std.proofs.lemmas.Result.{err_from_is_err_and}
use Rattle.nfs_objects.specs.declared.address.Addr.TheVariants as addresses
use Rattle.nfs_inodes.proofs.ReaderHaltLemmas.{lacking-stops}
use Rattle.nfs_inodes.proofs.ReadBlocksLemmas.{known-pages}
use Rattle.nfs_inodes.proofs.content.file.pages_at.Goals as goal

pub returns-in_err-find : goal.returns-in_err-find
returns-in_err-find c =
    let p = err_from_is_err_and c.from_residual.result c.from_residual.ensures.1 in
    rw (p.1, p.2) (lacking-stops c.args.draft.now (addresses.Inode c.args.number) _ c.in_err-find.ensures)

pub returns : goal.returns
returns c =
    known-pages c.args.draft.now c.args.number (option_map arc_value c.in_ok-find.field-0.now)
    (option_copied c.living.result) c.pages_of.result c.in_ok-find.ensures c.living.ensures c.pages_of.ensures
