use Rattle.std.proofs.Common.{subst}
use Rattle.std.proofs.lemmas.Result.{err_from_is_err_and}
use Rattle.std.specs.Prelude.{option_copied}
use Rattle.nfs_objects.specs.Calls.{addresses_of}
use Rattle.nfs_inodes.proofs.BuriedFileLemmas.{buried-copy}
use Rattle.nfs_inodes.proofs.ReaderHaltLemmas.{exports-stop-at}
use Rattle.nfs_inodes.specs.Known.{HasInode}
use Rattle.nfs_inodes.proofs.burying.buried.Goals as goal

pub returns-in_err-export : goal.returns-in_err-export
returns-in_err-export c =
    let p = err_from_is_err_and c.from_residual-in_err-export.result c.from_residual-in_err-export.ensures.1 in
    rw (p.1, p.2) (exports-stop-at c.args.draft.now (addresses_of c.args.draft.now.view c.args.number) _
    c.in_err-export.ensures)

pub returns : goal.returns
returns c =
    buried-copy c.args.draft.now c.args.number c.in_ok-left.left c.in-Some.inode.now c.in_ok-export.export
    (subst (λ o. HasInode c.args.draft.now c.args.number (option_copied o)) c.in-Some.is c.in_ok-inode.ensures.inode)
    (c.is_large.ensures.0 c.if-not-is_large.false) c.in_ok-left.ensures.cases c.in_ok-export.ensures.0
    c.in_ok-export.ensures.1
