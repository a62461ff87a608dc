use Rattle.std.proofs.Common.{refl}
use Rattle.std.proofs.lemmas.Result.{err_from_is_err_and}
use Rattle.nfs_objects.specs.Calls.{addresses_of}
use Rattle.nfs_inodes.proofs.CutFileLemmas.{cleared-all}
use Rattle.nfs_inodes.proofs.ReaderHaltLemmas.{any-stops}
use Rattle.nfs_inodes.proofs.content.file.clear.Goals as goal

pub returns-in_err-cut_off : goal.returns-in_err-cut_off
returns-in_err-cut_off c =
    let p = err_from_is_err_and c.from_residual-in_err-cut_off.result c.from_residual-in_err-cut_off.ensures.1 in
    rw (p.1, p.2) (any-stops c.args.draft.now (addresses_of c.args.draft.now.view c.args.number) _
    c.in_err-cut_off.ensures)

pub returns : goal.returns
returns c =
    cleared-all c.args.draft.now c.cut_off.new.draft c.args.number 0 c.in_ok-cut_off.field-0 refl
    c.in_ok-cut_off.ensures
