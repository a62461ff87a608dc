use Rattle.std.proofs.lemmas.Result.{err_from_is_err_and}
use Rattle.nfs_names.proofs.MakeObjectLemmas.{nothing-told, object-told}
use Rattle.nfs_inodes.proofs.ReaderHaltLemmas.{known-stops}
use Rattle.nfs_names.proofs.make.made.Goals as goal

pub returns-in_err-known-clause-known : goal.returns-in_err-known-clause-known
returns-in_err-known-clause-known c =
    let p = err_from_is_err_and c.from_residual.result c.from_residual.ensures.1 in
    rw (p.1, p.2) (λ some. known-stops c.args.draft.now c.args.number _ some c.in_err-known.ensures.reads)

pub returns-in_ok-handle-in-Some-clause-made : goal.returns-in_ok-handle-in-Some-clause-made
returns-in_ok-handle-in-Some-clause-made c =
    object-told c.args.draft.now c.args.number c.in-Some.known _ (rw c.in-Some.is at c.in_ok-known.ensures.object)
    (rw c.ctx.ensures at c.in_ok-handle-in-Some.ensures)

pub returns-in-None-clause-made : goal.returns-in-None-clause-made
returns-in-None-clause-made c =
    nothing-told c.args.draft.now c.args.number (rw c.in-None.is at c.in_ok-known.ensures.object)
