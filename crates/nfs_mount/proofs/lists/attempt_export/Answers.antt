use Rattle.std.proofs.lemmas.Result.{err_from_is_err_and}
use Rattle.side_wire.specs.declared.mount.MountCall.TheVariants as mount
use Rattle.nfs_mount.proofs.MountListLemmas.{export-promised, exports-stop, stopped}
use Rattle.nfs_mount.proofs.lists.attempt_export.Goals as goal

pub returns-in_err-exports-clause-ends : goal.returns-in_err-exports-clause-ends
returns-in_err-exports-clause-ends c =
    let p = err_from_is_err_and c.from_residual.result c.from_residual.ensures.1 in
    rw (p.1, p.2)
    (stopped c.args.draft mount.Export c.requires _ (exports-stop c.args.draft _ c.in_err-exports.ensures.exports))

pub returns-clause-ends : goal.returns-clause-ends
returns-clause-ends c =
    rw c.answer.ensures.value
    (export-promised c.args.draft c.requires c.in_ok-exports.exports.now c.in_ok-exports.ensures.exports
    c.in_ok-list.list c.in_ok-list.ensures c.answer.ensures.held c.answer.ensures.given)
