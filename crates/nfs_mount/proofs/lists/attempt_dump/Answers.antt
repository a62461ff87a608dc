use Rattle.std.proofs.Common.{sym, ◌∙◌}
use Rattle.std.proofs.lemmas.Result.{err_from_is_err_and}
use Rattle.side_wire.specs.declared.mount.MountCall.TheVariants as mount
use Rattle.nfs_mount.proofs.MountListLemmas.{dump-promised, exports-stop, mounts-stop, stopped}
use Rattle.nfs_mount.proofs.lists.attempt_dump.Goals as goal

pub returns-in_err-exports-clause-ends : goal.returns-in_err-exports-clause-ends
returns-in_err-exports-clause-ends c =
    let p = err_from_is_err_and c.from_residual.result c.from_residual.ensures.1 in
    rw (p.1, p.2)
    (stopped c.args.draft mount.Dump c.requires _ (exports-stop c.args.draft _ c.in_err-exports.ensures.exports))

pub returns-in_err-table-clause-ends : goal.returns-in_err-table-clause-ends
returns-in_err-table-clause-ends c =
    let p = err_from_is_err_and c.from_residual-in_err-table.result c.from_residual-in_err-table.ensures.1 in
    rw (p.1, p.2)
    (stopped c.args.draft mount.Dump c.requires _ (mounts-stop c.args.draft _ c.in_err-table.ensures))

pub returns-clause-ends : goal.returns-clause-ends
returns-clause-ends c =
    rw c.answer.ensures.value
    (dump-promised c.args.draft c.requires c.in_ok-list.list
    (λ s k w. (c.in_ok-table.ensures).1 s k w ∙ sym c.in_ok-list.ensures)
    c.answer.ensures.held c.answer.ensures.given)
