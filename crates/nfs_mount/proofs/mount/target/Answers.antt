use Rattle.std.proofs.Common.{sym, ap, ◌∙◌}
use Rattle.std.proofs.lemmas.Result.{err_from_is_err_and}
use Rattle.nfs_machine.specs.MountSteps.{path_fault}
use Rattle.nfs_mount.proofs.MountListLemmas.{exports-stop}
use Rattle.nfs_mount.proofs.MntLemmas.{not-exported, root-lives, walked}
use Rattle.nfs_mount.proofs.mount.target.Goals as goal

pub returns-in_err-exports-clause-found : goal.returns-in_err-exports-clause-found
returns-in_err-exports-clause-found c =
    let p = err_from_is_err_and c.from_residual.result c.from_residual.ensures.1 in
    rw (p.1, p.2) (exports-stop c.args.draft.now _ c.in_err-exports.ensures.exports)

pub walk-requires-clause-lives : goal.walk-requires-clause-lives
walk-requires-clause-lives c =
    root-lives c.args.draft.now c.args.path.now c.in_ok-exports.exports.now c.in_ok-exports.ensures.exports
    (sym (c.in_default.ensures ∙ ap path_fault c.deref.ensures)) c.in-Some-choose.choice
    (rw (c.ctx.ensures, c.deref-2.ensures) at c.in-Some-choose.ensures) c.requires

pub returns-in-Some-choose-clause-found : goal.returns-in-Some-choose-clause-found
returns-in-Some-choose-clause-found c =
    walked c.args.draft.now c.args.path.now c.in_ok-exports.exports.now c.in_ok-exports.ensures.exports
    (sym (c.in_default.ensures ∙ ap path_fault c.deref.ensures)) c.in-Some-choose.choice
    (rw (c.ctx.ensures, c.deref-2.ensures) at c.in-Some-choose.ensures) c.walk.result c.walk.ensures

pub returns-in-None-clause-found : goal.returns-in-None-clause-found
returns-in-None-clause-found c =
    not-exported c.args.draft.now c.args.path.now c.in_ok-exports.exports.now
    c.in_ok-exports.ensures.exports (sym (c.in_default.ensures ∙ ap path_fault c.deref.ensures))
    (rw (c.ctx.ensures, c.deref-2.ensures) at c.in-None.ensures)
