use Rattle.std.proofs.lemmas.Result.{err_from_is_err_and}
use Rattle.nfs_mount.proofs.ReplaceLemmas.{replaces-promised, stopped}
use Rattle.nfs_mount.proofs.replace.attempt.Goals as goal

pub returns-in_err-replace-clause-ends : goal.returns-in_err-replace-clause-ends
returns-in_err-replace-clause-ends c =
    let p = err_from_is_err_and c.from_residual.result c.from_residual.ensures.1 in
    rw (p.1, p.2)
    (stopped c.args.draft c.args.exports.now c.requires.begins _ c.in_err-replace.ensures.replaces)

pub returns-clause-ends : goal.returns-clause-ends
returns-clause-ends c =
    rw c.answer.ensures.value
    (replaces-promised c.args.draft c.args.exports.now c.requires.begins c.replace.new.draft
    c.in_ok-replace.ensures.replaces c.answer.ensures.held c.answer.ensures.given)
