use Rattle.std.proofs.Common.{ap, ◌∙◌}
use Rattle.std.proofs.lemmas.Result.{err_from_is_err_and}
use Rattle.nfs_machine.specs.OneFile.{requested}
use Rattle.nlm_daemon.proofs.GrantEndsLemmas.{grant-back, grant-kept}
use Rattle.nlm_daemon.proofs.granting.end_grant.Goals as goal

pub returns-in_err-put-in-Granted : goal.returns-in_err-put-in-Granted
returns-in_err-put-in-Granted c =
    let p = err_from_is_err_and c.from_residual-in_err-put-in-Granted.result
    c.from_residual-in_err-put-in-Granted.ensures.1 in
    rw (p.1, p.2) (rw c.number-number.ensures at c.in_err-put-in-Granted.ensures)

pub returns-in_ok-put-in-Granted : goal.returns-in_ok-put-in-Granted
returns-in_ok-put-in-Granted c =
    grant-kept c.args.draft.now c.put.new.draft c.args.pending.now c.requires.knows _ c.args.status c.in-Granted.is
    c.in_ok-left.left (rw (c.file.ensures, c.number.ensures, c.deref.ensures) at c.in_ok-left.ensures)
    c.number-number.result c.export-export.result c.number-number.ensures c.export-export.ensures
    c.in_ok-put-in-Granted.ensures

pub returns-in_err-put_settled-in_default : goal.returns-in_err-put_settled-in_default
returns-in_err-put_settled-in_default c =
    let p = err_from_is_err_and c.from_residual-in_err-put_settled-in_default.result
    c.from_residual-in_err-put_settled-in_default.ensures.1 in
    rw (p.1, p.2) (rw c.number-number.ensures at c.in_err-put_settled-in_default.ensures)

pub returns-in_ok-put_settled-in_default : goal.returns-in_ok-put_settled-in_default
returns-in_ok-put_settled-in_default c =
    grant-back c.args.draft.now c.put_settled.new.draft c.args.pending.now c.requires.knows _ c.args.status
    c.in_default.not-Granted c.in_ok-settled-in_default.settled c.in_ok-left.left
    (rw (c.file.ensures, c.number.ensures, c.deref.ensures) at c.in_ok-left.ensures) _
    (c.range.ensures ∙ ap requested c.deref-in_default.ensures) c.in_ok-settled-in_default.ensures
    c.number-number.result c.export-export.result c.number-number.ensures c.export-export.ensures
    c.in_ok-put_settled-in_default.ensures
