use Rattle.std.proofs.Common.{sym}
use Rattle.std.proofs.lemmas.Result.{err_from_is_err_and}
use Rattle.nlm_daemon.proofs.NlmEndsLemmas.{comes-known, held-blocked, held-denied, held-none, held-put, longer-is}
use Rattle.nlm_daemon.proofs.locking.held_up.Goals as goal

pub returns-then-not-arguments : goal.returns-then-not-arguments
returns-then-not-arguments c =
    comes-known c.args.draft.now _ _ (held-denied c.args.draft.now c.args.arguments.now c.args.by_message
    c.args.place.now.file.known.number c.args.locks.now c.requires.knows c.if-not-arguments.true)

pub returns-then-is_waiting : goal.returns-then-is_waiting
returns-then-is_waiting c =
    comes-known c.args.draft.now _ _ (held-blocked c.args.draft.now c.args.arguments.now c.args.by_message
    c.args.place.now.file.known.number c.args.locks.now c.requires.knows c.if-not-arguments.false
    (sym c.if-is_waiting.ensures))

pub returns-in_err-number : goal.returns-in_err-number
returns-in_err-number c =
    let p = err_from_is_err_and c.from_residual.result c.from_residual.ensures.1 in
    rw (p.1, p.2) c.in_err-number.ensures

pub returns-in_default : goal.returns-in_default
returns-in_default c =
    comes-known c.args.draft.now _ _ (held-none c.args.draft.now c.args.arguments.now c.args.by_message
    c.args.place.now.file.known.number c.args.locks.now c.requires.knows c.if-not-arguments.false
    (sym c.if-is_waiting.ensures) (rw c.in_default.is at c.in_ok-number.ensures))

pub new-requires : goal.new-requires
new-requires c = c.requires.place.fits

pub set_locks_spending-requires-clause-next : goal.set_locks_spending-requires-clause-next
set_locks_spending-requires-clause-next c = rw c.in_ok-waiting.ensures ((rw c.in-Some.is at c.in_ok-number.ensures).0)

pub returns-in_err-set_locks_spending : goal.returns-in_err-set_locks_spending
returns-in_err-set_locks_spending c =
    let p = err_from_is_err_and c.from_residual-in_err-set_locks_spending.result
    c.from_residual-in_err-set_locks_spending.ensures.1 in
    rw (p.1, p.2) (rw c.in_ok-waiting.ensures at c.in_err-set_locks_spending.ensures)

pub returns : goal.returns
returns c =
    held-put c.args.draft.now c.args.arguments.now c.args.by_message c.args.place.now.file.known.number c.args.locks.now
    c.requires.knows c.if-not-arguments.false (sym c.if-is_waiting.ensures)
    c.set_locks_spending.new.draft c.in-Some.number (rw c.in-Some.is at c.in_ok-number.ensures).1
    c.args.place.now.file.known.export c.requires.place.lives c.in_ok-longer.longer
    (longer-is c.args.draft.now c.args.arguments.now c.args.by_message c.args.place.now.file.known.number
    c.args.locks.now c.requires.knows c.if-not-arguments.false (sym c.if-is_waiting.ensures)
    c.set_locks_spending.new.draft c.in-Some.number (rw c.in-Some.is at c.in_ok-number.ensures).1
    c.args.place.now.file.known.export c.requires.place.lives c.in_ok-request.request c.in_ok-longer.longer
    c.ctx.result.now c.ctx.ensures c.in_ok-request.ensures
    c.in_ok-longer.ensures)
    (rw c.in_ok-waiting.ensures at c.in_ok-set_locks_spending.ensures)
