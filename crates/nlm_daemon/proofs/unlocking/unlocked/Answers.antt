use Rattle.std.proofs.Common.{Result}
use Rattle.std.proofs.lemmas.Result.{err_from_is_err_and}
use Rattle.nlm_daemon.proofs.NlmWantsLemmas.{stops-behind, stops-locks, stops-named}
use Rattle.nlm_daemon.proofs.NlmEndsLemmas.{comes-known, unlock-fault, unlock-granted, unlock-nothing}
use Rattle.nlm_daemon.proofs.NlmHandleLemmas.{first-halts, first-past}
use Rattle.nlm_daemon.specs.Checks.{IsPlaceOf, fault_value}
use Rattle.side_wire.specs.declared.nlm.NlmStatus.{NlmStatus}
use Rattle.nlm_daemon.specs.declared.checking.LockFault.{LockFault}
use Rattle.nlm_daemon.specs.declared.checking.FileRange.{FileRange}
use Rattle.nlm_daemon.proofs.unlocking.unlocked.Goals as goal

pub returns-in_err-place-clause-ends : goal.returns-in_err-place-clause-ends
returns-in_err-place-clause-ends c =
    let p = err_from_is_err_and c.from_residual.result c.from_residual.ensures.1 in
    rw (p.1, p.2) (stops-named c.args.draft.now c.args.arguments.now.lock.file _ c.in_err-place.ensures.checked)

pub returns-in_err-place-clause-first : goal.returns-in_err-place-clause-first
returns-in_err-place-clause-first c =
    let p = err_from_is_err_and c.from_residual.result c.from_residual.ensures.1 in
    rw (p.1, p.2) (first-halts (Result FileRange LockFault) NlmStatus c.args.draft.now.modes c.args.draft.now.view _ _
    c.in_err-place.ensures.first)

pub returns-in-Err-clause-ends : goal.returns-in-Err-clause-ends
returns-in-Err-clause-ends c =
    rw c.status.ensures
    (unlock-fault c.args.draft.now (fault_value c.in-Err.fault) c.args.arguments.now
    (rw c.in-Err.is at c.in_ok-place.ensures.checked))

pub returns-in-Err-clause-first : goal.returns-in-Err-clause-first
returns-in-Err-clause-first c =
    first-past c.args.draft.now.modes c.args.draft.now.view _ _ c.in_ok-place.ensures.first _

pub returns-in_err-locks-clause-ends : goal.returns-in_err-locks-clause-ends
returns-in_err-locks-clause-ends c =
    let p = err_from_is_err_and c.from_residual-in_err-locks.result c.from_residual-in_err-locks.ensures.1 in
    let place : IsPlaceOf c.args.draft.now c.args.arguments.now.lock c.in-Ok.place =
    rw c.in-Ok.is at c.in_ok-place.ensures.place in
    rw (p.1, p.2) (stops-behind c.args.draft.now c.args.arguments.now.lock.file _ c.in-Ok.place.file.known.number
    place.number c.in_err-locks.ensures)

pub returns-in_default-clause-ends : goal.returns-in_default-clause-ends
returns-in_default-clause-ends c =
    comes-known c.args.draft.now _ _ (unlock-nothing c.args.draft.now c.args.draft.now c.args.arguments.now
    c.in-Ok.place.file.known.number (rw c.in-Ok.is at c.in_ok-place.ensures.checked)
    (rw c.in_default.is at c.in_ok-locks.ensures))

pub returns-in_err-put_settled-clause-ends : goal.returns-in_err-put_settled-clause-ends
returns-in_err-put_settled-clause-ends c =
    let p =
    err_from_is_err_and c.from_residual-in_err-put_settled.result c.from_residual-in_err-put_settled.ensures.1 in
    let place : IsPlaceOf c.args.draft.now c.args.arguments.now.lock c.in-Ok.place =
    rw c.in-Ok.is at c.in_ok-place.ensures.place in
    rw (p.1, p.2) (stops-locks c.args.draft.now c.args.arguments.now.lock.file _ c.in-Ok.place.file.known.number
    place.number c.in_err-put_settled.ensures)

pub returns-clause-ends : goal.returns-clause-ends
returns-clause-ends c =
    let place : IsPlaceOf c.args.draft.now c.args.arguments.now.lock c.in-Ok.place =
    rw c.in-Ok.is at c.in_ok-place.ensures.place in
    unlock-granted c.args.draft.now c.put_settled.new.draft c.args.arguments.now c.in-Ok.place.file.known.number
    (rw c.in-Ok.is at c.in_ok-place.ensures.checked) c.in-Some.locks.now
    (rw c.in-Some.is at c.in_ok-locks.ensures) c.in-Ok.place.file.known.export place.lives c.in_ok-settled.settled
    c.in_ok-left.left (rw place.range at c.in_ok-left.ensures) (rw place.range at c.in_ok-settled.ensures)
    c.in_ok-put_settled.ensures

pub returns-in_err-locks-clause-first : goal.returns-in_err-locks-clause-first
returns-in_err-locks-clause-first c =
    first-past c.args.draft.now.modes c.args.draft.now.view _ _ c.in_ok-place.ensures.first _

pub returns-in_default-clause-first : goal.returns-in_default-clause-first
returns-in_default-clause-first c =
    first-past c.args.draft.now.modes c.args.draft.now.view _ _ c.in_ok-place.ensures.first _

pub returns-in_err-left-clause-first : goal.returns-in_err-left-clause-first
returns-in_err-left-clause-first c =
    first-past c.args.draft.now.modes c.args.draft.now.view _ _ c.in_ok-place.ensures.first _

pub returns-in_err-settled-clause-first : goal.returns-in_err-settled-clause-first
returns-in_err-settled-clause-first c =
    first-past c.args.draft.now.modes c.args.draft.now.view _ _ c.in_ok-place.ensures.first _

pub returns-in_err-put_settled-clause-first : goal.returns-in_err-put_settled-clause-first
returns-in_err-put_settled-clause-first c =
    first-past c.args.draft.now.modes c.args.draft.now.view _ _ c.in_ok-place.ensures.first _

pub returns-clause-first : goal.returns-clause-first
returns-clause-first c = first-past c.args.draft.now.modes c.args.draft.now.view _ _ c.in_ok-place.ensures.first _
