use Rattle.std.proofs.Common.{Result}
use Rattle.std.proofs.lemmas.Result.{err_from_is_err_and}
use Rattle.side_wire.specs.declared.nlm.TestStatus.{TestStatus}
use Rattle.nlm_ranges.specs.Files.{no_file}
use Rattle.nlm_daemon.proofs.NlmWantsLemmas.{stops-behind, stops-named}
use Rattle.nlm_daemon.proofs.NlmEndsLemmas.{nothing-held, test-fault, test-free, test-held, way-rises}
use Rattle.nlm_daemon.proofs.NlmHandleLemmas.{first-halts, first-past}
use Rattle.nlm_daemon.specs.Checks.{IsPlaceOf, fault_value}
use Rattle.nlm_daemon.specs.declared.checking.LockFault.{LockFault}
use Rattle.nlm_daemon.specs.declared.checking.FileRange.{FileRange}
use Rattle.nlm_daemon.proofs.testing.tested.Goals as goal

pub returns-in_err-place-clause-ends : goal.returns-in_err-place-clause-ends
returns-in_err-place-clause-ends c =
    let p = err_from_is_err_and c.from_residual.result c.from_residual.ensures.1 in
    rw (p.1, p.2) (stops-named c.args.draft.now c.args.arguments.now.lock.file _ c.in_err-place.ensures.checked)

pub returns-in_err-place-clause-first : goal.returns-in_err-place-clause-first
returns-in_err-place-clause-first c =
    let p = err_from_is_err_and c.from_residual.result c.from_residual.ensures.1 in
    rw (p.1, p.2) (first-halts (Result FileRange LockFault) TestStatus c.args.draft.now.modes c.args.draft.now.view _ _
    c.in_err-place.ensures.first)

pub returns-in-Err-clause-ends : goal.returns-in-Err-clause-ends
returns-in-Err-clause-ends c =
    rw c.test_status.ensures
    (test-fault c.args.draft.now c.args.arguments.now (fault_value c.in-Err.fault)
    (rw c.in-Err.is at c.in_ok-place.ensures.checked))

pub returns-in-Err-clause-first : goal.returns-in-Err-clause-first
returns-in-Err-clause-first c =
    first-past c.args.draft.now.modes c.args.draft.now.view _ _ c.in_ok-place.ensures.first _

pub returns-in_err-locks-clause-ends : goal.returns-in_err-locks-clause-ends
returns-in_err-locks-clause-ends c =
    let p = err_from_is_err_and c.from_residual-in_err-locks.result c.from_residual-in_err-locks.ensures.1 in
    let place : IsPlaceOf c.args.draft.now c.args.arguments.now.lock c.in-Ok.place =
    rw c.in-Ok.is at c.in_ok-place.ensures.place in
    rw (p.1, p.2) (stops-behind c.args.draft.now c.args.arguments.now.lock.file _ c.in-Ok.place.file.known.number
    place.number c.in_err-locks.ensures)

pub returns-in_err-locks-clause-first : goal.returns-in_err-locks-clause-first
returns-in_err-locks-clause-first c =
    first-past c.args.draft.now.modes c.args.draft.now.view _ _ c.in_ok-place.ensures.first _

pub returns-in_default-clause-ends : goal.returns-in_default-clause-ends
returns-in_default-clause-ends c =
    test-free c.args.draft.now c.args.arguments.now c.in-Ok.place.file.known.number
    (rw c.in-Ok.is at c.in_ok-place.ensures.checked) no_file (rw c.in_default.is at c.in_ok-locks.ensures)
    (nothing-held _ _)

pub returns-in_default-clause-first : goal.returns-in_default-clause-first
returns-in_default-clause-first c =
    first-past c.args.draft.now.modes c.args.draft.now.view _ _ c.in_ok-place.ensures.first _

pub returns-in_default-test-clause-ends : goal.returns-in_default-test-clause-ends
returns-in_default-test-clause-ends c =
    let place : IsPlaceOf c.args.draft.now c.args.arguments.now.lock c.in-Ok.place =
    rw c.in-Ok.is at c.in_ok-place.ensures.place in
    test-free c.args.draft.now c.args.arguments.now c.in-Ok.place.file.known.number
    (rw c.in-Ok.is at c.in_ok-place.ensures.checked) c.in-Some.locks.now
    (rw c.in-Some.is at c.in_ok-locks.ensures) (rw place.range at c.in_default-test.ensures.free)

pub returns-in_default-test-clause-first : goal.returns-in_default-test-clause-first
returns-in_default-test-clause-first c =
    first-past c.args.draft.now.modes c.args.draft.now.view _ _ c.in_ok-place.ensures.first _

pub holder-requires : goal.holder-requires
holder-requires c = way-rises _ _ _ _ c.in-Some-test.ensures.held

pub returns-in_err-holder-clause-first : goal.returns-in_err-holder-clause-first
returns-in_err-holder-clause-first c =
    first-past c.args.draft.now.modes c.args.draft.now.view _ _ c.in_ok-place.ensures.first _

pub returns-clause-ends : goal.returns-clause-ends
returns-clause-ends c =
    let place : IsPlaceOf c.args.draft.now c.args.arguments.now.lock c.in-Ok.place =
    rw c.in-Ok.is at c.in_ok-place.ensures.place in
    rw c.in_ok-holder.ensures
    (test-held c.args.draft.now c.args.arguments.now c.in-Ok.place.file.known.number
    (rw c.in-Ok.is at c.in_ok-place.ensures.checked) c.in-Some.locks.now
    (rw c.in-Some.is at c.in_ok-locks.ensures) c.in-Some-test.held.now
    (rw place.range at c.in-Some-test.ensures.held))

pub returns-clause-first : goal.returns-clause-first
returns-clause-first c =
    first-past c.args.draft.now.modes c.args.draft.now.view _ _ c.in_ok-place.ensures.first _
