use Rattle.std.proofs.Common.{Err, Ok}
use Rattle.std.proofs.lemmas.Result.{err_from_is_err_and}
use Rattle.nfs_machine.specs.Locks.{fits_offsets}
use Rattle.nfs_inodes.proofs.NamedHaltLemmas.{means-as, number-as}
use Rattle.nfs_inodes.proofs.ReaderHaltLemmas.{exports-stop}
use Rattle.nlm_daemon.proofs.NlmHandleLemmas.{checked-judged, checked-nothing, first-read, place-of}
use Rattle.nlm_daemon.specs.Checks.{place_found}
use Rattle.nlm_daemon.proofs.checking.file_range.Goals as goal

pub returns-in_err-known-clause-checked : goal.returns-in_err-known-clause-checked
returns-in_err-known-clause-checked c =
    let p = err_from_is_err_and c.from_residual.result c.from_residual.ensures.1 in
    rw (p.1, p.2, ← c.as_slice.ensures) c.in_err-known.ensures.stops

pub returns-in-Err-clause-checked : goal.returns-in-Err-clause-checked
returns-in-Err-clause-checked c =
    checked-nothing c.args.draft.now c.args.lock.now.file (fits_offsets c.args.lock.now) c.args.writes _
    (means-as c.args.draft.now c.args.lock.now.file _ _ (Err _) c.as_slice.ensures c.in-Err.is
    c.in_ok-known.ensures.means)

pub returns-in-Err-clause-first : goal.returns-in-Err-clause-first
returns-in-Err-clause-first c =
    first-read c.args.draft.now.modes c.args.draft.now.view c.args.lock.now.file _ _ c.as_slice.ensures
    c.in_ok-known.ensures.first _

pub returns-in_err-exports-clause-checked : goal.returns-in_err-exports-clause-checked
returns-in_err-exports-clause-checked c =
    let p = err_from_is_err_and c.from_residual-in_err-exports.result c.from_residual-in_err-exports.ensures.1 in
    rw (p.1, p.2) (exports-stop c.args.draft.now c.args.lock.now.file _ c.in_err-exports.ensures.exports)

pub returns-in_err-exports-clause-first : goal.returns-in_err-exports-clause-first
returns-in_err-exports-clause-first c =
    first-read c.args.draft.now.modes c.args.draft.now.view c.args.lock.now.file _ _ c.as_slice.ensures
    c.in_ok-known.ensures.first _

pub returns-clause-checked : goal.returns-clause-checked
returns-clause-checked c =
    checked-judged c.args.draft.now c.args.lock.now.file (fits_offsets c.args.lock.now) c.args.writes c.in-Ok.known
    c.in_ok-exports.field-0.now
    (means-as c.args.draft.now c.args.lock.now.file _ _ (Ok c.in-Ok.known) c.as_slice.ensures c.in-Ok.is
    c.in_ok-known.ensures.means) c.in_ok-exports.ensures.exports (place_found c.judged_range.result)
    c.judged_range.ensures.checks

pub returns-clause-place : goal.returns-clause-place
returns-clause-place c =
    place-of c.args.draft.now c.args.lock.now.file c.in-Ok.known
    (means-as c.args.draft.now c.args.lock.now.file _ _ (Ok c.in-Ok.known) c.as_slice.ensures c.in-Ok.is
    c.in_ok-known.ensures.means)
    c.args.lock.now c.judged_range.result
    (number-as c.args.lock.now.file _ _ c.in-Ok.known c.as_slice.ensures c.in-Ok.is c.in_ok-known.ensures.number)
    c.judged_range.ensures.place c.judged_range.ensures.fits c.judged_range.ensures.regular

pub returns-clause-first : goal.returns-clause-first
returns-clause-first c =
    first-read c.args.draft.now.modes c.args.draft.now.view c.args.lock.now.file _ _ c.as_slice.ensures
    c.in_ok-known.ensures.first _
