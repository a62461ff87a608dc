use Rattle.std.proofs.Common.{refl, Result}
use Rattle.std.proofs.lemmas.Result.{err_from_is_err_and}
use Rattle.nlm_ranges.specs.Files.{no_file}
use Rattle.nlm_daemon.proofs.NlmWantsLemmas.{stops-behind, stops-locks, stops-named}
use Rattle.nlm_daemon.proofs.NlmEndsLemmas.{comes-known, unshare-fault, unshare-nothing, unshare-put}
use Rattle.nlm_daemon.proofs.NlmHandleLemmas.{first-halts, first-past}
use Rattle.nlm_daemon.specs.Checks.{fault_value}
use Rattle.side_wire.specs.declared.nlm.NlmStatus.{NlmStatus}
use Rattle.nlm_daemon.specs.declared.checking.LockFault.{LockFault}
use Rattle.nfs_inodes.specs.declared.kinds.KnownFile.{KnownFile}
use Rattle.nlm_daemon.proofs.sharing.unshared.Goals as goal

pub returns-in_err-file-clause-ends : goal.returns-in_err-file-clause-ends
returns-in_err-file-clause-ends c =
    let p = err_from_is_err_and c.from_residual.result c.from_residual.ensures.1 in
    rw (p.1, p.2) (stops-named c.args.draft.now c.args.arguments.now.share.file _ c.in_err-file.ensures.checked)

pub returns-in_err-file-clause-first : goal.returns-in_err-file-clause-first
returns-in_err-file-clause-first c =
    let p = err_from_is_err_and c.from_residual.result c.from_residual.ensures.1 in
    rw (p.1, p.2) (first-halts (Result KnownFile LockFault) NlmStatus c.args.draft.now.modes c.args.draft.now.view _ _
    c.in_err-file.ensures.first)

pub returns-in-Err-clause-ends : goal.returns-in-Err-clause-ends
returns-in-Err-clause-ends c =
    rw c.status.ensures
    (unshare-fault c.args.draft.now (fault_value c.in-Err.fault) c.args.arguments.now
    (rw c.in-Err.is at c.in_ok-file.ensures.checked))

pub returns-in-Err-clause-first : goal.returns-in-Err-clause-first
returns-in-Err-clause-first c = first-past c.args.draft.now.modes c.args.draft.now.view _ _ c.in_ok-file.ensures.first _

pub returns-in_err-locks-clause-ends : goal.returns-in_err-locks-clause-ends
returns-in_err-locks-clause-ends c =
    let p = err_from_is_err_and c.from_residual-in_err-locks.result c.from_residual-in_err-locks.ensures.1 in
    rw (p.1, p.2) (stops-behind c.args.draft.now c.args.arguments.now.share.file _ c.in-Ok.file.known.number
    (rw c.in-Ok.is at c.in_ok-file.ensures.number) c.in_err-locks.ensures)

pub returns-in_default-clause-ends : goal.returns-in_default-clause-ends
returns-in_default-clause-ends c =
    comes-known c.args.draft.now _ _ (unshare-nothing c.args.draft.now c.args.draft.now c.args.arguments.now
    c.in-Ok.file.known.number (rw c.in-Ok.is at c.in_ok-file.ensures.checked) no_file
    (rw c.in_default.is at c.in_ok-locks.ensures) refl)

pub returns-in_err-put-clause-ends : goal.returns-in_err-put-clause-ends
returns-in_err-put-clause-ends c =
    let p = err_from_is_err_and c.from_residual-in_err-put.result c.from_residual-in_err-put.ensures.1 in
    rw (p.1, p.2) (stops-locks c.args.draft.now c.args.arguments.now.share.file _ c.in-Ok.file.known.number
    (rw c.in-Ok.is at c.in_ok-file.ensures.number) c.in_err-put.ensures)

pub returns-clause-ends : goal.returns-clause-ends
returns-clause-ends c =
    unshare-put c.args.draft.now c.put.new.draft c.args.arguments.now c.in-Ok.file.known.number
    (rw c.in-Ok.is at c.in_ok-file.ensures.checked) c.in-Some.locks.now (rw c.in-Some.is at c.in_ok-locks.ensures)
    c.in-Ok.file.known.export (rw c.in-Ok.is at c.in_ok-file.ensures.lives) c.in_ok-less.less c.in_ok-less.ensures
    c.in_ok-put.ensures

pub returns-in_err-locks-clause-first : goal.returns-in_err-locks-clause-first
returns-in_err-locks-clause-first c =
    first-past c.args.draft.now.modes c.args.draft.now.view _ _ c.in_ok-file.ensures.first _

pub returns-in_default-clause-first : goal.returns-in_default-clause-first
returns-in_default-clause-first c =
    first-past c.args.draft.now.modes c.args.draft.now.view _ _ c.in_ok-file.ensures.first _

pub returns-in_err-less-clause-first : goal.returns-in_err-less-clause-first
returns-in_err-less-clause-first c =
    first-past c.args.draft.now.modes c.args.draft.now.view _ _ c.in_ok-file.ensures.first _

pub returns-in_err-put-clause-first : goal.returns-in_err-put-clause-first
returns-in_err-put-clause-first c =
    first-past c.args.draft.now.modes c.args.draft.now.view _ _ c.in_ok-file.ensures.first _

pub returns-clause-first : goal.returns-clause-first
returns-clause-first c = first-past c.args.draft.now.modes c.args.draft.now.view _ _ c.in_ok-file.ensures.first _
