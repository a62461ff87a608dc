use Rattle.std.proofs.Common.{◌∷◌, []}
use Rattle.std.proofs.lemmas.Result.{err_from_is_err_and}
use Rattle.nfs_machine.specs.declared.calls.Call.TheVariants as calls
use Rattle.side_wire.specs.declared.nlm.NlmCall.TheVariants as nlm
use Rattle.nfs_objects.specs.Attempt.{first_wanted_with}
use Rattle.nlm_daemon.proofs.AttemptPromiseLemmas.{unshares-promised}
use Rattle.nlm_daemon.proofs.NlmWantsLemmas.{begins-alone, ends-first, ends-memory, ends-stopped, unsharing-of}
use Rattle.nlm_daemon.proofs.NlmHandleLemmas.{first-halts, first-past}
use Rattle.nlm_daemon.specs.Answering.{IsAnswered}
use Rattle.nlm_daemon.specs.Comes.{lock_places}
use Rattle.nlm_daemon.specs.declared.answering.Procedure.TheVariants as procedures
use Rattle.side_wire.specs.declared.nlm.NlmStatus.{NlmStatus}
use Rattle.nfs_objects.specs.declared.change.Change.{Change}
use Rattle.nlm_daemon.proofs.sharing.unshare.Goals as goal

pub unshared-requires-clause-none : goal.unshared-requires-clause-none
unshared-requires-clause-none c = c.requires.none

pub unshared-requires-clause-alone : goal.unshared-requires-clause-alone
unshared-requires-clause-alone c =
    begins-alone (calls.Nlm (nlm.Unshare c.args.arguments.now)) c.args.draft c.requires
    (unsharing-of c.args.arguments.now).alone

pub returns-in_err-status-clause-ends : goal.returns-in_err-status-clause-ends
returns-in_err-status-clause-ends c =
    let p = err_from_is_err_and c.from_residual.result c.from_residual.ensures.1 in
    rw (p.1, p.2)
    (ends-stopped (calls.Nlm (nlm.Unshare c.args.arguments.now)) c.args.draft c.requires
    (lock_places c.args.draft.view c.args.arguments.now.share.file)
    ((unsharing-of c.args.arguments.now).named c.args.draft.view) _
    c.in_err-status.ensures.ends)

pub returns-in_err-status-clause-first : goal.returns-in_err-status-clause-first
returns-in_err-status-clause-first c =
    let p = err_from_is_err_and c.from_residual.result c.from_residual.ensures.1 in
    rw (p.1, p.2)
    (ends-first (calls.Nlm (nlm.Unshare c.args.arguments.now)) c.args.draft c.requires
    (first_wanted_with c.args.draft.view (c.args.arguments.now.share.file ∷ []))
    ((unsharing-of c.args.arguments.now).first c.args.draft.view) _
    (first-halts NlmStatus Change c.args.draft.modes c.args.draft.view _ _ c.in_err-status.ensures.first))

pub returns-clause-ends : goal.returns-clause-ends
returns-clause-ends c =
    ends-memory (calls.Nlm (nlm.Unshare c.args.arguments.now)) c.args.draft c.args.draft.ctx c.answer.result
    (IsAnswered c.unshared.new.draft procedures.Unshare c.args.arguments.now.cookie c.in_ok-status.status)
    c.answer.ensures
    (λ change answered. unshares-promised c.args.draft c.unshared.new.draft c.in_ok-status.status change
    c.args.arguments.now c.requires
    c.in_ok-status.ensures.ends answered)

pub returns-clause-first : goal.returns-clause-first
returns-clause-first c =
    ends-first (calls.Nlm (nlm.Unshare c.args.arguments.now)) c.args.draft c.requires
    (first_wanted_with c.args.draft.view (c.args.arguments.now.share.file ∷ []))
    ((unsharing-of c.args.arguments.now).first c.args.draft.view) _
    (first-past c.args.draft.modes c.args.draft.view _ _ c.in_ok-status.ensures.first _)
