use Rattle.std.proofs.Common.{◌∷◌, []}
use Rattle.std.proofs.lemmas.Result.{err_from_is_err_and}
use Rattle.nfs_objects.specs.Attempt.{first_wanted_with}
use Rattle.nlm_daemon.proofs.AttemptPromiseLemmas.{cancels-promised}
use Rattle.nlm_daemon.proofs.NlmWantsLemmas.{begins-alone, ends-first, ends-memory, ends-stopped, canceling-of}
use Rattle.nlm_daemon.proofs.NlmHandleLemmas.{first-halts, first-past}
use Rattle.nlm_daemon.specs.Answering.{IsAnswered, canceling_call}
use Rattle.nlm_daemon.specs.Comes.{lock_places}
use Rattle.side_wire.specs.declared.nlm.NlmStatus.{NlmStatus}
use Rattle.nfs_objects.specs.declared.change.Change.{Change}
use Rattle.nlm_daemon.proofs.unlocking.cancel.Goals as goal

pub canceled-requires-clause-none : goal.canceled-requires-clause-none
canceled-requires-clause-none c = c.requires.begins.none

pub canceled-requires-clause-alone : goal.canceled-requires-clause-alone
canceled-requires-clause-alone c =
    begins-alone (canceling_call c.args.procedure c.args.arguments.now) c.args.draft c.requires.begins
    (canceling-of c.args.procedure c.args.arguments.now).alone

pub returns-in_err-status-clause-ends : goal.returns-in_err-status-clause-ends
returns-in_err-status-clause-ends c =
    let p = err_from_is_err_and c.from_residual.result c.from_residual.ensures.1 in
    rw (p.1, p.2)
    (ends-stopped (canceling_call c.args.procedure c.args.arguments.now) c.args.draft c.requires.begins
    (lock_places c.args.draft.view c.args.arguments.now.lock.file)
    ((canceling-of c.args.procedure c.args.arguments.now).named c.args.draft.view) _
    c.in_err-status.ensures.ends)

pub returns-in_err-status-clause-first : goal.returns-in_err-status-clause-first
returns-in_err-status-clause-first c =
    let p = err_from_is_err_and c.from_residual.result c.from_residual.ensures.1 in
    rw (p.1, p.2)
    (ends-first (canceling_call c.args.procedure c.args.arguments.now) c.args.draft c.requires.begins
    (first_wanted_with c.args.draft.view (c.args.arguments.now.lock.file ∷ []))
    ((canceling-of c.args.procedure c.args.arguments.now).first c.args.draft.view) _
    (first-halts NlmStatus Change c.args.draft.modes c.args.draft.view _ _ c.in_err-status.ensures.first))

pub returns-clause-ends : goal.returns-clause-ends
returns-clause-ends c =
    ends-memory (canceling_call c.args.procedure c.args.arguments.now) c.args.draft c.args.draft.ctx c.answer.result
    (IsAnswered c.canceled.new.draft c.args.procedure c.args.arguments.now.cookie c.in_ok-status.status)
    c.answer.ensures
    (λ change answered. cancels-promised c.args.draft c.canceled.new.draft c.in_ok-status.status change
    c.args.procedure c.args.arguments.now c.requires.cancels c.requires.begins
    c.in_ok-status.ensures.ends answered)

pub returns-clause-first : goal.returns-clause-first
returns-clause-first c =
    ends-first (canceling_call c.args.procedure c.args.arguments.now) c.args.draft c.requires.begins
    (first_wanted_with c.args.draft.view (c.args.arguments.now.lock.file ∷ []))
    ((canceling-of c.args.procedure c.args.arguments.now).first c.args.draft.view) _
    (first-past c.args.draft.modes c.args.draft.view _ _ c.in_ok-status.ensures.first _)
