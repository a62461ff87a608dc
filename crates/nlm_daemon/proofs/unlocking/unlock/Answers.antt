use Rattle.std.proofs.Common.{◌∷◌, []}
use Rattle.std.proofs.lemmas.Result.{err_from_is_err_and}
use Rattle.nfs_objects.specs.Attempt.{first_wanted_with}
use Rattle.nlm_daemon.proofs.AttemptPromiseLemmas.{unlocks-promised}
use Rattle.nlm_daemon.proofs.NlmWantsLemmas.{begins-alone, ends-first, ends-memory, ends-stopped, unlocking-of}
use Rattle.nlm_daemon.proofs.NlmHandleLemmas.{first-halts, first-past}
use Rattle.nlm_daemon.specs.Answering.{IsAnswered, unlocking_call}
use Rattle.nlm_daemon.specs.Comes.{lock_places}
use Rattle.side_wire.specs.declared.nlm.NlmStatus.{NlmStatus}
use Rattle.nfs_objects.specs.declared.change.Change.{Change}
use Rattle.nlm_daemon.proofs.unlocking.unlock.Goals as goal

pub unlocked-requires-clause-none : goal.unlocked-requires-clause-none
unlocked-requires-clause-none c = c.requires.begins.none

pub unlocked-requires-clause-alone : goal.unlocked-requires-clause-alone
unlocked-requires-clause-alone c =
    begins-alone (unlocking_call c.args.procedure c.args.arguments.now) c.args.draft c.requires.begins
    (unlocking-of c.args.procedure c.args.arguments.now).alone

pub returns-in_err-status-clause-ends : goal.returns-in_err-status-clause-ends
returns-in_err-status-clause-ends c =
    let p = err_from_is_err_and c.from_residual.result c.from_residual.ensures.1 in
    rw (p.1, p.2)
    (ends-stopped (unlocking_call c.args.procedure c.args.arguments.now) c.args.draft c.requires.begins
    (lock_places c.args.draft.view c.args.arguments.now.lock.file)
    ((unlocking-of c.args.procedure c.args.arguments.now).named c.args.draft.view) _
    c.in_err-status.ensures.ends)

pub returns-in_err-status-clause-first : goal.returns-in_err-status-clause-first
returns-in_err-status-clause-first c =
    let p = err_from_is_err_and c.from_residual.result c.from_residual.ensures.1 in
    rw (p.1, p.2)
    (ends-first (unlocking_call c.args.procedure c.args.arguments.now) c.args.draft c.requires.begins
    (first_wanted_with c.args.draft.view (c.args.arguments.now.lock.file ∷ []))
    ((unlocking-of c.args.procedure c.args.arguments.now).first c.args.draft.view) _
    (first-halts NlmStatus Change c.args.draft.modes c.args.draft.view _ _ c.in_err-status.ensures.first))

pub returns-clause-ends : goal.returns-clause-ends
returns-clause-ends c =
    ends-memory (unlocking_call c.args.procedure c.args.arguments.now) c.args.draft c.args.draft.ctx c.answer.result
    (IsAnswered c.unlocked.new.draft c.args.procedure c.args.arguments.now.cookie c.in_ok-status.status)
    c.answer.ensures
    (λ change answered. unlocks-promised c.args.draft c.unlocked.new.draft c.in_ok-status.status change
    c.args.procedure c.args.arguments.now c.requires.unlocks c.requires.begins
    c.in_ok-status.ensures.ends answered)

pub returns-clause-first : goal.returns-clause-first
returns-clause-first c =
    ends-first (unlocking_call c.args.procedure c.args.arguments.now) c.args.draft c.requires.begins
    (first_wanted_with c.args.draft.view (c.args.arguments.now.lock.file ∷ []))
    ((unlocking-of c.args.procedure c.args.arguments.now).first c.args.draft.view) _
    (first-past c.args.draft.modes c.args.draft.view _ _ c.in_ok-status.ensures.first _)
