use Rattle.std.proofs.Common.{◌∷◌, [], refl}
use Rattle.std.proofs.lemmas.Result.{err_from_is_err_and}
use Rattle.side_wire.specs.declared.nlm.NlmCall.TheVariants as nlm
use Rattle.side_wire.specs.declared.nlm.TestStatus.{TestStatus}
use Rattle.nfs_machine.specs.LockSteps.{TestEnds}
use Rattle.nfs_machine.specs.declared.calls.Call.TheVariants as calls
use Rattle.nfs_objects.specs.Attempt.{first_wanted_with}
use Rattle.nfs_objects.specs.declared.change.Change.{Change}
use Rattle.nlm_daemon.proofs.NlmWantsLemmas.{ends-first, ends-stopped}
use Rattle.nlm_daemon.proofs.NlmHandleLemmas.{first-halts, first-past}
use Rattle.nlm_daemon.proofs.NlmAnswerLemmas.{posted-promised, step-test-message}
use Rattle.nlm_daemon.specs.Comes.{lock_places}
use Rattle.nlm_daemon.proofs.testing.attempt_by_message.Goals as goal

pub tested-requires : goal.tested-requires
tested-requires c = c.requires.none

pub returns-in_err-status-clause-ends : goal.returns-in_err-status-clause-ends
returns-in_err-status-clause-ends c =
    let p = err_from_is_err_and c.from_residual.result c.from_residual.ensures.1 in
    rw (p.1, p.2)
    (ends-stopped (calls.Nlm (nlm.TestMsg c.args.arguments.now)) c.args.draft c.requires
    (lock_places c.args.draft.view c.args.arguments.now.lock.file) refl _ c.in_err-status.ensures.ends)

pub returns-in_err-status-clause-first : goal.returns-in_err-status-clause-first
returns-in_err-status-clause-first c =
    let p = err_from_is_err_and c.from_residual.result c.from_residual.ensures.1 in
    rw (p.1, p.2)
    (ends-first (calls.Nlm (nlm.TestMsg c.args.arguments.now)) c.args.draft c.requires
    (first_wanted_with c.args.draft.view (c.args.arguments.now.lock.file ∷ [])) refl _
    (first-halts TestStatus Change c.args.draft.modes c.args.draft.view _ _ c.in_err-status.ensures.first))

pub returns-in_err-cookie-clause-first : goal.returns-in_err-cookie-clause-first
returns-in_err-cookie-clause-first c =
    ends-first (calls.Nlm (nlm.TestMsg c.args.arguments.now)) c.args.draft c.requires
    (first_wanted_with c.args.draft.view (c.args.arguments.now.lock.file ∷ [])) refl _
    (first-past c.args.draft.modes c.args.draft.view _ _ c.in_ok-status.ensures.first _)

pub returns-in_err-post-clause-first : goal.returns-in_err-post-clause-first
returns-in_err-post-clause-first c =
    ends-first (calls.Nlm (nlm.TestMsg c.args.arguments.now)) c.args.draft c.requires
    (first_wanted_with c.args.draft.view (c.args.arguments.now.lock.file ∷ [])) refl _
    (first-past c.args.draft.modes c.args.draft.view _ _ c.in_ok-status.ensures.first _)

pub returns-clause-ends : goal.returns-clause-ends
returns-clause-ends c =
    posted-promised c.args.draft (calls.Nlm (nlm.TestMsg c.args.arguments.now)) c.requires
    (λ m. TestEnds m c.args.draft.ctx c.args.arguments.now) c.in_ok-status.status c.in_ok-status.ensures.ends _
    c.post.new.draft (rw (c.in_ok-cookie.ensures, c.as_slice.ensures) at c.in_ok-post.ensures) _ _
    c.answer.ensures.value c.answer.ensures.held c.answer.ensures.given
    (λ m ends. step-test-message m c.args.draft.ctx c.args.arguments.now c.in_ok-status.status ends)

pub returns-clause-first : goal.returns-clause-first
returns-clause-first c =
    ends-first (calls.Nlm (nlm.TestMsg c.args.arguments.now)) c.args.draft c.requires
    (first_wanted_with c.args.draft.view (c.args.arguments.now.lock.file ∷ [])) refl _
    (first-past c.args.draft.modes c.args.draft.view _ _ c.in_ok-status.ensures.first _)
