-- A call that comes to a status, and its answer, is its promise.
use Rattle.std.proofs.Common.{◌≡◌, ◌∙◌, ◌++◌, ℕ, Bool, List, true, ap, subst}
use Rattle.side_wire.specs.declared.message.Message.{Message}
use Rattle.side_wire.specs.declared.nlm.CancelArguments.{CancelArguments}
use Rattle.side_wire.specs.declared.nlm.LockArguments.{LockArguments}
use Rattle.side_wire.specs.declared.nlm.NlmCall.TheVariants as nlm
use Rattle.side_wire.specs.declared.nlm.NlmStatus.{NlmStatus}
use Rattle.side_wire.specs.declared.nlm.ShareArguments.{ShareArguments}
use Rattle.side_wire.specs.declared.nlm.UnlockArguments.{UnlockArguments}
use Rattle.nfs_machine.specs.LockSteps.{CancelEnds, LockEnds, ShareEnds, UnlockEnds, UnshareEnds}
use Rattle.nfs_machine.specs.State.{State}
use Rattle.nfs_machine.specs.Step.{Step}
use Rattle.nfs_machine.specs.declared.calls.Call.{Call}
use Rattle.nfs_machine.specs.declared.calls.Call.TheVariants as calls
use Rattle.nfs_machine.specs.declared.calls.Reply.TheVariants as answers
use Rattle.nfs_machine.specs.declared.context.Ctx.{Ctx}
use Rattle.nfs_objects.specs.Begins.{Begins}
use Rattle.nfs_objects.specs.Promise.{IsPromised}
use Rattle.nfs_objects.specs.Values.{ChangeValue, DraftValue, done_value}
use Rattle.nlm_daemon.proofs.NlmPromiseLemmas.{promised-comes}
use Rattle.nlm_daemon.proofs.NlmStepLemmas.{step-cancels, step-locks, step-shares, step-unlocks, step-unshares}
use Rattle.nlm_daemon.specs.Answering.{IsAnswered, canceling_call, is_canceling, is_locking, is_message, is_unlocking}
use Rattle.nlm_daemon.specs.Answering.{locking_call, posted_by, reply_of, unlocking_call}
use Rattle.nlm_daemon.specs.Comes.{ComesTo}
use Rattle.nlm_daemon.specs.declared.answering.Procedure.{Procedure}
use Rattle.nlm_daemon.specs.declared.answering.Procedure.TheVariants as procedures

module _ (d new : DraftValue) (status : NlmStatus) (change : ChangeValue) where
  answered-promised : (call : Call) (procedure : Procedure) (cookie : List ℕ)
      (IsEnd : State → NlmStatus → List Message → State → Type 0) → Begins call d → ComesTo d new IsEnd status →
      IsAnswered new procedure cookie status change →
      ((m : State) (messages : List Message) (after : State) → IsEnd m status messages after →
      Step m d.ctx call (answers.Nlm (reply_of procedure cookie status))
      (messages ++ posted_by procedure d.ctx.host cookie status) after) →
      IsPromised (done_value call d.ctx d.view change)
  answered-promised call procedure cookie IsEnd begins comes answered steps =
      promised-comes d new IsEnd status begins.none begins.quiet comes call
      (answers.Nlm (reply_of procedure cookie status)) (posted_by procedure d.ctx.host cookie status) change
      answered.writes
      (answered.messages
      ∙ ap (λ (x : Ctx). new.messages ++ posted_by procedure x.host cookie status) comes.turns.turns.ctx)
      answered.reply answered.held answered.given
      (λ s k w formed ends. steps k.state comes.messages (comes.op k).state ends)

  pub locks-promised : (procedure : Procedure) (a : LockArguments) → is_locking procedure ≡ true →
      Begins (locking_call procedure a) d → (by_message : Bool) → by_message ≡ is_message procedure →
      ComesTo d new (λ m. LockEnds m d.ctx a by_message) status → IsAnswered new procedure a.cookie status change →
      IsPromised (done_value (locking_call procedure a) d.ctx d.view change)
  locks-promised procedure a is begins by_message same comes answered =
      answered-promised (locking_call procedure a) procedure a.cookie
      (λ m. LockEnds m d.ctx a (is_message procedure)) begins
      (subst (λ b. ComesTo d new (λ m. LockEnds m d.ctx a b) status) same comes) answered
      (λ m messages after ends. step-locks m d.ctx status messages after procedure a is ends)

  pub cancels-promised : (procedure : Procedure) (a : CancelArguments) → is_canceling procedure ≡ true →
      Begins (canceling_call procedure a) d → ComesTo d new (λ m. CancelEnds m d.ctx a) status →
      IsAnswered new procedure a.cookie status change →
      IsPromised (done_value (canceling_call procedure a) d.ctx d.view change)
  cancels-promised procedure a is begins comes answered =
      answered-promised (canceling_call procedure a) procedure a.cookie (λ m. CancelEnds m d.ctx a) begins comes
      answered (λ m messages after ends. step-cancels m d.ctx status messages after procedure a is ends)

  pub unlocks-promised : (procedure : Procedure) (a : UnlockArguments) → is_unlocking procedure ≡ true →
      Begins (unlocking_call procedure a) d → ComesTo d new (λ m. UnlockEnds m d.ctx a) status →
      IsAnswered new procedure a.cookie status change →
      IsPromised (done_value (unlocking_call procedure a) d.ctx d.view change)
  unlocks-promised procedure a is begins comes answered =
      answered-promised (unlocking_call procedure a) procedure a.cookie (λ m. UnlockEnds m d.ctx a) begins comes
      answered (λ m messages after ends. step-unlocks m d.ctx status messages after procedure a is ends)

  module _ (a : ShareArguments) where
    pub shares-promised : Begins (calls.Nlm (nlm.Share a)) d → ComesTo d new (λ m. ShareEnds m d.ctx a) status →
        IsAnswered new procedures.Share a.cookie status change →
        IsPromised (done_value (calls.Nlm (nlm.Share a)) d.ctx d.view change)
    shares-promised begins comes answered =
        answered-promised (calls.Nlm (nlm.Share a)) procedures.Share a.cookie (λ m. ShareEnds m d.ctx a) begins comes
        answered (λ m messages after ends. step-shares m d.ctx status messages after a ends)

    pub unshares-promised : Begins (calls.Nlm (nlm.Unshare a)) d → ComesTo d new (λ m. UnshareEnds m d.ctx a) status →
        IsAnswered new procedures.Unshare a.cookie status change →
        IsPromised (done_value (calls.Nlm (nlm.Unshare a)) d.ctx d.view change)
    unshares-promised begins comes answered =
        answered-promised (calls.Nlm (nlm.Unshare a)) procedures.Unshare a.cookie (λ m. UnshareEnds m d.ctx a) begins
        comes answered (λ m messages after ends. step-unshares m d.ctx status messages after a ends)
