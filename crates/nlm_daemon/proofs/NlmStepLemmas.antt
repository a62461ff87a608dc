-- The end of a call, with its answer, is a step of the machine.
use Rattle.std.proofs.Common.{◌≡◌, true, false, List, ◌++◌, refl, sym, subst, append-nil}
use Rattle.side_wire.specs.declared.message.Message.{Message}
use Rattle.side_wire.specs.declared.nlm.CancelArguments.{CancelArguments}
use Rattle.side_wire.specs.declared.nlm.LockArguments.{LockArguments}
use Rattle.side_wire.specs.declared.nlm.NlmCall.TheVariants as nlm
use Rattle.side_wire.specs.declared.nlm.NlmStatus.{NlmStatus}
use Rattle.side_wire.specs.declared.nlm.ShareArguments.{ShareArguments}
use Rattle.side_wire.specs.declared.nlm.UnlockArguments.{UnlockArguments}
use Rattle.nfs_machine.specs.LockSteps.{CancelEnds, LockEnds, ShareEnds, UnlockEnds, UnshareEnds}
use Rattle.nfs_machine.specs.NlmSteps.{NlmStep}
use Rattle.nfs_machine.specs.State.{State}
use Rattle.nfs_machine.specs.Step.{Step}
use Rattle.nfs_machine.specs.declared.calls.Call.TheVariants as calls
use Rattle.nfs_machine.specs.declared.calls.Reply.TheVariants as answers
use Rattle.nfs_machine.specs.declared.context.Ctx.{Ctx}
use Rattle.nlm_daemon.specs.Answering.{canceling_call, is_canceling, is_locking, is_message, is_unlocking, locking_call}
use Rattle.nlm_daemon.specs.Answering.{posted_by, reply_of, unlocking_call}
use Rattle.nlm_daemon.specs.declared.answering.Procedure.{Procedure}
use Rattle.nlm_daemon.specs.declared.answering.Procedure.TheVariants as procedures

module _ (old : State) (ctx : Ctx) (s : NlmStatus) (messages : List Message) (new : State) where
  pub step-locks : (procedure : Procedure) (a : LockArguments) → is_locking procedure ≡ true →
      LockEnds old ctx a (is_message procedure) s messages new →
      Step old ctx (locking_call procedure a) (answers.Nlm (reply_of procedure a.cookie s))
      (messages ++ posted_by procedure ctx.host a.cookie s) new
  unfolding NlmStep
  step-locks procedures.Lock a is ends =
      (s, subst (λ ms. LockEnds old ctx a false s ms new) (sym (append-nil messages)) ends, refl)
  step-locks procedures.NmLock a is ends =
      (s, subst (λ ms. LockEnds old ctx a false s ms new) (sym (append-nil messages)) ends, refl)
  step-locks procedures.LockMsg a is ends = (s, messages, ends, refl, refl)
  step-locks procedures.Cancel a is ends = cc
  step-locks procedures.CancelMsg a is ends = cc
  step-locks procedures.Unlock a is ends = cc
  step-locks procedures.UnlockMsg a is ends = cc
  step-locks procedures.Granted a is ends = cc
  step-locks procedures.GrantedMsg a is ends = cc
  step-locks procedures.Share a is ends = cc
  step-locks procedures.Unshare a is ends = cc

  pub step-cancels : (procedure : Procedure) (a : CancelArguments) → is_canceling procedure ≡ true →
      CancelEnds old ctx a s messages new →
      Step old ctx (canceling_call procedure a) (answers.Nlm (reply_of procedure a.cookie s))
      (messages ++ posted_by procedure ctx.host a.cookie s) new
  unfolding NlmStep
  step-cancels procedures.Cancel a is ends =
      (s, subst (λ ms. CancelEnds old ctx a s ms new) (sym (append-nil messages)) ends, refl)
  step-cancels procedures.CancelMsg a is ends = (s, messages, ends, refl, refl)
  step-cancels procedures.Lock a is ends = cc
  step-cancels procedures.NmLock a is ends = cc
  step-cancels procedures.LockMsg a is ends = cc
  step-cancels procedures.Unlock a is ends = cc
  step-cancels procedures.UnlockMsg a is ends = cc
  step-cancels procedures.Granted a is ends = cc
  step-cancels procedures.GrantedMsg a is ends = cc
  step-cancels procedures.Share a is ends = cc
  step-cancels procedures.Unshare a is ends = cc

  pub step-unlocks : (procedure : Procedure) (a : UnlockArguments) → is_unlocking procedure ≡ true →
      UnlockEnds old ctx a s messages new →
      Step old ctx (unlocking_call procedure a) (answers.Nlm (reply_of procedure a.cookie s))
      (messages ++ posted_by procedure ctx.host a.cookie s) new
  unfolding NlmStep
  step-unlocks procedures.Unlock a is ends =
      (s, subst (λ ms. UnlockEnds old ctx a s ms new) (sym (append-nil messages)) ends, refl)
  step-unlocks procedures.UnlockMsg a is ends = (s, messages, ends, refl, refl)
  step-unlocks procedures.Lock a is ends = cc
  step-unlocks procedures.NmLock a is ends = cc
  step-unlocks procedures.LockMsg a is ends = cc
  step-unlocks procedures.Cancel a is ends = cc
  step-unlocks procedures.CancelMsg a is ends = cc
  step-unlocks procedures.Granted a is ends = cc
  step-unlocks procedures.GrantedMsg a is ends = cc
  step-unlocks procedures.Share a is ends = cc
  step-unlocks procedures.Unshare a is ends = cc

  module _ (a : ShareArguments) where
    pub step-shares : ShareEnds old ctx a s messages new →
        Step old ctx (calls.Nlm (nlm.Share a)) (answers.Nlm (reply_of procedures.Share a.cookie s))
        (messages ++ posted_by procedures.Share ctx.host a.cookie s) new
    unfolding NlmStep
    step-shares ends = (s, subst (λ ms. ShareEnds old ctx a s ms new) (sym (append-nil messages)) ends, refl)

    pub step-unshares : UnshareEnds old ctx a s messages new →
        Step old ctx (calls.Nlm (nlm.Unshare a)) (answers.Nlm (reply_of procedures.Unshare a.cookie s))
        (messages ++ posted_by procedures.Unshare ctx.host a.cookie s) new
    unfolding NlmStep
    step-unshares ends = (s, subst (λ ms. UnshareEnds old ctx a s ms new) (sym (append-nil messages)) ends, refl)
