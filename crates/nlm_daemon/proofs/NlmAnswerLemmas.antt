-- The answers of calls that change nothing, and of those that have one reply, are steps.
use Rattle.std.proofs.Common.{◌≡◌, ℕ, true, List, [], ◌∷◌, ◌++◌, append-nil, refl, sym, ◌∙◌, ap, subst}
use Rattle.side_wire.specs.declared.message.Callback.TheVariants as callbacks
use Rattle.side_wire.specs.declared.message.Message.{Message}
use Rattle.side_wire.specs.declared.nlm.FreeAllArguments.{FreeAllArguments}
use Rattle.side_wire.specs.declared.nlm.NlmCall.{NlmCall}
use Rattle.side_wire.specs.declared.nlm.NlmCall.TheVariants as nlm
use Rattle.side_wire.specs.declared.nlm.NlmReply.{NlmReply}
use Rattle.side_wire.specs.declared.nlm.NlmReply.TheVariants as replies
use Rattle.side_wire.specs.declared.nlm.NlmResult.{NlmResult}
use Rattle.side_wire.specs.declared.nlm.NlmStatus.{NlmStatus}
use Rattle.side_wire.specs.declared.nlm.NlmStatus.TheVariants as statuses
use Rattle.side_wire.specs.declared.nlm.TestArguments.{TestArguments}
use Rattle.side_wire.specs.declared.nlm.TestResult.{TestResult}
use Rattle.side_wire.specs.declared.nlm.TestStatus.{TestStatus}
use Rattle.nfs_machine.specs.Answers.{Answers}
use Rattle.nfs_machine.specs.LockSteps.{Frees, GrantAnswered, TestEnds}
use Rattle.nfs_machine.specs.NlmSteps.{NlmStep}
use Rattle.nfs_machine.specs.State.{State}
use Rattle.nfs_machine.specs.Step.{Step}
use Rattle.nfs_machine.specs.declared.calls.Call.{Call}
use Rattle.nfs_machine.specs.declared.calls.Call.TheVariants as calls
use Rattle.nfs_machine.specs.declared.calls.Reply.{Reply}
use Rattle.nfs_machine.specs.declared.calls.Reply.TheVariants as answers
use Rattle.nfs_machine.specs.declared.context.Ctx.{Ctx}
use Rattle.nfs_objects.proofs.PromiseLemmas.{promised-unchanged}
use Rattle.nfs_objects.specs.Begins.{Begins}
use Rattle.nfs_objects.specs.Promise.{Given, Held, IsPromised}
use Rattle.nfs_objects.specs.Values.{ChangeValue, DraftValue, done_value}
use Rattle.nlm_daemon.proofs.NlmPromiseLemmas.{comes-unchanged, promised-comes}
use Rattle.nlm_daemon.specs.Answering.{IsAnswered, granting_call, is_granting, is_passed, posted_by, reply_of}
use Rattle.nlm_daemon.specs.Answering.{reply_passed}
use Rattle.nlm_daemon.specs.Comes.{KnowsEnd}
use Rattle.nlm_daemon.specs.declared.answering.Procedure.{Procedure}
use Rattle.nlm_daemon.specs.declared.answering.Procedure.TheVariants as procedures

-- ---- steps of the machine
module _ (m : State) (ctx : Ctx) where
  pub step-null : Step m ctx (calls.Nlm nlm.Null) (answers.Nlm replies.Null) [] m
  unfolding NlmStep
  step-null = record { reply_is = refl; no_message = refl; state_is = refl }

  module _ (a : TestArguments) where
    pub step-granted : Step m ctx (calls.Nlm (nlm.Granted a))
        (answers.Nlm (reply_of procedures.Granted a.cookie statuses.Denied))
        (posted_by procedures.Granted ctx.host a.cookie statuses.Denied) m
    unfolding NlmStep
    step-granted = (statuses.Denied, record { reply_is = refl; no_message = refl; state_is = refl }, refl)

    pub step-granted-message : Step m ctx (calls.Nlm (nlm.GrantedMsg a))
        (answers.Nlm (reply_of procedures.GrantedMsg a.cookie statuses.Denied))
        (posted_by procedures.GrantedMsg ctx.host a.cookie statuses.Denied) m
    unfolding NlmStep
    step-granted-message =
        (statuses.Denied, [], record { reply_is = refl; no_message = refl; state_is = refl }, refl, refl)

    pub step-denied : (procedure : Procedure) → is_granting procedure ≡ true → Step m ctx (granting_call procedure a)
        (answers.Nlm (reply_of procedure a.cookie statuses.Denied))
        (posted_by procedure ctx.host a.cookie statuses.Denied) m
    step-denied procedures.Granted is = step-granted
    step-denied procedures.GrantedMsg is = step-granted-message
    step-denied procedures.Lock is = cc
    step-denied procedures.NmLock is = cc
    step-denied procedures.LockMsg is = cc
    step-denied procedures.Cancel is = cc
    step-denied procedures.CancelMsg is = cc
    step-denied procedures.Unlock is = cc
    step-denied procedures.UnlockMsg is = cc
    step-denied procedures.Share is = cc
    step-denied procedures.Unshare is = cc

    pub step-test : (s : TestStatus) → TestEnds m ctx a s [] m → Step m ctx (calls.Nlm (nlm.Test a))
        (answers.Nlm (replies.Test (record { cookie = a.cookie; status = s }))) [] m
    unfolding NlmStep
    step-test s ends = (s, ends, refl)

    pub step-test-message : (s : TestStatus) → TestEnds m ctx a s [] m → Step m ctx (calls.Nlm (nlm.TestMsg a))
        (answers.Nlm replies.TestMsg)
        (record { host = ctx.host; call = callbacks.TestRes (record { cookie = a.cookie; status = s }) } ∷ []) m
    unfolding NlmStep
    step-test-message s ends = (s, [], ends, refl, refl)

  pub step-test-res : (r : TestResult) → Step m ctx (calls.Nlm (nlm.TestRes r)) (answers.Nlm replies.TestRes) [] m
  unfolding NlmStep
  step-test-res r = record { reply_is = refl; no_message = refl; state_is = refl }

  module _ (r : NlmResult) where
    pub step-lock-res : Step m ctx (calls.Nlm (nlm.LockRes r)) (answers.Nlm replies.LockRes) [] m
    unfolding NlmStep
    step-lock-res = record { reply_is = refl; no_message = refl; state_is = refl }

    pub step-cancel-res : Step m ctx (calls.Nlm (nlm.CancelRes r)) (answers.Nlm replies.CancelRes) [] m
    unfolding NlmStep
    step-cancel-res = record { reply_is = refl; no_message = refl; state_is = refl }

    pub step-unlock-res : Step m ctx (calls.Nlm (nlm.UnlockRes r)) (answers.Nlm replies.UnlockRes) [] m
    unfolding NlmStep
    step-unlock-res = record { reply_is = refl; no_message = refl; state_is = refl }

    pub step-granted-res : (messages : List Message) (new : State) →
        GrantAnswered m ctx r.cookie r.status messages new →
        Step m ctx (calls.Nlm (nlm.GrantedRes r)) (answers.Nlm replies.GrantedRes) (messages ++ []) new
    unfolding NlmStep
    step-granted-res messages new ends =
        (refl, subst (λ ms. GrantAnswered m ctx r.cookie r.status ms new) (sym (append-nil messages)) ends)

  pub step-frees : (a : FreeAllArguments) (messages : List Message) (new : State) → Frees m a.name messages new →
      Step m ctx (calls.Nlm (nlm.FreeAll a)) (answers.Nlm replies.FreeAll) (messages ++ []) new
  unfolding NlmStep
  step-frees a messages new frees =
      (refl, subst (λ ms. Frees m a.name ms new) (sym (append-nil messages)) frees)

  -- what is passed over
  pub step-passed : (call : NlmCall) → is_passed call ≡ true →
      Step m ctx (calls.Nlm call) (answers.Nlm (reply_passed call)) [] m
  step-passed (nlm.TestRes r) is = step-test-res r
  step-passed (nlm.LockRes r) is = step-lock-res r
  step-passed (nlm.CancelRes r) is = step-cancel-res r
  step-passed (nlm.UnlockRes r) is = step-unlock-res r
  step-passed nlm.Null is = cc
  step-passed (nlm.Test a) is = cc
  step-passed (nlm.Lock a) is = cc
  step-passed (nlm.Cancel a) is = cc
  step-passed (nlm.Unlock a) is = cc
  step-passed (nlm.Granted a) is = cc
  step-passed (nlm.TestMsg a) is = cc
  step-passed (nlm.LockMsg a) is = cc
  step-passed (nlm.CancelMsg a) is = cc
  step-passed (nlm.UnlockMsg a) is = cc
  step-passed (nlm.GrantedMsg a) is = cc
  step-passed (nlm.GrantedRes r) is = cc
  step-passed (nlm.Share a) is = cc
  step-passed (nlm.Unshare a) is = cc
  step-passed (nlm.NmLock a) is = cc
  step-passed (nlm.FreeAll a) is = cc

-- ---- ends
-- a call's end, with its message behind those that it put
pub is-answered : (d mid : DraftValue) (procedure : Procedure) (cookie : List ℕ) (s : NlmStatus) (change : ChangeValue)
    (reply : NlmReply) → mid ≡ record d { messages = d.messages ++ posted_by procedure d.ctx.host cookie s } →
    reply ≡ reply_of procedure cookie s →
    change ≡ record { writes = mid.writes; messages = mid.messages; reply = answers.Nlm reply } →
    Held mid.view mid.writes → Given mid.view mid.writes → IsAnswered d procedure cookie s change
is-answered d mid procedure cookie s change reply sent replied is held given = record {
  writes = ap (λ (c : ChangeValue). c.writes) is ∙ ap (λ (x : DraftValue). x.writes) sent;
  messages = ap (λ (c : ChangeValue). c.messages) is ∙ ap (λ (x : DraftValue). x.messages) sent;
  reply = ap (λ (c : ChangeValue). c.reply) is ∙ ap answers.Nlm replied;
  held = subst (λ (x : DraftValue). Held x.view x.writes) sent held;
  given = subst (λ (x : DraftValue). Given x.view x.writes) sent given;
}

-- ---- promises
module _ (d : DraftValue) (call : Call) (begins : Begins call d) where
  pub passed-promised : (reply : NlmReply) (change : ChangeValue) →
      change ≡ record { writes = d.writes; messages = d.messages; reply = answers.Nlm reply } → Held d.view d.writes →
      Given d.view d.writes → ((m : State) → Step m d.ctx call (answers.Nlm reply) [] m) →
      IsPromised (done_value call d.ctx d.view change)
  passed-promised reply change is held given steps = subst
      (λ (c : ChangeValue). IsPromised (done_value call d.ctx d.view c)) (sym is)
      (promised-unchanged d begins.none begins.quiet call (answers.Nlm reply) held given
      (λ s k w formed. steps k.state))

  -- this server waits for no lock
  pub denied-promised : (procedure : Procedure) (cookie : List ℕ) (change : ChangeValue) →
      IsAnswered d procedure cookie statuses.Denied change →
      ((m : State) → Step m d.ctx call (answers.Nlm (reply_of procedure cookie statuses.Denied))
      (posted_by procedure d.ctx.host cookie statuses.Denied) m) → IsPromised (done_value call d.ctx d.view change)
  denied-promised procedure cookie change answered steps =
      promised-comes d d (λ m. Answers statuses.Denied m) statuses.Denied begins.none begins.quiet
      (comes-unchanged d (λ m. Answers statuses.Denied m) statuses.Denied
      (λ s k w formed. record { reply_is = refl; no_message = refl; state_is = refl }) (sym (append-nil d.messages)))
      call (answers.Nlm (reply_of procedure cookie statuses.Denied))
      (posted_by procedure d.ctx.host cookie statuses.Denied) change answered.writes answered.messages answered.reply
      answered.held answered.given (λ s k w formed ends. steps k.state)

  -- what is known of a call that changes nothing, told in its reply and in messages
  pub told-promised : {Status : Type 0} (IsEnd : State → Status → List Message → State → Type 0) (status : Status) →
      KnowsEnd d IsEnd status → (reply : Reply) (own : List Message) (change : ChangeValue) →
      change.writes ≡ d.writes → change.messages ≡ d.messages ++ own → change.reply ≡ reply →
      Held d.view d.writes → Given d.view d.writes →
      ((m : State) → IsEnd m status [] m → Step m d.ctx call reply own m) →
      IsPromised (done_value call d.ctx d.view change)
  told-promised IsEnd status knows reply own change writes messages replied held given steps =
      promised-comes d d IsEnd status begins.none begins.quiet
      (comes-unchanged d IsEnd status knows (sym (append-nil d.messages))) call reply own change writes messages
      replied held given (λ s k w formed ends. steps k.state ends)

  -- the same where it is told in a message
  pub posted-promised : {Status : Type 0} (IsEnd : State → Status → List Message → State → Type 0) (status : Status) →
      KnowsEnd d IsEnd status → (message : Message) (mid : DraftValue) →
      mid ≡ record d { messages = d.messages ++ message ∷ [] } → (reply : Reply) (change : ChangeValue) →
      change ≡ record { writes = mid.writes; messages = mid.messages; reply = reply } →
      Held mid.view mid.writes → Given mid.view mid.writes →
      ((m : State) → IsEnd m status [] m → Step m d.ctx call reply (message ∷ []) m) →
      IsPromised (done_value call d.ctx d.view change)
  posted-promised IsEnd status knows message mid sent reply change is held given steps =
      told-promised IsEnd status knows reply (message ∷ []) change
      (ap (λ (c : ChangeValue). c.writes) is ∙ ap (λ (x : DraftValue). x.writes) sent)
      (ap (λ (c : ChangeValue). c.messages) is ∙ ap (λ (x : DraftValue). x.messages) sent)
      (ap (λ (c : ChangeValue). c.reply) is)
      (subst (λ (x : DraftValue). Held x.view x.writes) sent held)
      (subst (λ (x : DraftValue). Given x.view x.writes) sent given) steps

-- TEST tells it in its reply
pub tested-promised : (d : DraftValue) (a : TestArguments) → Begins (calls.Nlm (nlm.Test a)) d → (s : TestStatus) →
    KnowsEnd d (λ m. TestEnds m d.ctx a) s → (cookie : List ℕ) → cookie ≡ a.cookie → (change : ChangeValue) →
    change ≡ record {
      writes = d.writes;
      messages = d.messages;
      reply = answers.Nlm (replies.Test (record { cookie = cookie; status = s }));
    } → Held d.view d.writes → Given d.view d.writes →
    IsPromised (done_value (calls.Nlm (nlm.Test a)) d.ctx d.view change)
tested-promised d a begins s knows cookie same change is held given =
    told-promised d (calls.Nlm (nlm.Test a)) begins (λ m. TestEnds m d.ctx a) s knows
    (answers.Nlm (replies.Test (record { cookie = a.cookie; status = s }))) [] change
    (ap (λ (c : ChangeValue). c.writes) is)
    (ap (λ (c : ChangeValue). c.messages) is ∙ sym (append-nil d.messages))
    (ap (λ (c : ChangeValue). c.reply) is
    ∙ ap (λ (b : List ℕ). answers.Nlm (replies.Test (record { cookie = b; status = s }))) same) held given
    (λ m ends. step-test m d.ctx a s ends)
