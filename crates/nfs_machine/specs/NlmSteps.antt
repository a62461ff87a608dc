-- The step of NLM version 4: each call has the step of its procedure (RFC 1813, appendix II, 6.2).
use Rattle.std.specs.Prelude.{◌≡◌, ℕ, false, true, List, [], ◌∷◌, ◌++◌}
use Rattle.side_wire.specs.declared.message.Callback.{Callback}
use Rattle.side_wire.specs.declared.message.Callback.TheVariants as callbacks
use Rattle.side_wire.specs.declared.message.Message.{Message}
use Rattle.side_wire.specs.declared.nlm.NlmCall.{NlmCall}
use Rattle.side_wire.specs.declared.nlm.NlmCall.TheVariants as calls
use Rattle.side_wire.specs.declared.nlm.NlmReply.{NlmReply}
use Rattle.side_wire.specs.declared.nlm.NlmReply.TheVariants as replies
use Rattle.side_wire.specs.declared.nlm.NlmResult.{NlmResult}
use Rattle.side_wire.specs.declared.nlm.NlmStatus.{NlmStatus}
use Rattle.side_wire.specs.declared.nlm.NlmStatus.TheVariants as status
use Rattle.nfs_machine.specs.Answers.{Answers}
use Rattle.nfs_machine.specs.LockSteps.{CancelEnds, Frees, GrantAnswered, LockEnds, ShareEnds, TestEnds, UnlockEnds}
use Rattle.nfs_machine.specs.LockSteps.{UnshareEnds}
use Rattle.nfs_machine.specs.State.{State}
use Rattle.nfs_machine.specs.declared.context.Ctx.{Ctx}

-- the caller gets its cookie back
abbrev pub result_with : List ℕ → NlmStatus → NlmResult
result_with cookie s = record { cookie = cookie; status = s }

-- a call that is answered in its reply
abbrev pub Replies : {Status : Type 0} → (Status → List Message → State → Type 0) → (Status → NlmReply) →
    NlmReply → List Message → State → Type 0
Replies {Status} Ends reply_of reply messages new = (s : Status) × Ends s messages new × (reply ≡ reply_of s)

-- a MSG call, procedures 6 to 10: its reply is void, and its result goes to the caller's host in a call, behind the
-- messages that the call puts
abbrev pub Posts : {Status : Type 0} → (Status → List Message → State → Type 0) → List ℕ →
    (Status → Callback) → NlmReply → NlmReply → List Message → State → Type 0
Posts {Status} Ends host result_of void reply messages new =
    (s : Status) × (granted : List Message) × Ends s granted new × (reply ≡ void) ×
    (messages ≡ granted ++ record { host = host; call = result_of s } ∷ [])

-- what the machine may answer a call of NLM, and the state that it goes on to
unfoldable pub NlmStep : State → Ctx → NlmCall → NlmReply → List Message → State → Type 0
-- NULL, procedure 0
NlmStep old ctx calls.Null = Answers replies.Null old
-- TEST, procedure 1
NlmStep old ctx (calls.Test a) = Replies (TestEnds old ctx a)
    (λ s. replies.Test (record { cookie = a.cookie; status = s }))
-- LOCK, procedure 2
NlmStep old ctx (calls.Lock a) = Replies (LockEnds old ctx a false) (λ s. replies.Lock (result_with a.cookie s))
-- CANCEL, procedure 3
NlmStep old ctx (calls.Cancel a) = Replies (CancelEnds old ctx a) (λ s. replies.Cancel (result_with a.cookie s))
-- UNLOCK, procedure 4
NlmStep old ctx (calls.Unlock a) = Replies (UnlockEnds old ctx a) (λ s. replies.Unlock (result_with a.cookie s))
-- GRANTED, procedure 5: this server waits for no lock
NlmStep old ctx (calls.Granted a) = Replies (Answers status.Denied old) (λ s. replies.Granted (result_with a.cookie s))
-- TEST_MSG, procedure 6, to UNLOCK_MSG, procedure 9
NlmStep old ctx (calls.TestMsg a) = Posts (TestEnds old ctx a) ctx.host
    (λ s. callbacks.TestRes (record { cookie = a.cookie; status = s })) replies.TestMsg
NlmStep old ctx (calls.LockMsg a) = Posts (LockEnds old ctx a true) ctx.host
    (λ s. callbacks.LockRes (result_with a.cookie s)) replies.LockMsg
NlmStep old ctx (calls.CancelMsg a) = Posts (CancelEnds old ctx a) ctx.host
    (λ s. callbacks.CancelRes (result_with a.cookie s)) replies.CancelMsg
NlmStep old ctx (calls.UnlockMsg a) = Posts (UnlockEnds old ctx a) ctx.host
    (λ s. callbacks.UnlockRes (result_with a.cookie s)) replies.UnlockMsg
-- GRANTED_MSG, procedure 10: the same
NlmStep old ctx (calls.GrantedMsg a) = Posts (Answers status.Denied old) ctx.host
    (λ s. callbacks.GrantedRes (result_with a.cookie s)) replies.GrantedMsg
-- TEST_RES, procedure 11, to UNLOCK_RES, procedure 14: answers to what this server never asks
NlmStep old ctx (calls.TestRes r) = Answers replies.TestRes old
NlmStep old ctx (calls.LockRes r) = Answers replies.LockRes old
NlmStep old ctx (calls.CancelRes r) = Answers replies.CancelRes old
NlmStep old ctx (calls.UnlockRes r) = Answers replies.UnlockRes old
-- GRANTED_RES, procedure 15
NlmStep old ctx (calls.GrantedRes r) = λ reply messages new. (reply ≡ replies.GrantedRes) ×
    GrantAnswered old ctx r.cookie r.status messages new
-- SHARE, procedure 20, and UNSHARE, procedure 21
NlmStep old ctx (calls.Share a) = Replies (ShareEnds old ctx a) (λ s. replies.Share (result_with a.cookie s))
NlmStep old ctx (calls.Unshare a) = Replies (UnshareEnds old ctx a) (λ s. replies.Unshare (result_with a.cookie s))
-- NM_LOCK, procedure 22
NlmStep old ctx (calls.NmLock a) = Replies (LockEnds old ctx a false) (λ s. replies.NmLock (result_with a.cookie s))
-- FREE_ALL, procedure 23
NlmStep old ctx (calls.FreeAll a) = λ reply messages new. (reply ≡ replies.FreeAll) × Frees old a.name messages new
