-- How the result of a call goes to its caller (RFC 1813, appendix II, 6.2): in the reply, or a MSG call's in a message.
use Rattle.std.specs.Prelude.{◌≡◌, ℕ, Bool, true, false, List, [], ◌∷◌, ◌++◌, Option, Some, None}
use Rattle.side_wire.specs.declared.message.Callback.{Callback}
use Rattle.side_wire.specs.declared.message.Callback.TheVariants as callbacks
use Rattle.side_wire.specs.declared.message.Message.{Message}
use Rattle.side_wire.specs.declared.nlm.CancelArguments.{CancelArguments}
use Rattle.side_wire.specs.declared.nlm.LockArguments.{LockArguments}
use Rattle.side_wire.specs.declared.nlm.NlmCall.{NlmCall}
use Rattle.side_wire.specs.declared.nlm.NlmCall.TheVariants as nlm
use Rattle.side_wire.specs.declared.nlm.NlmReply.{NlmReply}
use Rattle.side_wire.specs.declared.nlm.NlmReply.TheVariants as replies
use Rattle.side_wire.specs.declared.nlm.NlmStatus.{NlmStatus}
use Rattle.side_wire.specs.declared.nlm.TestArguments.{TestArguments}
use Rattle.side_wire.specs.declared.nlm.UnlockArguments.{UnlockArguments}
use Rattle.nfs_machine.specs.NlmSteps.{result_with}
use Rattle.nfs_machine.specs.declared.calls.Call.{Call}
use Rattle.nfs_machine.specs.declared.calls.Call.TheVariants as calls
use Rattle.nfs_machine.specs.declared.calls.Reply.TheVariants as answers
use Rattle.nfs_objects.specs.Promise.{Given, Held}
use Rattle.nfs_objects.specs.Values.{ChangeValue, DraftValue}
use Rattle.nlm_daemon.specs.declared.answering.Procedure.{Procedure}
use Rattle.nlm_daemon.specs.declared.answering.Procedure.TheVariants as procedures

abbrev pub is_message : Procedure → Bool
is_message procedures.LockMsg = true
is_message procedures.CancelMsg = true
is_message procedures.UnlockMsg = true
is_message procedures.GrantedMsg = true
is_message procedure = false

-- what the call is answered that comes to this status
abbrev pub reply_of : Procedure → (cookie : List ℕ) → NlmStatus → NlmReply
reply_of procedures.Lock cookie s = replies.Lock (result_with cookie s)
reply_of procedures.NmLock cookie s = replies.NmLock (result_with cookie s)
reply_of procedures.LockMsg cookie s = replies.LockMsg
reply_of procedures.Cancel cookie s = replies.Cancel (result_with cookie s)
reply_of procedures.CancelMsg cookie s = replies.CancelMsg
reply_of procedures.Unlock cookie s = replies.Unlock (result_with cookie s)
reply_of procedures.UnlockMsg cookie s = replies.UnlockMsg
reply_of procedures.Granted cookie s = replies.Granted (result_with cookie s)
reply_of procedures.GrantedMsg cookie s = replies.GrantedMsg
reply_of procedures.Share cookie s = replies.Share (result_with cookie s)
reply_of procedures.Unshare cookie s = replies.Unshare (result_with cookie s)

-- and the call that takes a MSG call's result to the caller's host then
abbrev pub callback_of : Procedure → (cookie : List ℕ) → NlmStatus → Option Callback
callback_of procedures.LockMsg cookie s = Some (callbacks.LockRes (result_with cookie s))
callback_of procedures.CancelMsg cookie s = Some (callbacks.CancelRes (result_with cookie s))
callback_of procedures.UnlockMsg cookie s = Some (callbacks.UnlockRes (result_with cookie s))
callback_of procedures.GrantedMsg cookie s = Some (callbacks.GrantedRes (result_with cookie s))
callback_of procedure cookie s = None

abbrev pub posted_by : Procedure → (host cookie : List ℕ) → NlmStatus → List Message
posted_by procedure host cookie s = elim (callback_of procedure cookie s) [
  | None ↦ []
  | Some call ↦ record { host = host; call = call } ∷ []
]

-- the call ends with the draft's writes and messages, and behind these its own; it writes what it may
pub record IsAnswered (d : DraftValue) (procedure : Procedure) (cookie : List ℕ) (s : NlmStatus)
    (change : ChangeValue) : Type 0 where
  pub writes : change.writes ≡ d.writes
  pub messages : change.messages ≡ d.messages ++ posted_by procedure d.ctx.host cookie s
  pub reply : change.reply ≡ answers.Nlm (reply_of procedure cookie s)
  pub held : Held d.view d.writes
  pub given : Given d.view d.writes

-- ---- calls of which nothing is asked but the exports
-- NULL, and what is answered to calls that this server never makes: they are passed over, and that takes no memory
abbrev pub answers_at_once : NlmCall → Bool
answers_at_once nlm.Null = true
answers_at_once (nlm.TestRes r) = true
answers_at_once (nlm.LockRes r) = true
answers_at_once (nlm.CancelRes r) = true
answers_at_once (nlm.UnlockRes r) = true
answers_at_once call = false

-- all of these but NULL are passed over with such a reply
abbrev pub is_passed : NlmCall → Bool
is_passed (nlm.TestRes r) = true
is_passed (nlm.LockRes r) = true
is_passed (nlm.CancelRes r) = true
is_passed (nlm.UnlockRes r) = true
is_passed call = false

abbrev pub reply_passed : NlmCall → NlmReply
reply_passed (nlm.TestRes r) = replies.TestRes
reply_passed (nlm.LockRes r) = replies.LockRes
reply_passed (nlm.CancelRes r) = replies.CancelRes
reply_passed (nlm.UnlockRes r) = replies.UnlockRes
reply_passed call = replies.Null

-- these, and GRANTED called at this server
abbrev pub reads_exports : NlmCall → Bool
reads_exports (nlm.Granted a) = true
reads_exports (nlm.GrantedMsg a) = true
reads_exports call = answers_at_once call

-- ---- which call that is
abbrev pub is_locking : Procedure → Bool
is_locking procedures.Lock = true
is_locking procedures.NmLock = true
is_locking procedures.LockMsg = true
is_locking procedure = false

abbrev pub is_canceling : Procedure → Bool
is_canceling procedures.Cancel = true
is_canceling procedures.CancelMsg = true
is_canceling procedure = false

abbrev pub is_unlocking : Procedure → Bool
is_unlocking procedures.Unlock = true
is_unlocking procedures.UnlockMsg = true
is_unlocking procedure = false

abbrev pub is_granting : Procedure → Bool
is_granting procedures.Granted = true
is_granting procedures.GrantedMsg = true
is_granting procedure = false

abbrev pub locking_call : Procedure → LockArguments → Call
locking_call procedures.NmLock a = calls.Nlm (nlm.NmLock a)
locking_call procedures.LockMsg a = calls.Nlm (nlm.LockMsg a)
locking_call procedure a = calls.Nlm (nlm.Lock a)

abbrev pub canceling_call : Procedure → CancelArguments → Call
canceling_call procedures.CancelMsg a = calls.Nlm (nlm.CancelMsg a)
canceling_call procedure a = calls.Nlm (nlm.Cancel a)

abbrev pub unlocking_call : Procedure → UnlockArguments → Call
unlocking_call procedures.UnlockMsg a = calls.Nlm (nlm.UnlockMsg a)
unlocking_call procedure a = calls.Nlm (nlm.Unlock a)

abbrev pub granting_call : Procedure → TestArguments → Call
granting_call procedures.GrantedMsg a = calls.Nlm (nlm.GrantedMsg a)
granting_call procedure a = calls.Nlm (nlm.Granted a)
