-- What a call comes to: an answer and the state after it, or the status of its first failed check
-- (RFC 1813, 2.6), and then nothing changes.
use Rattle.std.specs.Prelude.{◌≡◌, ℕ, List, [], Option, Result, Ok, Err}
use Rattle.nfs_wire.specs.declared.attributes.Attributes.{Attributes}
use Rattle.nfs_wire.specs.declared.replies.NfsReply.{NfsReply}
use Rattle.nfs_wire.specs.declared.status.NfsStatus.{NfsStatus}
use Rattle.side_wire.specs.declared.message.Message.{Message}
use Rattle.nfs_machine.specs.Checks.{◌>>=◌, object_of}
use Rattle.nfs_machine.specs.Resolve.{Named, resolve}
use Rattle.nfs_machine.specs.Shown.{shown}
use Rattle.nfs_machine.specs.State.{State}
use Rattle.nfs_machine.specs.declared.context.Ctx.{Ctx}

-- this answer, no message, and this state, which is the old one where nothing changes
pub record Answers {Answer : Type 0} (answer : Answer) (after : State) (reply : Answer) (messages : List Message)
    (new : State) : Type 0 where
  pub reply_is : reply ≡ answer
  pub no_message : messages ≡ []
  pub state_is : new ≡ after

abbrev pub state_after : {A : Type 0} → State → Result (A × State) NfsStatus → State
state_after old end = elim end [ Ok x ↦ x.1 | Err e ↦ old ]

abbrev pub answer_of : {A : Type 0} → Result (A × State) NfsStatus → Result A NfsStatus
answer_of end = elim end [ Ok x ↦ Ok x.0 | Err e ↦ Err e ]

-- a call that comes to such an end: its reply is made of the state after it, which it shows objects of, and of the
-- answer
abbrev pub Ends : {A : Type 0} → State → (State → Result A NfsStatus → NfsReply) →
    Result (A × State) NfsStatus → NfsReply → List Message → State → Type 0
Ends old reply_of end = Answers (reply_of (state_after old end) (answer_of end)) (state_after old end)

-- a call that changes nothing and tells something of the object that a handle names, beside its attributes
abbrev pub TellsOfObject : {A : Type 0} → State → Ctx → (handle : List ℕ) →
    (Option Attributes → Result A NfsStatus → NfsReply) → (Named → Result A NfsStatus) → NfsReply →
    List Message → State → Type 0
TellsOfObject old ctx handle reply_of told = Answers
    (reply_of (shown old (resolve old ctx handle)) (object_of (resolve old ctx handle) >>= told)) old
