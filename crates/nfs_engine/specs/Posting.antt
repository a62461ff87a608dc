-- Messages that are to be sent: each can be spelled, in so many bytes.
use Rattle.std.specs.Prelude.{ℕ, List, length, sum_by}
use Rattle.std.specs.Coded.{×_prop, Unit-prop, le_prop}
use Rattle.std.specs.List.{AllByRecursion}
use Rattle.side_wire.specs.Messages.{HasCallbackForm, HasLockForm, message_bytes}
use Rattle.side_wire.specs.Nlm.{HasTestStatusForm, IsNetobj}
use Rattle.side_wire.specs.declared.message.Callback.{Callback}
use Rattle.side_wire.specs.declared.message.Callback.TheVariants as callbacks
use Rattle.side_wire.specs.declared.message.Message.{Message}
use Rattle.side_wire.specs.declared.message.NlmLock.{NlmLock}
use Rattle.side_wire.specs.declared.nlm.TestStatus.{TestStatus}
use Rattle.side_wire.specs.declared.nlm.TestStatus.TheVariants as tested

-- each part of each message is within its bound
abbrev pub HaveForms : List Message → Type 0
HaveForms messages = AllByRecursion (λ (m : Message). HasCallbackForm m.call) messages

-- in how many bytes their calls are sent, with headers; that is the same whatever transaction id a call has
abbrev pub posted_bytes : List Message → ℕ
posted_bytes messages = sum_by (λ (m : Message). length (message_bytes 0 m)) messages

-- that a message can be spelled is a fact: it has one proof at most
IsNetobj-prop : (bytes : List ℕ) → IsProp (IsNetobj bytes)
IsNetobj-prop bytes = le_prop

HasLockForm-prop : (lock : NlmLock) → IsProp (HasLockForm lock)
HasLockForm-prop lock x y = λ i. (
  IsNetobj-prop lock.caller_name x.0 y.0 i,
  IsNetobj-prop lock.file x.1 y.1 i,
  IsNetobj-prop lock.owner x.2 y.2 i,
)

HasTestStatusForm-prop : (status : TestStatus) → IsProp (HasTestStatusForm status)
HasTestStatusForm-prop (tested.Denied holder) = IsNetobj-prop holder.owner
HasTestStatusForm-prop tested.Granted = Unit-prop
HasTestStatusForm-prop tested.DeniedNoLocks = Unit-prop
HasTestStatusForm-prop tested.Blocked = Unit-prop
HasTestStatusForm-prop tested.DeniedGracePeriod = Unit-prop
HasTestStatusForm-prop tested.Deadlock = Unit-prop
HasTestStatusForm-prop tested.ReadOnly = Unit-prop
HasTestStatusForm-prop tested.StaleHandle = Unit-prop
HasTestStatusForm-prop tested.FileTooBig = Unit-prop
HasTestStatusForm-prop tested.Failed = Unit-prop

pub HasCallbackForm-prop : (call : Callback) → IsProp (HasCallbackForm call)
HasCallbackForm-prop (callbacks.Granted a) = ×_prop (IsNetobj-prop a.cookie) (HasLockForm-prop a.lock)
HasCallbackForm-prop (callbacks.GrantedMsg a) = ×_prop (IsNetobj-prop a.cookie) (HasLockForm-prop a.lock)
HasCallbackForm-prop (callbacks.TestRes r) = ×_prop (IsNetobj-prop r.cookie) (HasTestStatusForm-prop r.status)
HasCallbackForm-prop (callbacks.LockRes r) = IsNetobj-prop r.cookie
HasCallbackForm-prop (callbacks.CancelRes r) = IsNetobj-prop r.cookie
HasCallbackForm-prop (callbacks.UnlockRes r) = IsNetobj-prop r.cookie
HasCallbackForm-prop (callbacks.GrantedRes r) = IsNetobj-prop r.cookie
