-- Laws of replies of MOUNT and NLM (RFC 1813, appendices I and II).
use Rattle.std.specs.Prelude.{◌≡◌, ◌++◌, ◌∷◌, ℕ, Bool, true, false, List, [], is_err, None}
use Rattle.std.specs.List.{AllByRecursion}
use Rattle.side_wire.specs.Messages.{HasCallbackForm, HasLockForm, HasTestArgumentsForm}
use Rattle.side_wire.specs.Mount.{HasMountForm, IsDirpath, IsHostName}
use Rattle.side_wire.specs.Nlm.{HasNlmForm, IsNetobj}
use Rattle.side_wire.specs.declared.message.Callback.{Callback}
use Rattle.side_wire.specs.declared.message.Callback.TheVariants as callbacks
use Rattle.side_wire.specs.declared.message.Message.{Message}
use Rattle.side_wire.specs.declared.mount.MountCall.{MountCall}
use Rattle.side_wire.specs.declared.mount.MountCall.TheVariants as mount
use Rattle.side_wire.specs.declared.mount.MountReply.{MountReply}
use Rattle.side_wire.specs.declared.mount.MountReply.TheVariants as mount_replies
use Rattle.side_wire.specs.declared.nlm.NlmCall.{NlmCall}
use Rattle.side_wire.specs.declared.nlm.NlmCall.TheVariants as nlm
use Rattle.side_wire.specs.declared.nlm.NlmReply.{NlmReply}
use Rattle.side_wire.specs.declared.nlm.NlmReply.TheVariants as nlm_replies
use Rattle.side_wire.specs.declared.nlm.NlmStatus.{NlmStatus}
use Rattle.side_wire.specs.declared.nlm.NlmStatus.TheVariants as status
use Rattle.side_wire.specs.declared.nlm.TestStatus.{TestStatus}
use Rattle.side_wire.specs.declared.nlm.TestStatus.TheVariants as tested
use Rattle.nfs_machine.specs.Chains.{Chain, Transition}
use Rattle.nfs_machine.specs.Exports.{ExportValue, LivingExport}
use Rattle.nfs_machine.specs.FileLists.{of_file}
use Rattle.nfs_machine.specs.Locks.{mode_at}
use Rattle.nfs_machine.specs.MountSteps.{MountStep}
use Rattle.nfs_machine.specs.NlmSteps.{NlmStep}
use Rattle.nfs_machine.specs.Opening.{opening}
use Rattle.nfs_machine.specs.Run.{Arrival, FromHost, NewExports, Asks, Setting}
use Rattle.nfs_machine.specs.State.{Lock, Owner, Request, State}
use Rattle.nfs_machine.specs.Step.{Step}
use Rattle.nfs_machine.specs.declared.calls.Call.{Call}
use Rattle.nfs_machine.specs.declared.calls.Call.TheVariants as calls
use Rattle.nfs_machine.specs.declared.calls.Reply.{Reply}
use Rattle.nfs_machine.specs.declared.context.Ctx.{Ctx}
use Rattle.nfs_machine.specs.declared.moment.Moment.{Moment}
use Rattle.side_wire.specs.declared.mount.lists.MountBody.{MountBody}

-- what is mounted, and what is exported, are within the bounds of MOUNT (5.1.4)
abbrev pub MountsFit : State → Type 0
MountsFit m = AllByRecursion (λ (x : MountBody). IsHostName x.hostname × IsDirpath x.directory) m.mounts

abbrev pub ExportsFit : List LivingExport → Type 0
ExportsFit exports = AllByRecursion
    (λ (e : LivingExport). IsDirpath e.path × AllByRecursion IsHostName e.hosts) exports

-- the path that a call names is
abbrev pub PathFits : MountCall → Type 0
PathFits (mount.Mnt path) = IsDirpath path
PathFits call = Unit {0}

-- a reply of MOUNT has a spelling
abbrev pub MountRepliesHaveForm : Type 0
MountRepliesHaveForm = (old : State) (ctx : Ctx) (call : MountCall) (reply : MountReply) (messages : List Message)
    (new : State)
    → MountsFit old → ExportsFit old.exports → MountStep old ctx call reply messages new → HasMountForm reply

-- a reply of MOUNT with a status other than MNT3_OK
abbrev pub is_mount_refusal : MountReply → Bool
is_mount_refusal (mount_replies.Mnt result) = is_err result
is_mount_refusal reply = false

-- a call of MOUNT that is refused changes nothing and puts no message
abbrev pub MountRefusalsChangeNothing : Type 0
MountRefusalsChangeNothing = (old : State) (ctx : Ctx) (call : MountCall) (reply : MountReply) (messages : List Message)
    (new : State)
    → MountStep old ctx call reply messages new → is_mount_refusal reply ≡ true → (new ≡ old) ×
    (messages ≡ [])

-- the byte strings of a call are within their bounds
abbrev pub CallFits : NlmCall → Type 0
CallFits (nlm.Test a) = HasTestArgumentsForm a
CallFits (nlm.Lock a) = IsNetobj a.cookie × HasLockForm a.lock
CallFits (nlm.Cancel a) = IsNetobj a.cookie × HasLockForm a.lock
CallFits (nlm.Unlock a) = IsNetobj a.cookie × HasLockForm a.lock
CallFits (nlm.Granted a) = HasTestArgumentsForm a
CallFits (nlm.TestMsg a) = HasTestArgumentsForm a
CallFits (nlm.LockMsg a) = IsNetobj a.cookie × HasLockForm a.lock
CallFits (nlm.CancelMsg a) = IsNetobj a.cookie × HasLockForm a.lock
CallFits (nlm.UnlockMsg a) = IsNetobj a.cookie × HasLockForm a.lock
CallFits (nlm.GrantedMsg a) = HasTestArgumentsForm a
CallFits (nlm.Share a) = IsNetobj a.cookie
CallFits (nlm.Unshare a) = IsNetobj a.cookie
CallFits (nlm.NmLock a) = IsNetobj a.cookie × HasLockForm a.lock
CallFits call = Unit {0}

-- so is each owner (oh) that has something of a file
abbrev pub OwnersFit : List Lock → Type 0
OwnersFit locks = (owner : Owner) (offset : ℕ) → (mode_at locks owner offset ≡ None → ⊥) →
    IsNetobj owner.owner

-- a reply of NLM has a spelling
abbrev pub NlmRepliesHaveForm : Type 0
NlmRepliesHaveForm = (old : State) (ctx : Ctx) (call : NlmCall) (reply : NlmReply) (messages : List Message)
    (new : State)
    → ((file : ℕ) → OwnersFit (of_file old.locks file)) → CallFits call →
    NlmStep old ctx call reply messages new → HasNlmForm reply

-- so are those of requests that wait
abbrev pub LocksFit : State → Type 0
LocksFit m = (file : ℕ) → OwnersFit (of_file m.locks file) ×
    AllByRecursion (λ (r : Request). HasLockForm r.asked) (of_file m.waiting file)

-- each message has a spelling, and what is held and waits stays within its bounds
abbrev pub PutsForms : List Message → State → Type 0
PutsForms messages new = AllByRecursion (λ (x : Message). HasCallbackForm x.call) messages × LocksFit new

-- the messages of NLM have spellings
abbrev pub NlmMessagesHaveForm : Type 0
NlmMessagesHaveForm = (old : State) (ctx : Ctx) (call : NlmCall) (reply : NlmReply) (messages : List Message)
    (new : State)
    → LocksFit old → CallFits call → NlmStep old ctx call reply messages new → PutsForms messages new

-- what a call of any program names is within its bounds, and so is the host that asks MOUNT
abbrev pub AskedFits : Ctx → Call → Type 0
AskedFits ctx (calls.Nfs call) = Unit {0}
AskedFits ctx (calls.Mount call) = IsHostName ctx.host × PathFits call
AskedFits ctx (calls.Nlm call) = CallFits call
AskedFits ctx (calls.Replace exports) = Unit {0}

-- and so is the host that a record came from
abbrev pub HostFits : Arrival → Type 0
HostFits (FromHost received) = IsHostName received.host
HostFits (NewExports exports moment) = Unit {0}

-- a call that an arrival spells names nothing else
abbrev pub SpelledCallsFit : Type 0
SpelledCallsFit = (setting : Setting) (arrival : Arrival) (ctx : Ctx) (call : Call) → HostFits arrival →
    Asks setting arrival ctx call → AskedFits ctx call

-- what is mounted, held and waited for stays within the bounds: a server starts so, each step of any program keeps
-- it, and so each chain of steps
abbrev pub OpeningFits : Type 0
OpeningFits = (exports : List ExportValue) (moment : Moment) → MountsFit (opening exports moment) ×
    LocksFit (opening exports moment)

abbrev pub MountsStayFit : Type 0
MountsStayFit = (old : State) (ctx : Ctx) (call : Call) (reply : Reply) (messages : List Message) (new : State) →
    Step old ctx call reply messages new → AskedFits ctx call → MountsFit old → MountsFit new

abbrev pub LocksStayFit : Type 0
LocksStayFit = (old : State) (ctx : Ctx) (call : Call) (reply : Reply) (messages : List Message) (new : State) →
    Step old ctx call reply messages new → AskedFits ctx call → LocksFit old → LocksFit new

abbrev pub ChainsStayFit : Type 0
ChainsStayFit = (first last : State) (steps : List Transition) → Chain first steps last →
    AllByRecursion (λ (t : Transition). AskedFits t.ctx t.call) steps → MountsFit first ×
    LocksFit first → MountsFit last × LocksFit last

-- a status by which nothing was granted, and nothing waits
abbrev pub refuses : NlmStatus → Bool
refuses status.Granted = false
refuses status.Blocked = false
refuses s = true

abbrev pub test_refuses : TestStatus → Bool
test_refuses tested.Granted = false
test_refuses s = true

abbrev pub is_nlm_refusal : NlmReply → Bool
is_nlm_refusal (nlm_replies.Test r) = test_refuses r.status
is_nlm_refusal (nlm_replies.Lock r) = refuses r.status
is_nlm_refusal (nlm_replies.Cancel r) = refuses r.status
is_nlm_refusal (nlm_replies.Unlock r) = refuses r.status
is_nlm_refusal (nlm_replies.Granted r) = refuses r.status
is_nlm_refusal (nlm_replies.Share r) = refuses r.status
is_nlm_refusal (nlm_replies.Unshare r) = refuses r.status
is_nlm_refusal (nlm_replies.NmLock r) = refuses r.status
is_nlm_refusal reply = false

-- a call of NLM that is refused in its reply changes nothing and puts no message
abbrev pub NlmRefusalsChangeNothing : Type 0
NlmRefusalsChangeNothing = (old : State) (ctx : Ctx) (call : NlmCall) (reply : NlmReply) (messages : List Message)
    (new : State)
    → NlmStep old ctx call reply messages new → is_nlm_refusal reply ≡ true → (new ≡ old) × (messages ≡ [])

-- a result in a message of the server's own, by which nothing was granted, and nothing waits
abbrev pub is_posted_refusal : Callback → Bool
is_posted_refusal (callbacks.TestRes r) = test_refuses r.status
is_posted_refusal (callbacks.LockRes r) = refuses r.status
is_posted_refusal (callbacks.CancelRes r) = refuses r.status
is_posted_refusal (callbacks.UnlockRes r) = refuses r.status
is_posted_refusal (callbacks.GrantedRes r) = refuses r.status
is_posted_refusal call = false

-- a call of NLM that is refused in a message, as the MSG calls are, changes nothing and puts no other
abbrev pub PostedRefusalsChangeNothing : Type 0
PostedRefusalsChangeNothing = (old : State) (ctx : Ctx) (call : NlmCall) (reply : NlmReply) (earlier : List Message)
    (posted : Message) (new : State)
    → NlmStep old ctx call reply (earlier ++ posted ∷ []) new → is_posted_refusal posted.call ≡ true →
    (new ≡ old) × (earlier ≡ [])
