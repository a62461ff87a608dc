-- Laws of the machine.
use Rattle.std.specs.Prelude.{◌≡◌, ℕ, Bool, true, false, ◌<◌, ◌≤◌, ◌^◌, List, [], ◌∷◌}
use Rattle.std.specs.Prelude.{◌++◌, length, Some, None, is_some, IfSome, ◌⊎◌}
use Rattle.std.specs.FinMap.{get}
use Rattle.std.specs.List.{All, AllByRecursion}
use Rattle.nfs_wire.specs.Replies.{HasNfsForm, result_bytes}
use Rattle.nfs_wire.specs.declared.calls.NfsCall.{NfsCall}
use Rattle.nfs_wire.specs.declared.replies.NfsReply.{NfsReply}
use Rattle.side_wire.specs.declared.message.Message.{Message}
use Rattle.nfs_machine.specs.Attributes.{entries_of}
use Rattle.nfs_machine.specs.Chains.{Chain, Transition}
use Rattle.nfs_machine.specs.Checks.{entry_of}
use Rattle.nfs_machine.specs.ExportFaults.{AreFaultless}
use Rattle.nfs_machine.specs.Exports.{ExportValue, LivingExport, export_at}
use Rattle.nfs_machine.specs.Handles.{handle_bytes, handle_of}
use Rattle.nfs_machine.specs.NfsSteps.{NfsStep}
use Rattle.nfs_machine.specs.Opening.{opening}
use Rattle.nfs_machine.specs.Refusal.{nfs_refusal}
use Rattle.nfs_machine.specs.RenameSteps.{TellsWithin}
use Rattle.nfs_machine.specs.Resolve.{Stale, resolve}
use Rattle.nfs_machine.specs.Run.{Arrival, Asks, Executes, Record, Run, Setting}
use Rattle.nfs_machine.specs.SideLaws.{ExportsFit}
use Rattle.nfs_machine.specs.State.{Entry, Living, State}
use Rattle.nfs_machine.specs.StatusLaws.{failure_in}
use Rattle.nfs_machine.specs.Step.{Step}
use Rattle.nfs_machine.specs.WellFormed.{WellFormed}
use Rattle.nfs_machine.specs.declared.calls.Call.{Call}
use Rattle.nfs_machine.specs.declared.calls.Call.TheVariants as calls
use Rattle.nfs_machine.specs.declared.calls.Reply.{Reply}
use Rattle.nfs_machine.specs.declared.context.Ctx.{Ctx}
use Rattle.nfs_machine.specs.declared.handle.Handle.{Handle}
use Rattle.nfs_machine.specs.declared.moment.Moment.{Moment}

-- a run goes on by one step
abbrev pub RunsGoOn : Type 0
RunsGoOn = (setting : Setting) (first old new : State) (records : List Record) (r : Record)
    → Run setting first records old → Executes setting old r new → Run setting first (records ++ r ∷ []) new

-- two runs that meet are one
abbrev pub RunsJoin : Type 0
RunsJoin = (setting : Setting) (first mid last : State) (earlier later : List Record)
    → Run setting first earlier mid → Run setting mid later last → Run setting first (earlier ++ later) last

-- the numbers of a handle fit in its bytes
pub record FitsBytes (h : Handle) : Type 0 where
  pub export : h.export < 2 ^ 32
  pub start : h.start < 2 ^ 64
  pub fileid : h.fileid < 2 ^ 64
  pub generation : h.generation < 2 ^ 64

-- the bytes of a handle are read as it
abbrev pub HandlesAreRead : Type 0
HandlesAreRead = (h : Handle) → FitsBytes h → handle_of (handle_bytes h) ≡ Some h

-- bytes that are read as a handle are its bytes
abbrev pub HandlesAreWritten : Type 0
HandlesAreWritten = (bytes : List ℕ) (h : Handle) → All (λ b. b < 256) bytes → handle_of bytes ≡ Some h →
    bytes ≡ handle_bytes h

-- an arrival asks at most one call, under one context
abbrev pub ArrivalsAskOnce : Type 0
ArrivalsAskOnce = (setting : Setting) (arrival : Arrival) (ctx ctx' : Ctx) (call call' : Call)
    → Asks setting arrival ctx call → Asks setting arrival ctx' call' → (ctx ≡ ctx') × (call ≡ call')

-- a reply of NFS has a spelling, and its bytes are fewer than one record holds
pub record IsShort (reply : NfsReply) : Type 0 where
  pub form : HasNfsForm reply
  pub short : length (result_bytes reply) ≤ 70000

-- what a call of NFS is answered is short
abbrev pub RepliesAreShort : Type 0
RepliesAreShort = (old : State) (ctx : Ctx) (call : NfsCall) (reply : NfsReply) (messages : List Message) (new : State)
    → WellFormed old → NfsStep old ctx call reply messages new → IsShort reply

-- and so is what it is refused by
abbrev pub RefusalsAreShort : Type 0
RefusalsAreShort = (call : NfsCall) → IfSome (nfs_refusal call) IsShort

-- a reply with a status other than NFS3_OK (RFC 1813, 2.6)
abbrev pub is_refusal : NfsReply → Bool
is_refusal reply = is_some (failure_in reply)

-- a call that is refused changes nothing and puts no message
abbrev pub RefusalsChangeNothing : Type 0
RefusalsChangeNothing = (old : State) (ctx : Ctx) (call : NfsCall) (reply : NfsReply) (messages : List Message)
    (new : State)
    → NfsStep old ctx call reply messages new → is_refusal reply ≡ true → (new ≡ old) × (messages ≡ [])

-- an object lives under a number, with a generation: what its handle says of it
pub record LivesAs (m : State) (number generation : ℕ) : Type 0 where
  pub object : Living
  pub lives : get m.objects number ≡ Some object
  pub generation_is : object.generation ≡ generation

-- what was given stays given; and what lives now lived before under the same handle, or has one that was not given
-- before, and is now
pub record GivesOnce (old new : State) : Type 0 where
  pub kept : (number generation : ℕ) → old.spent number generation ≡ true → new.spent number generation ≡ true
  pub handles : (number generation : ℕ) → LivesAs new number generation
      → LivesAs old number generation ⊎
      ((old.spent number generation ≡ false) × (new.spent number generation ≡ true) × (number < 2 ^ 64) ×
      (generation < 2 ^ 64))

-- each step gives a handle at most once
abbrev pub StepsGiveOnce : Type 0
StepsGiveOnce = (old : State) (ctx : Ctx) (call : Call) (reply : Reply) (messages : List Message) (new : State) →
    Step old ctx call reply messages new → GivesOnce old new

-- a handle that was given is never given again: what lives under it at the end of a chain of steps lived under it when
-- the chain began
abbrev pub NeverGivenAgain : Type 0
NeverGivenAgain = (first last : State) (steps : List Transition) (number generation : ℕ)
    → Chain first steps last → first.spent number generation ≡ true → LivesAs last number generation →
    LivesAs first number generation

-- the number and the generation of what lives fit the bytes of its handle
abbrev pub NumbersFit : State → Type 0
NumbersFit m = (number generation : ℕ) → LivesAs m number generation → (number < 2 ^ 64) × (generation < 2 ^ 64)

abbrev pub OpeningNumbersFit : Type 0
OpeningNumbersFit = (exports : List ExportValue) (moment : Moment) → length exports < 2 ^ 32 →
    NumbersFit (opening exports moment)

abbrev pub StepsKeepNumbers : Type 0
StepsKeepNumbers = (old : State) (ctx : Ctx) (call : Call) (reply : Reply) (messages : List Message) (new : State) →
    Step old ctx call reply messages new → NumbersFit old → NumbersFit new

abbrev pub ChainsKeepNumbers : Type 0
ChainsKeepNumbers = (first last : State) (steps : List Transition) → Chain first steps last → NumbersFit first →
    NumbersFit last

-- a name that leads to the same object before and after is the same entry: it keeps its cookie (RFC 1813, 3.3.16)
abbrev pub KeepsEntries : (before after : List Entry) → Type 0
KeepsEntries before after = (name : List ℕ) (e f : Entry) → entry_of before name ≡ Some e →
    entry_of after name ≡ Some f → f.number ≡ e.number → f ≡ e

-- in each directory that lives on
abbrev pub KeepsCookies : (old new : State) → Type 0
KeepsCookies old new = (number : ℕ) (was is : Living) → get old.objects number ≡ Some was →
    get new.objects number ≡ Some is → KeepsEntries (entries_of was.content) (entries_of is.content)

-- each step does so
abbrev pub StepsKeepCookies : Type 0
StepsKeepCookies = (old : State) (ctx : Ctx) (call : Call) (reply : Reply) (messages : List Message) (new : State) →
    Step old ctx call reply messages new → KeepsCookies old new

-- ---- exports
pub record KeepsExports (old new : State) : Type 0 where
  pub exports : new.exports ≡ old.exports
  pub last : new.last_export ≡ old.last_export

abbrev pub is_replacing : Call → Bool
is_replacing (calls.Replace exports) = true
is_replacing call = false

-- no call of a host changes the exports
abbrev pub StepsKeepExports : Type 0
StepsKeepExports = (old : State) (ctx : Ctx) (call : Call) (reply : Reply) (messages : List Message) (new : State) →
    is_replacing call ≡ false → Step old ctx call reply messages new → KeepsExports old new

-- an export lived before with this number, at this path and with this root
pub record Lived (m : State) (e : LivingExport) : Type 0 where
  pub was : LivingExport
  pub there : export_at m.exports e.number ≡ Some was
  pub root : e.root ≡ was.root
  pub path : e.path ≡ was.path

-- what lives under a number that was used lived under it before, at the same path and with the same root
pub record NumbersOnce (old new : State) : Type 0 where
  pub last : old.last_export ≤ new.last_export
  pub lived : (number : ℕ) (e : LivingExport) → export_at new.exports number ≡ Some e → number ≤ old.last_export →
      Lived old e

abbrev pub StepsNumberOnce : Type 0
StepsNumberOnce = (old : State) (ctx : Ctx) (call : Call) (reply : Reply) (messages : List Message) (new : State) →
    WellFormed old → Step old ctx call reply messages new → NumbersOnce old new

abbrev pub ChainsNumberOnce : Type 0
ChainsNumberOnce = (first last : State) (steps : List Transition) → WellFormed first → Chain first steps last →
    NumbersOnce first last

-- a handle of an export that went is stale from then on, for every host (RFC 1813, 2.6: NFS3ERR_STALE)
abbrev pub GoneIsStale : Type 0
GoneIsStale = (first last : State) (steps : List Transition) (ctx : Ctx) (bytes : List ℕ) (h : Handle) →
    WellFormed first → Chain first steps last → handle_of bytes ≡ Some h → h.export ≤ first.last_export →
    export_at first.exports h.export ≡ None → resolve last ctx bytes ≡ Stale

-- the exports are within the bounds of MOUNT (5.1.4), and each has at most 1,024 hosts
abbrev pub AreWithin : List LivingExport → Type 0
AreWithin exports = ExportsFit exports × AllByRecursion (λ (e : LivingExport). length e.hosts ≤ 1024) exports

abbrev pub StepsKeepWithin : Type 0
StepsKeepWithin = (old : State) (ctx : Ctx) (call : Call) (reply : Reply) (messages : List Message) (new : State) →
    Step old ctx call reply messages new → AreWithin old.exports → AreWithin new.exports

-- what is true of every state: a server starts so, each step keeps it, and so each chain of steps
abbrev pub OpeningIsFormed : Type 0
OpeningIsFormed = (exports : List ExportValue) (moment : Moment) → AreFaultless exports →
    WellFormed (opening exports moment)

abbrev pub StepsKeepForm : Type 0
StepsKeepForm = (old : State) (ctx : Ctx) (call : Call) (reply : Reply) (messages : List Message) (new : State) →
    Step old ctx call reply messages new → WellFormed old → WellFormed new

abbrev pub ChainsKeepForm : Type 0
ChainsKeepForm = (first last : State) (steps : List Transition) → Chain first steps last → WellFormed first →
    WellFormed last

-- so a RENAME has a step
abbrev pub WithinIsTold : Type 0
WithinIsTold = (m : State) → WellFormed m → (is_within : ℕ → ℕ → Bool) × TellsWithin m is_within
