-- Laws of locks, shares and requests that wait (RFC 1813, appendix II).
use Rattle.std.specs.Prelude.{◌≡◌, ℕ, Bool, true, false, not, ◌&&◌, Contains, IfOk, List, nat_le, Some, None}
use Rattle.std.specs.FinMap.{get}
use Rattle.std.specs.List.{list_any}
use Rattle.side_wire.specs.declared.message.Message.{Message}
use Rattle.side_wire.specs.declared.nlm.LockArguments.{LockArguments}
use Rattle.side_wire.specs.declared.nlm.NlmStatus.TheVariants as status
use Rattle.side_wire.specs.declared.nlm.UnlockArguments.{UnlockArguments}
use Rattle.nfs_machine.specs.Chains.{Chain, Transition}
use Rattle.nfs_machine.specs.Exports.{ExportValue}
use Rattle.nfs_machine.specs.FileLists.{of_file}
use Rattle.nfs_machine.specs.Grants.{AllHeldUp, grant_message}
use Rattle.nfs_machine.specs.Locks.{Conflicts, Mode, lies_within, mode_at, modes_conflict, range_of, same_owner}
use Rattle.nfs_machine.specs.LockSteps.{LockEnds, UnlockEnds, lock_checked}
use Rattle.nfs_machine.specs.LocksFormed.{LocksFormed, NoConflict}
use Rattle.nfs_machine.specs.Opening.{opening}
use Rattle.nfs_machine.specs.OneFile.{requested}
use Rattle.nfs_machine.specs.State.{Lock, Owner, PendingGrant, State, Range}
use Rattle.nfs_machine.specs.Step.{Step}
use Rattle.nfs_machine.specs.declared.calls.Call.{Call}
use Rattle.nfs_machine.specs.declared.calls.Reply.{Reply}
use Rattle.nfs_machine.specs.declared.context.Ctx.{Ctx}
use Rattle.nfs_machine.specs.declared.moment.Moment.{Moment}

-- a listed lock of the file that stands in the way: another owner's, with an offset of the range, and one of the two
-- exclusive
abbrev pub stands_in_way : Range → Mode → Lock → Bool
stands_in_way r mode l =
    not (same_owner r.owner l.owner) && nat_le l.first r.last && nat_le r.first l.last && modes_conflict mode
    (Some l.exclusive)

-- where no listed lock stands in the way, nothing conflicts
abbrev pub ListedLocksTell : Type 0
ListedLocksTell = (locks : List Lock) (r : Range) (mode : Mode) → list_any (stands_in_way r mode) locks ≡ false →
    Conflicts locks r mode → ⊥

-- a file of which no owner has an offset keeps no list of locks, not even one of ranges without an offset
abbrev pub UnlockedFilesKeepNothing : Type 0
UnlockedFilesKeepNothing = (m : State) (file : ℕ) → LocksFormed m
    → ((owner : Owner) (offset : ℕ) → mode_at (of_file m.locks file) owner offset ≡ None) → get m.locks file ≡ None

-- where a server starts, nothing conflicts
abbrev pub OpeningIsApart : Type 0
OpeningIsApart = (exports : List ExportValue) (moment : Moment) → NoConflict (opening exports moment)

-- and nothing waits there that conflicts with nothing
abbrev pub OpeningWaitsForNone : Type 0
OpeningWaitsForNone = (exports : List ExportValue) (moment : Moment) → AllHeldUp (opening exports moment)

-- no two owners come to conflict, by locks or by shares: each step keeps that, and so each chain of steps
abbrev pub StepsKeepApart : Type 0
StepsKeepApart = (old : State) (ctx : Ctx) (call : Call) (reply : Reply) (messages : List Message) (new : State) →
    Step old ctx call reply messages new → NoConflict old → NoConflict new

abbrev pub ChainsKeepApart : Type 0
ChainsKeepApart = (first last : State) (steps : List Transition) → Chain first steps last → NoConflict first →
    NoConflict last

-- each request that waits conflicts with what is held of its file: each step keeps that, and so each chain of steps
abbrev pub StepsKeepWaiting : Type 0
StepsKeepWaiting = (old : State) (ctx : Ctx) (call : Call) (reply : Reply) (messages : List Message) (new : State) →
    Step old ctx call reply messages new → AllHeldUp old → AllHeldUp new

abbrev pub ChainsKeepWaiting : Type 0
ChainsKeepWaiting = (first last : State) (steps : List Transition) → Chain first steps last → AllHeldUp first →
    AllHeldUp last

-- a grant to a range's owner that lies within it is pending only where one of these messages tells of it
abbrev pub AreTold : State → (file : ℕ) → Range → List Message → Type 0
AreTold m file r messages = (number : ℕ) (grant : PendingGrant) → get m.granted number ≡ Some grant
    → grant.file ≡ file → lies_within r (requested grant.request) ≡ true
    → Contains messages (grant_message grant.request)

-- so after a LOCK that is granted, by the messages that it puts itself, and after an UNLOCK
abbrev pub LocksEndGrants : Type 0
LocksEndGrants = (old : State) (ctx : Ctx) (a : LockArguments) (by_message : Bool) (messages : List Message)
    (new : State) → LockEnds old ctx a by_message status.Granted messages new
    → IfOk (lock_checked old ctx a.exclusive a.lock) (λ file. AreTold new file (range_of a.lock) messages)

abbrev pub UnlocksEndGrants : Type 0
UnlocksEndGrants = (old : State) (ctx : Ctx) (a : UnlockArguments) (messages : List Message) (new : State)
    → UnlockEnds old ctx a status.Granted messages new
    → IfOk (lock_checked old ctx false a.lock) (λ file. AreTold new file (range_of a.lock) messages)
