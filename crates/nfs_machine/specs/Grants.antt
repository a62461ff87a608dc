-- Changes of what is held of files, and the requests that are granted by them, each with a message (RFC 1813, appendix
-- II, 6.2: procedures 2, 5 and 10).
use Rattle.std.specs.Prelude.{◌≡◌, ℕ, ◌<◌, ◌==◌, ◌&&◌, List, [], ◌∷◌, ◌++◌, if◌then◌else◌, map}
use Rattle.std.specs.FinMap.{FinMap, insert}
use Rattle.std.specs.Int.{w64, to_be_bytes}
use Rattle.std.specs.List.{AllByRecursion}
use Rattle.std.specs.Ordering.{nat_cmp}
use Rattle.side_wire.specs.declared.message.Callback.TheVariants as callbacks
use Rattle.side_wire.specs.declared.message.Message.{Message}
use Rattle.nfs_machine.specs.FileLists.{grants_but, of_file, with_list}
use Rattle.nfs_machine.specs.Locks.{Mode, lies_within}
use Rattle.nfs_machine.specs.OneFile.{AreHeldUp, FileLocks, SetsMode, Settles, requested}
use Rattle.nfs_machine.specs.State.{PendingGrant, Range, Request, State}

-- what a file has
abbrev pub at_file : State → (file : ℕ) → FileLocks
at_file m file = record
    { locks = of_file m.locks file; shares = of_file m.shares file; waiting = of_file m.waiting file }

-- each request that waits for a file conflicts with what is held of it
abbrev pub FileWaits : State → (file : ℕ) → Type 0
FileWaits m file = AreHeldUp (at_file m file)

-- and so of all files
abbrev pub AllHeldUp : State → Type 0
AllHeldUp m = (file : ℕ) → FileWaits m file

-- the cookie of GRANTED is the request's number
abbrev pub grant_cookie : ℕ → List ℕ
grant_cookie number = to_be_bytes w64 number

-- GRANTED, or GRANTED_MSG where LOCK_MSG asked; exclusive and lock are as they were asked
abbrev pub grant_message : Request → Message
grant_message r = record {
  host = r.host;
  call = (if r.by_message then callbacks.GrantedMsg else callbacks.Granted)
      (record { cookie = grant_cookie r.number; exclusive = r.exclusive; lock = r.asked });
}

-- the pending grants, with these of a file
abbrev pub with_grants : FinMap nat_cmp PendingGrant → (file : ℕ) → List Request → FinMap nat_cmp PendingGrant
with_grants pending file [] = pending
with_grants pending file (r ∷ granted) =
    with_grants (insert pending r.number (record { file = file; request = r })) file granted

-- these locks are held of a file and these requests wait for it; those that were granted wait for their answers, each
-- to its message
pub record Grants (old : State) (file : ℕ) (after : FileLocks) (granted : List Request) (messages : List Message)
    (new : State) : Type 0 where
  pub messages_are : messages ≡ map grant_message granted
  pub state_is : new ≡ record old {
    locks = with_list old.locks file after.locks;
    waiting = with_list old.waiting file after.waiting;
    granted = with_grants old.granted file granted;
  }

-- what waits for a file is tried
pub record SettlesFile (old : State) (file : ℕ) (messages : List Message) (new : State) : Type 0 where
  pub after : FileLocks
  pub granted : List Request
  pub settles : Settles (at_file old file) granted after
  pub grants : Grants old file after granted messages new

-- Files settle one after the other, in order of fileid, until no request that waits can be granted
abbrev pub SettleInOrder : State → List ℕ → List Message → State → Type 0
SettleInOrder old [] messages new = AllHeldUp old × (messages ≡ []) × (new ≡ old)
SettleInOrder old (file ∷ files) messages new =
    AllByRecursion (λ other. file < other) files × (mid : State) × (first rest : List Message) ×
    (messages ≡ first ++ rest) × SettlesFile old file first mid × SettleInOrder mid files rest new

-- the range's owner gets this mode on it, and then what waits for the file is tried
pub record ChangesLocks (old : State) (file : ℕ) (r : Range) (mode : Mode) (messages : List Message)
    (new : State) : Type 0 where
  pub after : FileLocks
  pub granted : List Request
  pub sets : SetsMode (at_file old file) r mode granted after
  pub grants : Grants old file after granted messages new

-- the pending grants of the range's owner that lie within it are pending no more: what the host answers to their
-- messages comes too late
abbrev pub ending_grants : State → (file : ℕ) → Range → State
ending_grants m file r = record m {
  granted = grants_but (λ (g : PendingGrant). (g.file == file) && lies_within r (requested g.request)) m.granted;
}
