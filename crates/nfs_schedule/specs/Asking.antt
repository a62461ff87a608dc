-- In which order a call reads, and that it reads each address once.
use Rattle.std.specs.Prelude.{◌≡◌, ℕ, true, false, List, [], ◌∷◌, ◌++◌, map, Some, None}
use Rattle.std.specs.Vec.Iter.{into_iter_items}
use Rattle.nfs_machine.specs.Handles.{handle_of}
use Rattle.nfs_machine.specs.declared.calls.Call.{Call}
use Rattle.nfs_objects.specs.Asks.{EachOnce}
use Rattle.nfs_objects.specs.Bound.{held}
use Rattle.nfs_objects.specs.Calls.{handles_of, is_null}
use Rattle.nfs_objects.specs.Values.{Seen}
use Rattle.nfs_objects.specs.declared.address.Addr.{Addr}
use Rattle.nfs_objects.specs.declared.address.Addr.TheVariants as addresses
use Rattle.nfs_objects.specs.declared.modes.Mode.{Mode}
use Rattle.nfs_schedule.specs.declared.model.worker.Worker.{Worker}
use Rattle.nfs_schedule.specs.declared.model.worker.Worker.TheVariants.{Trying, Wanting, WantingNumbers, Ready, Blocked}
use Rattle.nfs_schedule.specs.declared.model.worker.Worker.TheVariants.{Failing}

-- what the first of these handles names
abbrev pub first_object : List (List ℕ) → List Addr
first_object [] = []
first_object (handle ∷ handles) = elim (handle_of handle) [
  | None ↦ []
  | Some h ↦ addresses.Inode h.fileid ∷ []
]

-- what a call reads before all else: the exports, and then what its first handle names; NULL reads nothing
abbrev pub read_first : Call → List Addr
read_first call = elim (is_null call) [
  | true ↦ []
  | false ↦ addresses.Exports ∷ first_object (handles_of call)
]

-- two lists are the same as far as both go
abbrev pub Agree : List Addr → List Addr → Type 0
Agree [] read = Unit {0}
Agree (a ∷ first) [] = Unit {0}
Agree (a ∷ first) (b ∷ read) = (b ≡ a) × Agree first read

-- What a call has read, and what it wants next, is each address once, and begins with what it reads first.
pub record IsRead (call : Call) (entries : List Seen) (wanted : List (Addr × Mode)) : Type 0 where
  pub once : EachOnce (held entries ++ wanted)
  pub order : Agree (read_first call) (map (λ (a : Addr × Mode). a.0) (held entries ++ wanted))

-- it has read what it reads first, whatever it reads then
abbrev pub HasReadFirst : Call → List Seen → Type 0
HasReadFirst call entries =
    (more : List Addr) → Agree (read_first call) (map (λ (e : Seen). e.address) entries ++ more)

-- what a worker wants next
abbrev pub wanted_by : Worker → List (Addr × Mode)
wanted_by (Wanting t wanted) = into_iter_items wanted
wanted_by worker = []

-- A worker's call has read so, and wants so. Before it wants numbers it has read what it reads first.
abbrev pub HasRead : Worker → Type 0
HasRead (Trying t) = IsRead t.call t.view.entries []
HasRead (Wanting t wanted) = IsRead t.call t.view.entries (into_iter_items wanted)
HasRead (WantingNumbers t count) = IsRead t.call t.view.entries [] × HasReadFirst t.call t.view.entries
HasRead (Ready f) = IsRead f.done.call f.done.view.entries []
HasRead (Blocked t) = IsRead t.call t.view.entries []
HasRead (Failing t) = IsRead t.call t.view.entries []
HasRead worker = Unit {0}
