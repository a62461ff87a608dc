-- What an attempt of a call may come to.
use Rattle.std.specs.Prelude.{◌≡◌, ℕ, true, false, List, [], ◌∷◌, Option, Some, None, Result, Ok, Err}
use Rattle.nfs_machine.specs.Handles.{handle_of}
use Rattle.nfs_machine.specs.declared.calls.Call.{Call}
use Rattle.nfs_machine.specs.declared.context.Ctx.{Ctx}
use Rattle.nfs_objects.specs.Asks.{Asks, AsksNumbers, IsNeed}
use Rattle.nfs_objects.specs.Calls.{handles_of, is_null, named_by, new_numbers}
use Rattle.nfs_objects.specs.Modes.{held_mode, modes_of}
use Rattle.nfs_objects.specs.Promise.{IsPromised}
use Rattle.nfs_objects.specs.Values.{ModesValue, ViewValue, change_value, done_value, seen_at}
use Rattle.nfs_objects.specs.declared.address.Addr.{Addr}
use Rattle.nfs_objects.specs.declared.address.Addr.TheVariants as addresses
use Rattle.nfs_objects.specs.declared.change.Change.{Change}
use Rattle.nfs_objects.specs.declared.change.Missing.{Missing}
use Rattle.nfs_objects.specs.declared.change.Missing.TheVariants as halts
use Rattle.nfs_objects.specs.declared.change.Outcome.{Outcome}
use Rattle.nfs_objects.specs.declared.change.Outcome.TheVariants.{Need, Fresh, Done}
use Rattle.nfs_objects.specs.declared.modes.Mode.{Mode}

-- an attempt asks for addresses, or for all its numbers where none is reserved; or it is done, and keeps the promise
abbrev pub Attempts : Call → Ctx → ViewValue → Outcome → Type 0
Attempts call ctx view (Need asked) = Asks (modes_of call) (named_by call view) view asked.items
Attempts call ctx view (Fresh count) = AsksNumbers (new_numbers call view) view count
Attempts call ctx view (Done change) = IsPromised (done_value call ctx view (change_value change))

-- ---- what is asked for first
-- the address, where the view has it not
abbrev pub unless_seen : ViewValue → Addr → Option Addr
unless_seen view a = elim (seen_at view.entries a) [ None ↦ Some a | Some seen ↦ None ]

-- the first handle's object
abbrev pub object_wanted : ViewValue → List (List ℕ) → Option Addr
object_wanted view [] = None
object_wanted view (handle ∷ handles) = elim (handle_of handle) [
  | None ↦ None
  | Some h ↦ unless_seen view (addresses.Inode h.fileid)
]

-- by a call with these handles: the exports, and then the first handle's object
abbrev pub first_wanted_with : ViewValue → List (List ℕ) → Option Addr
first_wanted_with view handles = elim (unless_seen view addresses.Exports) [
  | Some a ↦ Some a
  | None ↦ object_wanted view handles
]

-- NULL wants nothing
abbrev pub first_wanted : Call → ViewValue → Option Addr
first_wanted call view = elim (is_null call) [ true ↦ None | false ↦ first_wanted_with view (handles_of call) ]

-- just this is asked for
abbrev pub IsAskedAlone : Addr × Mode → Outcome → Type 0
IsAskedAlone a (Need asked) = asked.items ≡ a ∷ []
IsAskedAlone a outcome = ⊥

-- what is wanted first is asked for, and nothing else with it
abbrev pub AsksFirst : Call → ViewValue → Outcome → Type 0
AsksFirst call view outcome = elim (first_wanted call view) [
  | None ↦ Unit {0}
  | Some a ↦ IsAskedAlone (a, held_mode (modes_of call) view a) outcome
]

-- ---- the same of what an attempt comes to before it is an outcome
-- A call that is not done asks for addresses, which it names or where something stands; or for its new numbers, so
-- many; or there is no memory.
abbrev pub StopsCall : ModesValue → (named : List Addr) → (numbers : ℕ) → ViewValue → Missing → Type 0
StopsCall modes named numbers view (halts.Need asked) = Asks modes named view asked.items
StopsCall modes named numbers view (halts.Fresh count) = AsksNumbers numbers view count
StopsCall modes named numbers view halts.Memory = Unit {0}

abbrev pub EndsCall : Call → Ctx → ViewValue → Result Change Missing → Type 0
EndsCall call ctx view (Ok change) = IsPromised (done_value call ctx view (change_value change))
EndsCall call ctx view (Err halt) = StopsCall (modes_of call) (named_by call view) (new_numbers call view) view halt

-- this is asked for, if anything is wanted first
abbrev pub HaltsFirst : {A : Type 0} → ModesValue → ViewValue → Option Addr → Result A Missing → Type 0
HaltsFirst modes view None result = Unit {0}
HaltsFirst modes view (Some a) (Ok x) = ⊥
HaltsFirst modes view (Some a) (Err halt) = IsNeed a (held_mode modes view a) halt

abbrev pub EndsFirst : Call → ViewValue → Result Change Missing → Type 0
EndsFirst call view result = HaltsFirst (modes_of call) view (first_wanted call view) result
