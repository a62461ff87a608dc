-- Objects that are read at once.
use Rattle.std.specs.Prelude.{◌≡◌, ℕ, List, Option, Some, map, None, IsSome, ◌⊎◌}
use Rattle.std.specs.List.{AllByRecursion}
use Rattle.nfs_machine.specs.State.{Entry}
use Rattle.nfs_objects.specs.Asks.{EachOnce, IsThere}
use Rattle.nfs_objects.specs.Bound.{WasAsked}
use Rattle.nfs_objects.specs.Modes.{held_mode}
use Rattle.nfs_objects.specs.Values.{DraftValue, ViewValue, known_at, seen_at}
use Rattle.nfs_objects.specs.declared.address.Addr.{Addr}
use Rattle.nfs_objects.specs.declared.address.Addr.TheVariants as addresses
use Rattle.nfs_objects.specs.declared.change.Missing.{Missing}
use Rattle.nfs_objects.specs.declared.change.Missing.TheVariants.{Need, Memory}
use Rattle.nfs_objects.specs.declared.modes.Mode.{Mode}
use Rattle.nfs_inodes.specs.Entered.{header_at}
use Rattle.nfs_inodes.specs.declared.gather.WantedObjects.{WantedObjects}

-- something stands at the number of each entry in every sound store that the view fits
abbrev pub EachLives : ViewValue → List Entry → Type 0
EachLives view entries = AllByRecursion (λ (e : Entry). IsThere view (addresses.Inode e.number)) entries

-- the draft knows what stands at each entry's number
abbrev pub EachKnown : DraftValue → List Entry → Type 0
EachKnown d entries = AllByRecursion (λ (e : Entry). IsSome (known_at d (addresses.Inode e.number))) entries

-- the draft knows what stands at an address, or it is among these
abbrev pub IsKnownOrAsked : DraftValue → List (Addr × Mode) → Addr → Type 0
IsKnownOrAsked d asked a = IsSome (known_at d a) ⊎ WasAsked asked (a, held_mode d.modes d.view a)

-- at once all is asked for that the draft lacks of what stands at the entries' numbers; or there is no memory
abbrev pub AsksAll : DraftValue → List Entry → Missing → Type 0
AsksAll d entries (Need asked) =
    AllByRecursion (λ (e : Entry). IsKnownOrAsked d asked.items (addresses.Inode e.number)) entries
AsksAll d entries Memory = Unit {0}
AsksAll d entries halt = ⊥

-- the wish for what stands at a number
abbrev pub wish : DraftValue → ℕ → Addr × Mode
wish d n = (addresses.Inode n, held_mode d.modes d.view (addresses.Inode n))

-- the wish of a walk up from the directory at a number: for its parent, where the draft shows the directory and does
-- not know that
abbrev pub wish_above : DraftValue → (number : ℕ) → Option (Addr × Mode)
wish_above d number = elim (header_at d number) [
  | None ↦ None
  | Some header ↦ elim (known_at d (addresses.Inode header.parent)) [
    | None ↦ Some (wish d header.parent)
    | Some object ↦ None
  ]
]

-- it may be asked for, whatever the call names
pub record MayWish (d : DraftValue) (a : Addr × Mode) : Type 0 where
  pub unseen : seen_at d.view.entries a.0 ≡ None
  pub mode : a.1 ≡ held_mode d.modes d.view a.0
  pub lives : IsThere d.view a.0

-- each number of these is asked for once, and so is all that the draft lacks of what stands at the entries' numbers
pub record Gathers (d : DraftValue) (entries : List Entry) (wishes : WantedObjects) : Type 0 where
  pub wished : wishes.asked.items ≡ map (wish d) wishes.numbers.keys
  pub once : EachOnce wishes.asked.items
  pub each : AllByRecursion (MayWish d) wishes.asked.items
  pub all : AllByRecursion (λ (e : Entry). IsKnownOrAsked d wishes.asked.items (addresses.Inode e.number)) entries
