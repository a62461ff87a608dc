-- What is kept at each address, and the store that it is.
use Rattle.std.specs.Prelude.{◌≡◌, ◌<◌, ℕ, Bool, false, ◌==◌, ◌&&◌, ◌||◌, not, List, Option, Some, None, IsSome}
use Rattle.std.specs.Prelude.{is_some, count_by, map, max, option_map, unwrap_or, if◌then◌else◌}
use Rattle.std.specs.Arc.{arc_value}
use Rattle.std.specs.List.{list_any}
use Rattle.nfs_objects.specs.declared.address.Addr.{Addr}
use Rattle.nfs_objects.specs.declared.address.Addr.TheVariants.{Inode}
use Rattle.nfs_objects.specs.declared.object.Object.{Object}
use Rattle.nfs_objects.specs.declared.object.Object.TheVariants as objects
use Rattle.nfs_objects.specs.Store.{Store}
use Rattle.nfs_objects.specs.Values.{Seen, is_addr}
use Rattle.nfs_objects.specs.declared.view.Reserved.{Reserved}
use Rattle.nfs_engine.specs.Found.{Changes, found}
use Rattle.nfs_engine.specs.declared.objects.StoredObject.{StoredObject}

-- an object, and the greatest generation that its number was given
pub record KeptValue : Type 0 where
  pub object : Option Object
  pub last : ℕ

abbrev pub kept_value : StoredObject → KeptValue
kept_value k = record { object = option_map arc_value k.object; last = k.last }

abbrev pub empty_kept : KeptValue
empty_kept = record { object = None; last = 0 }

abbrev pub kept_slots : List (Addr × StoredObject) → List (Addr × KeptValue)
kept_slots slots = map (λ e. (e.0, kept_value e.1)) slots

-- what is kept at each address, how many more addresses take no memory, and at how many something stands
pub record ObjectsValue : Type 0 where
  pub slots : List (Addr × KeptValue)
  pub room : ℕ
  pub standing : ℕ

-- at an address that is not there nothing is kept
abbrev pub kept_at : List (Addr × KeptValue) → Addr → KeptValue
kept_at slots a = unwrap_or (found slots a) empty_kept

-- whether a write puts something at an address that has no slot
abbrev pub needs_slot : List (Addr × KeptValue) → Addr × Option Object → Bool
needs_slot slots w = is_some w.1 && not (is_some (found slots w.0))

-- How many of the writes do. They may be more than the slots that are made for them, where an address is written twice.
abbrev pub slots_needed : List (Addr × KeptValue) → List (Addr × Option Object) → ℕ
slots_needed slots writes = count_by (needs_slot slots) writes

-- each address that has a slot keeps it
abbrev pub KeepsSlots : List (Addr × KeptValue) → List (Addr × KeptValue) → Type 0
KeepsSlots old new = (a : Addr) → IsSome (found old a) → IsSome (found new a)

-- the store that the objects are
abbrev pub store_of : List (Addr × KeptValue) → Store
store_of slots = record { at = λ a. (kept_at slots a).object; last = λ n. (kept_at slots (Inode n)).last }

-- the generation of an inode
abbrev pub generation_in : Option Object → ℕ
generation_in (Some (objects.Inode i)) = i.generation
generation_in o = 0

-- what is kept where an object is put, or is taken away
abbrev pub filled : KeptValue → Option Object → KeptValue
filled k o = record { object = o; last = max k.last (generation_in o) }

-- The write was made. A slot that was there stays; where there was none, one comes with an object that is put.
abbrev pub Puts : List (Addr × KeptValue) → List (Addr × KeptValue) → Addr × Option Object → Type 0
Puts old new w = Changes (found old) (found new) w.0
    (if is_some (found old w.0) || is_some w.1 then Some (filled (kept_at old w.0) w.1) else None)

-- ---- slots in which nothing is kept
abbrev pub is_idle : KeptValue → Bool
is_idle k = not (is_some k.object) && k.last == 0

abbrev pub idle_at : List (Addr × KeptValue) → Addr → Bool
idle_at slots a = is_some (found slots a) && is_idle (kept_at slots a)

-- whether a write takes away what stands at an address, and whether some of them do
abbrev pub takes_from : Addr → Addr × Option Object → Bool
takes_from a w = is_addr w.0 a && not (is_some w.1)

abbrev pub is_taken : List (Addr × Option Object) → Addr → Bool
is_taken writes a = list_any (takes_from a) writes

-- each slot keeps something, but where some of these writes took away what stood
abbrev pub IsTidyBut : List (Addr × KeptValue) → List (Addr × Option Object) → Type 0
IsTidyBut slots writes = (a : Addr) → is_taken writes a ≡ false → idle_at slots a ≡ false

-- each slot keeps something
abbrev pub IsTidy : List (Addr × KeptValue) → Type 0
IsTidy slots = (a : Addr) → idle_at slots a ≡ false

-- the slot of what the write took away goes where nothing is kept in it
abbrev pub TakesOutIdle : List (Addr × KeptValue) → List (Addr × KeptValue) → Addr × Option Object → Type 0
TakesOutIdle old new w = Changes (found old) (found new) w.0
    (if not (is_some w.1) && idle_at old w.0 then None else found old w.0)

-- what was read stands in the store
abbrev pub Stands : Store → Seen → Type 0
Stands s seen = s.at seen.address ≡ seen.object

-- the number was given only smaller generations
abbrev pub Unspent : Store → Reserved → Type 0
Unspent s reserved = s.last reserved.number < reserved.generation
