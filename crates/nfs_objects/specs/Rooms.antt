-- Views with room for more.
use Rattle.std.specs.Prelude.{ℕ, ◌≤◌, List, [], ◌∷◌, ◌++◌, Option, Some, None, Box}
use Rattle.indexmap.specs.IndexMap.{IndexMap, spare}
use Rattle.nfs_objects.specs.Fits.{IsView, vacant}
use Rattle.nfs_objects.specs.Values.{Seen, ViewValue}
use Rattle.nfs_objects.specs.declared.view.Reserved.{Reserved}

-- what a view has read, and how many more entries it takes with no memory
pub record EntriesValue : Type 0 where
  pub seen : List Seen
  pub room : ℕ

module _ {K V S A : Type 0} where
  -- the entries of the map, if there is one
  abbrev pub mapped : Option (Box (IndexMap K V S) A) → List (K × V)
  mapped None = []
  mapped (Some map) = map.value.entries

  -- how many more entries it takes; with no map, so many
  abbrev pub room_behind : Option (Box (IndexMap K V S) A) → ℕ → ℕ
  room_behind None room = room
  room_behind (Some map) room = spare map.value

-- a view, how many more entries it takes with no memory, and how many numbers
pub record RoomyValue : Type 0 where
  pub view : ViewValue
  pub room : ℕ
  pub numbers : ℕ

-- so many have room, by how many more entries and numbers there is memory for
pub record HasRoom (roomy : RoomyValue) (places free : ℕ) : Type 0 where
  pub reserved : IsView roomy.view
  pub entries : roomy.room ≤ places
  pub numbers : roomy.numbers ≤ free

-- one more entry, last
abbrev pub with_seen : ViewValue → Seen → ViewValue
with_seen v e = record { entries = v.entries ++ e ∷ []; reserved = v.reserved }

-- one more number, last, with its entry
abbrev pub with_number : ViewValue → Reserved → ViewValue
with_number v r = record { entries = v.entries ++ vacant r ∷ []; reserved = v.reserved ++ r ∷ [] }
