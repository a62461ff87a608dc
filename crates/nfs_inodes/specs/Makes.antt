-- What makers of drafts do to what is kept. An object that is not of the kind that a change is for stays as it is.
use Rattle.std.specs.Prelude.{◌≡◌, ◌+◌, ◌<◌, ◌^◌, ◌-◌, ℕ, false, List, [], ◌∷◌, ◌++◌}
use Rattle.std.specs.Prelude.{Option, Some, None, Ok, Err}
use Rattle.std.specs.Prelude.{min, nat_le, if◌then◌else◌}
use Rattle.std.specs.FinMap.{get}
use Rattle.nfs_wire.specs.declared.attributes.Time.{Time}
use Rattle.nfs_machine.specs.Attributes.{is_directory}
use Rattle.nfs_machine.specs.Checks.{bytes_in, entries_in, entry_of}
use Rattle.nfs_machine.specs.Data.{resized}
use Rattle.nfs_machine.specs.RemoveSteps.{without}
use Rattle.nfs_machine.specs.Shown.{touched, with_content}
use Rattle.nfs_machine.specs.State.{Content, Regular, Directory, Entry, Living, State}
use Rattle.nfs_objects.specs.Edits.{counted_anew, edited, freed, with_living, with_new}
use Rattle.nfs_objects.specs.Stands.{StoreMeaning}
use Rattle.nfs_objects.specs.declared.view.Reserved.{Reserved}

-- what lives at a number changes so and has so many links then, if anything does and if it is changed
abbrev pub changed_with : StoreMeaning → ℕ → (links : ℕ) → (Living → Option Living) → StoreMeaning
changed_with k number links change = elim (get k.state.objects number) [
  | None ↦ k
  | Some o ↦ elim (change o) [
    | None ↦ k
    | Some changed ↦ with_living k number changed links (k.parents number)
  ]
]

-- the same, where its links stay
abbrev pub changed_at : StoreMeaning → ℕ → (Living → Option Living) → StoreMeaning
changed_at k number change = changed_with k number (k.links number) change

-- the file with other bytes from now on (RFC 1813, 2.5: mtime, ctime)
abbrev pub with_bytes : Time → (List ℕ → List ℕ) → Living → Option Living
with_bytes now change o = elim (bytes_in o.content) [
  | Ok bytes ↦ Some (with_content o now (Regular (change bytes)))
  | Err status ↦ None
]

-- and is counted anew with its size
abbrev pub bytes_changed : Time → (number : ℕ) → (List ℕ → List ℕ) → StoreMeaning → StoreMeaning
bytes_changed now number change k = counted_anew number (get k.state.objects number)
    (changed_at k number (with_bytes now change))

-- the file has another size from now on, if one is set
abbrev pub size_set : Time → (number : ℕ) → Option ℕ → StoreMeaning → StoreMeaning
size_set now number size k = elim size [
  | None ↦ k
  | Some size ↦ bytes_changed now number (λ old. resized old size) k
]

-- the directory with one more name, where it has it not: the entry stands last, and its cookie is the greatest that was
-- used (RFC 1813, 3.3.16)
abbrev pub with_name : Time → Entry → Living → Option Living
with_name now e o = elim (entries_in o.content) [
  | Ok entries ↦ elim (entry_of entries.list e.name) [
    | None ↦ Some (with_content o now (Directory (entries.list ++ e ∷ []) e.cookie))
    | Some there ↦ None
  ]
  | Err status ↦ None
]

-- the same with so many links of the directory
abbrev pub name_added : Time → (directory links : ℕ) → Entry → StoreMeaning → StoreMeaning
name_added now directory links e k = changed_with k directory links (with_name now e)

-- the directory without a name
abbrev pub without_name : Time → List ℕ → Living → Option Living
without_name now name o = elim (entries_in o.content) [
  | Ok entries ↦ Some (with_content o now (Directory (without entries.list name) entries.last_cookie))
  | Err status ↦ None
]

abbrev pub name_taken : Time → (directory : ℕ) → List ℕ → StoreMeaning → StoreMeaning
name_taken now directory name k = changed_at k directory (without_name now name)

-- the object at a number goes, and is counted no more
abbrev pub removed : (number : ℕ) → StoreMeaning → StoreMeaning
removed number k = counted_anew number (get k.state.objects number) (freed k number)

-- the object at a number loses one of so many links: it goes with its last, and else its ctime changes
abbrev pub link_lost : Time → (number links : ℕ) → StoreMeaning → StoreMeaning
link_lost now number links k =
    if nat_le links 1 then removed number k else edited k number (λ o. touched o now) (λ l. l - 1)

-- ---- a new object
-- its links: names lead to a directory by its own name and by "."
abbrev pub first_links : Content → ℕ
first_links content = if is_directory content then 2 else 1

-- its parent, where it is a directory
abbrev pub first_parent : (directory : ℕ) → Content → ℕ
first_parent directory content = if is_directory content then directory else 0

-- the links of the directory that it comes to, which had so many: the ".." of a directory leads there
abbrev pub links_with : (links : ℕ) → Content → ℕ
links_with links content = if is_directory content then min (links + 1) (2 ^ 32 - 1) else links

-- it comes under a new name of a directory, with the number and generation that were reserved for it, and is counted
-- from then on
abbrev pub made_under : Time → (directory links cookie : ℕ) → List ℕ → Reserved → Living → StoreMeaning → StoreMeaning
made_under now directory links cookie name r o k =
    let e : Entry = record { name = name; number = r.number; cookie = cookie } in
    counted_anew r.number None
    (with_new (name_added now directory (links_with links o.content) e k) r.number o
    (first_links o.content) (first_parent directory o.content))

-- the machine may choose this number and generation for a new object
pub record IsFree (m : State) (r : Reserved) : Type 0 where
  pub number_fits : r.number < 2 ^ 64
  pub generation_fits : r.generation < 2 ^ 64
  pub free : get m.objects r.number ≡ None
  pub never_given : m.spent r.number r.generation ≡ false
