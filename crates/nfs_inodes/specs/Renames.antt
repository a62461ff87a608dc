-- What the makers of RENAME do to what is kept (RFC 1813, 3.3.14). An object that is not of the kind that a change is
-- for stays as it is.
use Rattle.std.specs.Prelude.{ℕ, List, [], ◌∷◌, ◌++◌, Option, Some, None, Ok, Err, if◌then◌else◌}
use Rattle.std.specs.FinMap.{get}
use Rattle.nfs_wire.specs.declared.attributes.Time.{Time}
use Rattle.nfs_machine.specs.Attributes.{is_directory}
use Rattle.nfs_machine.specs.Checks.{entries_in}
use Rattle.nfs_machine.specs.RemoveSteps.{without}
use Rattle.nfs_machine.specs.Shown.{touched, with_content}
use Rattle.nfs_machine.specs.State.{Directory, Entry, Living}
use Rattle.nfs_objects.specs.Edits.{with_living}
use Rattle.nfs_objects.specs.Stands.{StoreMeaning}
use Rattle.nfs_inodes.specs.Makes.{changed_with, without_name}

-- the directory without a name, and with so many links
abbrev pub name_left : Time → (directory : ℕ) → List ℕ → (links : ℕ) → StoreMeaning → StoreMeaning
name_left now directory name links k = changed_with k directory links (without_name now name)

-- the entries that stay where a name is given: another object may have it, and an old name may leave with it
abbrev pub staying : List Entry → (name : List ℕ) → (left : Option (List ℕ)) → List Entry
staying entries name left = elim left [
  | None ↦ without entries name
  | Some old ↦ without (without entries name) old
]

-- the directory in which the name leads to another object: the entry stands last, and its cookie is the greatest that
-- was used (3.3.16)
abbrev pub with_name_given : Time → (left : Option (List ℕ)) → Entry → Living → Option Living
with_name_given now left e o = elim (entries_in o.content) [
  | Ok entries ↦ Some (with_content o now (Directory (staying entries.list e.name left ++ e ∷ []) e.cookie))
  | Err status ↦ None
]

-- and with so many links
abbrev pub name_given : Time → (directory : ℕ) → (left : Option (List ℕ)) → Entry → (links : ℕ) →
    StoreMeaning → StoreMeaning
name_given now directory left e links k = changed_with k directory links (with_name_given now left e)

-- what lives at a number has its name in this directory from now on: its ctime changes, and this is the parent of a
-- directory
abbrev pub rehomed : Time → (number directory : ℕ) → StoreMeaning → StoreMeaning
rehomed now number directory k = elim (get k.state.objects number) [
  | None ↦ k
  | Some o ↦ with_living k number (touched o now) (k.links number)
      (if is_directory o.content then directory else k.parents number)
]
