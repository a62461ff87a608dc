-- What becomes of a directory, of an object and of what is kept of both, where the object gets one more name (RFC 1813,
-- 3.3.15).
use Rattle.std.specs.Prelude.{ℕ}
use Rattle.nfs_wire.specs.declared.attributes.Time.{Time}
use Rattle.nfs_machine.specs.Shown.{touched}
use Rattle.nfs_machine.specs.State.{Entry}
use Rattle.nfs_objects.specs.Edits.{edited}
use Rattle.nfs_objects.specs.Stands.{StoreMeaning}
use Rattle.nfs_inodes.specs.Makes.{name_added}

-- the object that an entry leads to has so many links, and its ctime changes
abbrev pub linked_so : Time → (number links : ℕ) → StoreMeaning → StoreMeaning
linked_so now number links k = edited k number (λ o. touched o now) (λ l. links)

-- a directory, which keeps its links, gets an entry that leads to an object, which has so many then
abbrev pub link_gained : Time → (directory kept : ℕ) → Entry → (links : ℕ) → StoreMeaning → StoreMeaning
link_gained now directory kept e links k = linked_so now e.number links (name_added now directory kept e k)
