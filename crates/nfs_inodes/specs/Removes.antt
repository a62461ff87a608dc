-- What becomes of a directory, of an object and of what is kept of both, where a name is taken away (RFC 1813, 3.3.12
-- and 3.3.13).
use Rattle.std.specs.Prelude.{ℕ, ◌-◌, Bool, true, false, List, if◌then◌else◌}
use Rattle.nfs_wire.specs.declared.attributes.FileType.{FileType}
use Rattle.nfs_wire.specs.declared.attributes.FileType.TheVariants as types
use Rattle.nfs_wire.specs.declared.attributes.Time.{Time}
use Rattle.nfs_objects.specs.Edits.{edited}
use Rattle.nfs_objects.specs.Stands.{StoreMeaning}
use Rattle.nfs_inodes.specs.Makes.{link_lost, name_taken}
use Rattle.nfs_inodes.specs.declared.found.Known.{Known}

abbrev pub is_directory_type : FileType → Bool
is_directory_type types.Directory = true
is_directory_type other = false

-- of a directory that one in it went of, the links that are kept are one less (2.5: nlink)
abbrev pub subdirectory_lost : (directory : ℕ) → StoreMeaning → StoreMeaning
subdirectory_lost directory k = edited k directory (λ o. o) (λ l. l - 1)

-- a directory goes that was named in another
abbrev pub directory_lost : Time → (directory number : ℕ) → StoreMeaning → StoreMeaning
directory_lost now directory number k = subdirectory_lost directory (link_lost now number 1 k)

-- a name of a directory is taken away, and with it a link of the object that it leads to: a directory goes with its
-- only name, anything else with its last
abbrev pub name_lost : Time → (directory : ℕ) → List ℕ → Known → StoreMeaning → StoreMeaning
name_lost now directory name x k =
    let left = name_taken now directory name k in
    if is_directory_type x.attributes.kind then directory_lost now directory x.number left else
    link_lost now x.number x.attributes.links left
