-- The attributes that a reply shows of an object, some of them derived from the whole state (RFC 1813, 2.5: fattr3).
use Rattle.std.specs.Prelude.{ℕ, ◌+◌, ◌*◌, ◌/◌, Bool, true, false, List, [], length, count_by, sum_by}
use Rattle.std.specs.Prelude.{Option, Some, None, ◌==◌}
use Rattle.std.specs.FinMap.{get, values}
use Rattle.nfs_wire.specs.declared.attributes.Attributes.{Attributes}
use Rattle.nfs_wire.specs.declared.attributes.DeviceNumber.{DeviceNumber}
use Rattle.nfs_wire.specs.declared.attributes.FileType.{FileType}
use Rattle.nfs_wire.specs.declared.attributes.FileType.TheVariants as types
use Rattle.nfs_machine.specs.State.{Content, Regular, Directory, Link, BlockDevice, CharacterDevice, Socket, Fifo}
use Rattle.nfs_machine.specs.State.{Entry, Living, State}

abbrev pub type_of : Content → FileType
type_of (Regular bytes) = types.Regular
type_of (Directory entries last_cookie) = types.Directory
type_of (Link text) = types.Link
type_of (BlockDevice device) = types.BlockDevice
type_of (CharacterDevice device) = types.CharacterDevice
type_of Socket = types.Socket
type_of Fifo = types.Fifo

-- the size of a directory, and the unit in which space is used, in bytes (2.5: fattr3, size and used)
abbrev pub block : ℕ
block = 4096

abbrev pub size_of : Content → ℕ
size_of content = elim content [
  | Regular bytes ↦ length bytes
  | Directory entries last_cookie ↦ block
  | Link text ↦ length text
  | _ ↦ 0
]

-- the size, rounded up to whole blocks
abbrev pub used_of : Content → ℕ
used_of content = (size_of content + 4095) / block * block

abbrev pub device_of : Content → DeviceNumber
device_of content = elim content [
  | BlockDevice device ↦ device
  | CharacterDevice device ↦ device
  | _ ↦ record { major = 0; minor = 0 }
]

-- the entries of a directory; of what is none, no entry
abbrev pub entries_of : Content → List Entry
entries_of content = elim content [ Directory entries last_cookie ↦ entries | _ ↦ [] ]

abbrev pub is_directory : Content → Bool
is_directory content = elim content [ Directory entries last_cookie ↦ true | _ ↦ false ]

abbrev pub is_living_directory : Option Living → Bool
is_living_directory object = elim object [ None ↦ false | Some o ↦ is_directory o.content ]

-- how many names in a directory lead to the object
abbrev pub names_in : ℕ → Living → ℕ
names_in number directory = count_by (λ (e : Entry). e.number == number) (entries_of directory.content)

-- how many names lead to the object
abbrev pub names_of : State → ℕ → ℕ
names_of m number = sum_by (names_in number) (values m.objects)

-- of a directory 2 and its subdirectories, of anything else the count of its names
abbrev pub links_of : State → ℕ → Content → ℕ
links_of m number content = elim content [
  | Directory entries last_cookie ↦ 2 +
      count_by (λ (e : Entry). is_living_directory (get m.objects e.number)) entries
  | _ ↦ names_of m number
]

abbrev pub attributes_of : State → ℕ → Living → Attributes
attributes_of m number o = record {
  kind = type_of o.content;
  mode = o.mode;
  links = links_of m number o.content;
  uid = o.uid;
  gid = o.gid;
  size = size_of o.content;
  used = used_of o.content;
  device = device_of o.content;
  fsid = o.export;
  fileid = number;
  accessed = o.accessed;
  modified = o.modified;
  changed = o.changed;
}
