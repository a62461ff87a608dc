-- How calls hold what they read: alone what they may change, and shared what they only read.
use Rattle.std.specs.Prelude.{◌≡◌, ◌==◌, ◌&&◌, Bool, true, false, not, ℕ, List, Option}
use Rattle.std.specs.Prelude.{Some, None, option_map, if◌then◌else◌}
use Rattle.std.specs.List.{AllByRecursion}
use Rattle.std.specs.Option.{option_map_or}
use Rattle.nfs_wire.specs.Changing.{is_changing_nfs}
use Rattle.nfs_wire.specs.declared.calls.NfsCall.{NfsCall}
use Rattle.nfs_wire.specs.declared.calls.NfsCall.TheVariants as nfs
use Rattle.nfs_wire.specs.declared.calls.DirOp.{DirOp}
use Rattle.nfs_wire.specs.declared.calls.RenameArguments.{RenameArguments}
use Rattle.side_wire.specs.Changing.{changes_locks, is_changing_mount}
use Rattle.nfs_machine.specs.Checks.{entry_of}
use Rattle.nfs_machine.specs.Handles.{handle_of}
use Rattle.nfs_machine.specs.declared.calls.Call.{Call}
use Rattle.nfs_machine.specs.declared.calls.Call.TheVariants as calls
use Rattle.nfs_objects.specs.Directories.{part_place}
use Rattle.nfs_objects.specs.Stands.{entry_map_of, part_of}
use Rattle.nfs_objects.specs.Values.{ModesValue, Seen, ViewValue, shown_at}
use Rattle.nfs_objects.specs.declared.address.Addr.{Addr}
use Rattle.nfs_objects.specs.declared.address.Addr.TheVariants as addresses
use Rattle.nfs_objects.specs.declared.modes.Mode.{Mode}
use Rattle.nfs_objects.specs.declared.modes.Mode.TheVariants.{Shared, Exclusive}
use Rattle.nfs_objects.specs.declared.object.Object.{Object}

-- whether what is held in a mode may be used in another
abbrev pub covers : (held wanted : Mode) → Bool
covers Exclusive wanted = true
covers Shared Shared = true
covers Shared Exclusive = false

-- ---- what RENAME only reads
-- the address of the part that a name is in, in the directory that stands at a number, if its bucket has parts
abbrev pub part_address : (directory : ℕ) → Option Object → List ℕ → Option Addr
part_address n object name = elim (entry_map_of object) [ None ↦ None | Some m ↦ part_place m n name ]

-- the number that a name leads to in the part that stands somewhere
abbrev pub number_in : Option Object → List ℕ → Option ℕ
number_in object name = elim (part_of object) [
  | None ↦ None
  | Some part ↦ option_map (λ e. e.number) (entry_of part name)
]

-- the same in the part at an address, as the view shows it
abbrev pub number_at : ViewValue → Option Addr → List ℕ → Option ℕ
number_at view None name = None
number_at view (Some a) name = elim (shown_at view.entries a) [ None ↦ None | Some object ↦ number_in object name ]

-- the number that a name leads to in the directory at a number, as the view shows it
abbrev pub led_at : ViewValue → (directory : ℕ) → List ℕ → Option ℕ
led_at view directory name = elim (shown_at view.entries (addresses.Inode directory)) [
  | None ↦ None
  | Some object ↦ number_at view (part_address directory object name) name
]

abbrev pub is_number : Option ℕ → ℕ → Bool
is_number led n = option_map_or (λ m. m == n) led false

-- as the view shows, a name that is in this part, if in any, leads to another number than this, or to none
abbrev pub is_elsewhere : ViewValue → Option Addr → List ℕ → (number : ℕ) → Bool
is_elsewhere view None name n = true
is_elsewhere view (Some a) name n = elim (shown_at view.entries a) [
  | None ↦ false
  | Some object ↦ not (is_number (number_in object name) n)
]

-- the view shows what a name leads to, and neither that nor the directory of the name is at this number
abbrev pub is_apart : ViewValue → DirOp → (number : ℕ) → Bool
is_apart view place n = elim (handle_of place.directory) [
  | None ↦ false
  | Some h ↦ elim (shown_at view.entries (addresses.Inode h.fileid)) [
    | None ↦ false
    | Some object ↦ not (h.fileid == n) && is_elsewhere view (part_address h.fileid object place.name) place.name n
  ]
]

-- RENAME changes both directories and what its names lead to there; once the view shows these, it reads all others only
-- to see which directories lie above its target
abbrev pub only_reads : Option RenameArguments → ViewValue → (number : ℕ) → Bool
only_reads None view n = false
only_reads (Some a) view n = is_apart view a.from n && is_apart view a.to n

-- ---- modes
-- the mode in which an address is wanted: a call holds the maps and blocks of a file and the pages and parts of a
-- directory as it holds the inode
abbrev pub held_mode : ModesValue → ViewValue → Addr → Mode
held_mode modes view addresses.Exports = modes.exports
held_mode modes view (addresses.Inode n) = if only_reads modes.renames view n then Shared else modes.inodes
held_mode modes view (addresses.Map n page) = if only_reads modes.renames view n then Shared else modes.inodes
held_mode modes view (addresses.Block n i) = if only_reads modes.renames view n then Shared else modes.inodes
held_mode modes view (addresses.Page n page) = if only_reads modes.renames view n then Shared else modes.inodes
held_mode modes view (addresses.Part n b part) = if only_reads modes.renames view n then Shared else modes.inodes
held_mode modes view addresses.Mounts = modes.mounts
held_mode modes view (addresses.Usage e g) = modes.inodes
held_mode modes view (addresses.Locks b) = modes.locks

-- alone, where it may be changed
abbrev pub mode_for : (changes : Bool) → Mode
mode_for true = Exclusive
mode_for false = Shared

-- the names that a call moves
abbrev pub renames_of : NfsCall → Option RenameArguments
renames_of (nfs.Rename a) = Some a
renames_of call = None

-- those of the call that replaces the exports: it makes roots, and changes nothing else
abbrev pub replacing : ModesValue
replacing = record { exports = Exclusive; inodes = Exclusive; mounts = Shared; locks = Shared; renames = None }

-- A call of NFS may change objects, and with the last name of a file go its locks. MNT reads directories and changes
-- the mounts, as UMNT and UMNTALL do. NLM reads the file.
abbrev pub modes_of : Call → ModesValue
modes_of (calls.Nfs call) = record {
  exports = Shared;
  inodes = mode_for (is_changing_nfs call);
  mounts = Shared;
  locks = mode_for (is_changing_nfs call);
  renames = renames_of call;
}
modes_of (calls.Mount call) = record
    { exports = Shared; inodes = Shared; mounts = mode_for (is_changing_mount call); locks = Shared; renames = None }
modes_of (calls.Nlm call) = record
    { exports = Shared; inodes = Shared; mounts = Shared; locks = mode_for (changes_locks call); renames = None }
modes_of (calls.Replace exports) = replacing

-- those of calls that change nothing
abbrev pub reading : ModesValue
reading = record { exports = Shared; inodes = Shared; mounts = Shared; locks = Shared; renames = None }

-- those of calls that may change each object that they read
abbrev pub changing : ModesValue
changing = record { exports = Shared; inodes = Exclusive; mounts = Shared; locks = Exclusive; renames = None }

-- those of calls that read files and change what they have of locks
abbrev pub locking : ModesValue
locking = record { exports = Shared; inodes = Shared; mounts = Shared; locks = Exclusive; renames = None }

-- all that the view has is held as it is wanted, or alone
abbrev pub Suits : ModesValue → ViewValue → Type 0
Suits modes view =
    AllByRecursion (λ (e : Seen). covers e.mode (held_mode modes view e.address) ≡ true) view.entries
