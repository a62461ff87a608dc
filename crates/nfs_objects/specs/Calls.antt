-- What calls name.
use Rattle.std.specs.Prelude.{◌≡◌, ℕ, zero, suc, Bool, true, false, List, [], ◌∷◌, ◌++◌, Some, None}
use Rattle.std.specs.Prelude.{◌⊎◌, ◌/◌, ◌%◌, ◌==◌, Option, if◌then◌else◌, length, min, option_map, take}
use Rattle.std.specs.Int.{w64, from_be_bytes}
use Rattle.nfs_wire.specs.Handles.{nfs_handles}
use Rattle.nfs_wire.specs.declared.calls.NfsCall.{NfsCall}
use Rattle.nfs_wire.specs.declared.calls.NfsCall.TheVariants as nfs
use Rattle.nfs_wire.specs.declared.calls.DirOp.{DirOp}
use Rattle.side_wire.specs.Handles.{nlm_handles}
use Rattle.side_wire.specs.declared.mount.MountCall.TheVariants as mount
use Rattle.side_wire.specs.declared.nlm.NlmCall.{NlmCall}
use Rattle.side_wire.specs.declared.nlm.NlmCall.TheVariants as nlm
use Rattle.nfs_machine.specs.Handles.{handle_of}
use Rattle.nfs_machine.specs.Exports.{ExportValue}
use Rattle.nfs_machine.specs.Replacing.{is_exhausted, new_count}
use Rattle.nfs_machine.specs.declared.calls.Call.{Call}
use Rattle.nfs_machine.specs.declared.calls.Call.TheVariants as calls
use Rattle.nfs_objects.specs.declared.address.Addr.{Addr}
use Rattle.nfs_objects.specs.declared.address.Addr.TheVariants as addresses
use Rattle.nfs_objects.specs.declared.directory.Directory.{Directory}
use Rattle.nfs_objects.specs.declared.entry_map.EntryMap.{EntryMap}
use Rattle.nlm_ranges.specs.Buckets.{bucket_count}
use Rattle.nfs_objects.specs.Directories.{bucket_of, width_in}
use Rattle.nfs_objects.specs.ExportTables.{ExportTableValue}
use Rattle.nfs_objects.specs.Modes.{led_at}
use Rattle.nfs_objects.specs.Stands.{export_table_of, header_of}
use Rattle.nfs_objects.specs.Sums.{group_of}
use Rattle.nfs_objects.specs.Values.{ViewValue, shown_at}
use Rattle.nfs_objects.specs.declared.view.Reserved.{Reserved}

-- the handles of a call, in the order in which they are judged
abbrev pub handles_of : Call → List (List ℕ)
handles_of (calls.Nfs call) = nfs_handles call
handles_of (calls.Mount call) = []
handles_of (calls.Nlm call) = nlm_handles call
handles_of (calls.Replace exports) = []

-- the procedure NULL of each program reads nothing
abbrev pub is_null : Call → Bool
is_null (calls.Nfs nfs.Null) = true
is_null (calls.Mount mount.Null) = true
is_null (calls.Nlm nlm.Null) = true
is_null call = false

-- ---- addresses
-- the addresses of what the first so many groups of an export use
unfoldable pub usages_of : (export count : ℕ) → List Addr
usages_of export zero = []
usages_of export (suc group) = addresses.Usage export group ∷ usages_of export group

-- the addresses of the object at a number, as far as a view shows what stands there: that of its inode
abbrev pub addresses_of : ViewValue → (number : ℕ) → List Addr
addresses_of view number = addresses.Inode number ∷ []

-- the addresses of the objects that handles name, and of what all groups of their exports use: a new object is counted
-- in a group that may be empty
abbrev pub objects_at : ViewValue → List (List ℕ) → List Addr
objects_at view [] = []
objects_at view (handle ∷ handles) = elim (handle_of handle) [
  | None ↦ objects_at view handles
  | Some h ↦ addresses_of view h.fileid ++ usages_of h.export 64 ++ objects_at view handles
]

-- the addresses of so many of a file's blocks from one on
unfoldable pub blocks_from : (file first count : ℕ) → List Addr
blocks_from file first zero = []
blocks_from file first (suc count) = addresses.Block file first ∷ blocks_from file (suc first) count

-- those of the blocks from an offset on that the bytes of one call lie in, which are at most 65,536
abbrev pub blocks_at : (file offset : ℕ) → List Addr
blocks_at file offset = blocks_from file (offset / 4096) 17

-- those of the map pages that tell of these
abbrev pub maps_at : (file offset : ℕ) → List Addr
maps_at file offset =
    addresses.Map file (offset / 4096 / 512) ∷ addresses.Map file (suc (offset / 4096 / 512)) ∷ []

-- these of the file or the directory that a handle names
abbrev pub in_file : (handle : List ℕ) → (ℕ → List Addr) → List Addr
in_file handle places = elim (handle_of handle) [ None ↦ [] | Some h ↦ places h.fileid ]

-- the addresses where the data of a call of NFS lies: a block may be absent, and be the first of its map page
abbrev pub data_of : NfsCall → List Addr
data_of (nfs.Read a) = in_file a.file (λ file. blocks_at file a.offset)
data_of (nfs.Write a) = in_file a.file (λ file. blocks_at file a.offset ++ maps_at file a.offset)
data_of call = []

-- ---- names that come
-- where an entry more of a directory with this map goes, beside what the map tells of: its page, and the part that its
-- bucket may get
abbrev pub places_for : EntryMap → (directory : ℕ) → List ℕ → (cookie : ℕ) → List Addr
places_for m directory name cookie = addresses.Page directory (cookie / 64) ∷
    addresses.Part directory (bucket_of name) (width_in m.counts (bucket_of name)) ∷ []

-- the directory at a number, but for its entries, as a view shows it
abbrev pub header_shown : ViewValue → (number : ℕ) → Option Directory
header_shown view number = elim (shown_at view.entries (addresses.Inode number)) [
  | None ↦ None
  | Some object ↦ header_of object
]

-- where a name more of the directory at a number goes, as a view shows it: with the next cookie
abbrev pub next_places : ViewValue → (directory : ℕ) → List ℕ → List Addr
next_places view directory name = elim (header_shown view directory) [
  | None ↦ []
  | Some h ↦ places_for h.entries directory name (suc h.last_cookie)
]

-- the same of the name that a call brings
abbrev pub added_at : ViewValue → DirOp → List Addr
added_at view place = in_file place.directory (λ directory. next_places view directory place.name)

-- the addresses to which the name goes that a call of NFS may add
abbrev pub added_by : ViewValue → NfsCall → List Addr
added_by view (nfs.Create a) = added_at view a.place
added_by view (nfs.Mkdir a) = added_at view a.place
added_by view (nfs.Symlink a) = added_at view a.place
added_by view (nfs.Mknod a) = added_at view a.place
added_by view (nfs.Rename a) = added_at view a.to
added_by view (nfs.Link a) = added_at view a.place
added_by view call = []

-- ---- locks
-- the address of the bucket of what the file at a number has of locks, and of the grant with a number
abbrev pub locks_at : (number : ℕ) → List Addr
locks_at number = addresses.Locks (number % bucket_count) ∷ []

-- that of what a name leads to, once the view shows it
abbrev pub locks_under : ViewValue → DirOp → List Addr
locks_under view place = in_file place.directory
    (λ directory. elim (led_at view directory place.name) [ None ↦ [] | Some number ↦ locks_at number ])

-- of what may lose its last name
abbrev pub locks_lost : ViewValue → NfsCall → List Addr
locks_lost view (nfs.Remove place) = locks_under view place
locks_lost view (nfs.Rmdir place) = locks_under view place
locks_lost view (nfs.Rename a) = locks_under view a.to
locks_lost view call = []

-- those of so many buckets
unfoldable pub buckets_below : (count : ℕ) → List Addr
buckets_below zero = []
buckets_below (suc index) = addresses.Locks index ∷ buckets_below index

-- of the files that handles name
abbrev pub locks_of : List (List ℕ) → List Addr
locks_of [] = []
locks_of (handle ∷ handles) = in_file handle locks_at ++ locks_of handles

-- of the files that a call of NLM names, of the grant that it answers, by the 8 bytes of its cookie, or of all files
abbrev pub locks_named : NlmCall → List Addr
locks_named (nlm.GrantedRes r) = if length r.cookie == 8 then locks_at (from_be_bytes w64 r.cookie) else []
locks_named (nlm.FreeAll a) = buckets_below bucket_count
locks_named call = locks_of (nlm_handles call)

-- ---- other exports
-- the table of exports, as a view shows it
abbrev pub exports_shown : ViewValue → Option ExportTableValue
exports_shown view = option_map export_table_of (shown_at view.entries addresses.Exports)

-- what the groups of new roots use, of exports that are numbered behind the last
abbrev pub root_usages : (last : ℕ) → List Reserved → List Addr
root_usages last [] = []
root_usages last (r ∷ reserved) = addresses.Usage (suc last) (group_of r.number) ∷ root_usages (suc last) reserved

abbrev pub roots_named : ViewValue → List Addr
roots_named view = elim (exports_shown view) [ None ↦ [] | Some table ↦ root_usages table.last (take 64 view.reserved) ]

-- how many roots these exports want beside a table: one for each new path, and none where a number would not fit
abbrev pub roots_for : List ExportValue → ExportTableValue → ℕ
roots_for exports table =
    if is_exhausted table.exports table.last exports then 0 else min (new_count table.exports exports) 64

-- and so many once the table is read
abbrev pub roots_wanted : ViewValue → List ExportValue → ℕ
roots_wanted view exports = elim (exports_shown view) [ None ↦ 0 | Some table ↦ roots_for exports table ]

-- The addresses that a call names, whether anything stands there or not, once it has read so much: the exports, the
-- objects of its handles with what their exports use, where its data lies, where a name goes that it may add, the locks
-- that it may change, and those that are its program's alone; or, of the roots that it makes, what their groups use.
-- What it named it names still as it reads more.
abbrev pub named_by : Call → ViewValue → List Addr
named_by (calls.Nfs call) view = addresses.Exports ∷ objects_at view (nfs_handles call) ++
    (data_of call ++ (added_by view call ++ locks_lost view call))
named_by (calls.Mount call) view = addresses.Exports ∷ addresses.Mounts ∷ []
named_by (calls.Nlm call) view = addresses.Exports ∷ objects_at view (nlm_handles call) ++ locks_named call
named_by (calls.Replace exports) view = addresses.Exports ∷ roots_named view

-- the address is one of these
abbrev pub IsAmong : List Addr → Addr → Type 0
IsAmong [] a = ⊥
IsAmong (b ∷ addresses) a = (b ≡ a) ⊎ IsAmong addresses a

-- ---- numbers
-- how many objects a call of NFS makes, if it makes any (RFC 1813, 3.3.8 to 3.3.11)
abbrev pub made_by : NfsCall → ℕ
made_by (nfs.Create a) = 1
made_by (nfs.Mkdir a) = 1
made_by (nfs.Symlink a) = 1
made_by (nfs.Mknod a) = 1
made_by call = 0

-- How many new numbers a call may want, once it has read so much: one for each object that it makes, and none where it
-- makes none.
abbrev pub new_numbers : Call → ViewValue → ℕ
new_numbers (calls.Nfs call) view = made_by call
new_numbers (calls.Replace exports) view = roots_wanted view exports
new_numbers call view = 0
