-- The state that a store stands for.
use Rattle.std.specs.Prelude.{◌≡◌, ◌<◌, ◌≤◌, ◌^◌, ◌↔◌, ◌⊎◌, ◌||◌, ℕ, Bool, false, true, Contains, List}
use Rattle.std.specs.Prelude.{[], length}
use Rattle.std.specs.Prelude.{Option, Some, None, IsSome, is_some, option_map, unwrap_or}
use Rattle.std.specs.Prelude.{nat_le, nat_lt, if◌then◌else◌, replicate, ◌/◌, ◌%◌, ◌==◌}
use Rattle.std.specs.FinMap.{get}
use Rattle.std.specs.List.{AllByRecursion, count_by}
use Rattle.nfs_wire.specs.declared.calls.Verifier.{Verifier}
use Rattle.nfs_machine.specs.Attributes.{size_of}
use Rattle.nfs_machine.specs.Checks.{entry_of}
use Rattle.nfs_machine.specs.Exports.{LivingExport, export_at}
use Rattle.nfs_machine.specs.Grants.{at_file}
use Rattle.nfs_machine.specs.State.{Living, Request, State}
use Rattle.nfs_machine.specs.State as machine
use Rattle.nfs_machine.specs.WellFormed.{NamesOnce}
use Rattle.nlm_ranges.specs.Buckets.{BucketValue, LockedValue, bucket_count, file_in, has_none, no_bucket}
use Rattle.nlm_ranges.specs.Files.{FileValue, no_file}
use Rattle.nfs_objects.specs.declared.address.Addr.TheVariants as addresses
use Rattle.nfs_objects.specs.declared.bits.Bits.{Bits}
use Rattle.nfs_objects.specs.declared.directory.Directory.{Directory}
use Rattle.nfs_objects.specs.declared.entry_map.EntryMap.{EntryMap}
use Rattle.nfs_objects.specs.declared.object.Content.{Content}
use Rattle.nfs_objects.specs.declared.object.Content.TheVariants as contents
use Rattle.nfs_objects.specs.declared.object.Inode.{Inode}
use Rattle.nfs_objects.specs.declared.object.Object.{Object}
use Rattle.nfs_objects.specs.declared.object.Object.TheVariants as stored
use Rattle.nfs_objects.specs.Bits.{has, no_bits, same_bits}
use Rattle.nfs_objects.specs.Directories.{IsCount, bucket_of, count_in, has_some, in_page, led_in_part, width_in}
use Rattle.nfs_objects.specs.PageRuns.{lists}
use Rattle.nfs_objects.specs.ExportTables.{ExportTableValue, no_exports}
use Rattle.nfs_objects.specs.FileMaps.{FileMapValue, IsContent}
use Rattle.nfs_objects.specs.Store.{Store}
use Rattle.nfs_objects.specs.Sums.{stored_usage}
use Rattle.nfs_objects.specs.declared.usage.Usage.{Usage}
use Rattle.side_wire.specs.declared.mount.lists.MountBody.{MountBody}

-- What an inode tells by itself of the machine's content: of a file its size, as so many zeros, since its bytes stand
-- in blocks; of a directory the greatest cookie that it used and no entry, since its entries stand in pages and parts.
-- The machine does not keep the parent of a directory, which follows from the names.
abbrev pub content_of : Content → machine.Content
content_of (contents.Regular map) = machine.Regular (replicate map.size 0)
content_of (contents.Directory header) = machine.Directory [] header.last_cookie
content_of (contents.Link text) = machine.Link text
content_of (contents.BlockDevice device) = machine.BlockDevice device
content_of (contents.CharacterDevice device) = machine.CharacterDevice device
content_of contents.Socket = machine.Socket
content_of contents.Fifo = machine.Fifo

-- the bytes of an exclusive CREATE
abbrev pub verifier_bytes : Option Verifier → Option (List ℕ)
verifier_bytes verifier = option_map (λ (v : Verifier). v.bytes) verifier

-- the bytes of a regular file; of what is none, no byte
abbrev pub file_bytes : machine.Content → List ℕ
file_bytes content = elim content [ machine.Regular bytes ↦ bytes | other ↦ [] ]

-- the entries of a directory; of what is none, no entry
abbrev pub directory_entries : machine.Content → List machine.Entry
directory_entries content = elim content [ machine.Directory entries last ↦ entries | other ↦ [] ]

-- what stands beside an inode: the bytes of a file, and the entries of a directory
pub record Beside : Type 0 where
  pub bytes : List ℕ
  pub entries : List machine.Entry

-- nothing does
abbrev pub nothing_beside : Beside
nothing_beside = record { bytes = []; entries = [] }

-- the content, where a file has these bytes and a directory these entries
abbrev pub filled : Beside → machine.Content → machine.Content
filled beside (machine.Regular zeros) = machine.Regular beside.bytes
filled beside (machine.Directory none last) = machine.Directory beside.entries last
filled beside content = content

-- what an inode tells by itself of the living object that it is: of a file no bytes but zeros and of a directory no
-- entry, as a new one has them
abbrev pub living_alone : Inode → Living
living_alone i = record {
  export = i.export;
  generation = i.generation;
  content = content_of i.content;
  mode = i.mode;
  uid = i.uid;
  gid = i.gid;
  accessed = i.accessed;
  modified = i.modified;
  changed = i.changed;
  verifier = verifier_bytes i.verifier;
}

-- the living object that it is, where this stands beside it
abbrev pub living_of_inode : Beside → Inode → Living
living_of_inode beside i = record (living_alone i) { content = filled beside (content_of i.content) }

-- the inode that stands there
abbrev pub inode_of : Option Object → Option Inode
inode_of (Some (stored.Inode i)) = Some i
inode_of o = None

-- whether the export with this number lives
abbrev pub lives_in : List LivingExport → ℕ → Bool
lives_in exports number = is_some (export_at exports number)

-- the inode that stands there, if its export lives: what belongs to no living export stands for nothing
abbrev pub inode_in : List LivingExport → Option Object → Option Inode
inode_in exports o = elim (inode_of o) [ None ↦ None | Some i ↦ if lives_in exports i.export then Some i else None ]

-- what lives where this stands, with this beside it
abbrev pub living_in : List LivingExport → Beside → Option Object → Option Living
living_in exports beside o = option_map (living_of_inode beside) (inode_in exports o)

-- ---- files
-- how many bytes a file has, and which of its map pages are there
abbrev pub map_in : Content → Option FileMapValue
map_in (contents.Regular map) = Some map
map_in content = None

-- the same of the file that stands there
abbrev pub file_of : Option Object → Option FileMapValue
file_of o = elim (inode_of o) [ None ↦ None | Some i ↦ map_in i.content ]

-- the map pages of the file that stands there; of what is none, no page
abbrev pub pages_of : Option Object → Bits
pages_of o = elim (file_of o) [ None ↦ no_bits | Some map ↦ map.pages ]

-- the blocks that the map tells of that stands there
abbrev pub map_of : Option Object → Bits
map_of (Some (stored.Map bits)) = bits
map_of o = no_bits

-- what stands for a map: nothing for one with no block
abbrev pub stored_map : Bits → Option Object
stored_map bits = if same_bits bits no_bits then None else Some (stored.Map bits)

-- the block that stands there
abbrev pub block_of : Option Object → Option (List ℕ)
block_of (Some (stored.Block bytes)) = Some bytes
block_of o = None

-- the bytes that a block has; none where it is absent
abbrev pub stored_in : Option Object → List ℕ
stored_in o = unwrap_or (block_of o) []

-- what a file with this map has of a block where this stands: remains count as zeros
abbrev pub filed_in : FileMapValue → (block : ℕ) → Option Object → List ℕ
filed_in map b o = if has map.remains (b / 512) then [] else stored_in o

-- the bytes of the file at a number
abbrev pub bytes_at : State → ℕ → List ℕ
bytes_at m n = elim (get m.objects n) [ None ↦ [] | Some o ↦ file_bytes o.content ]

-- ---- directories
-- where the entries of a directory stand
abbrev pub entry_map_in : Content → Option EntryMap
entry_map_in (contents.Directory directory) = Some directory.entries
entry_map_in content = None

-- the same of the directory that stands there
abbrev pub entry_map_of : Option Object → Option EntryMap
entry_map_of o = elim (inode_of o) [ None ↦ None | Some i ↦ entry_map_in i.content ]

-- the directory that stands there, but for its entries
abbrev pub header_in : Content → Option Directory
header_in (contents.Directory directory) = Some directory
header_in content = None

abbrev pub header_of : Option Object → Option Directory
header_of o = elim (inode_of o) [ None ↦ None | Some i ↦ header_in i.content ]

-- the page of a directory that stands there, and the part of one
abbrev pub page_of : Option Object → Option (List machine.Entry)
page_of (Some (stored.Page page)) = Some page
page_of o = None

abbrev pub part_of : Option Object → Option (List machine.Entry)
part_of (Some (stored.Part part)) = Some part
part_of o = None

-- what stands for a page: nothing for one with no entry
abbrev pub stored_page : List machine.Entry → Option Object
stored_page page = if has_some page then Some (stored.Page page) else None

-- the entries of the directory at a number
abbrev pub entries_at : State → ℕ → List machine.Entry
entries_at m n = elim (get m.objects n) [ None ↦ [] | Some o ↦ directory_entries o.content ]

-- what stands beside the inode at a number
abbrev pub beside_at : State → ℕ → Beside
beside_at m n = record { bytes = bytes_at m n; entries = entries_at m n }

-- the table of mounts that stands there
abbrev pub table_of : Option Object → Option (List MountBody)
table_of (Some (stored.Mounts table)) = Some table
table_of o = None

-- an absent table is empty
abbrev pub mounts_in : Option (List MountBody) → List MountBody
mounts_in table = unwrap_or table []

abbrev pub mounts_of : Option Object → List MountBody
mounts_of o = mounts_in (table_of o)

-- the table of exports that stands there; an absent one is empty
abbrev pub export_table_of : Option Object → ExportTableValue
export_table_of (Some (stored.Exports table)) = table
export_table_of o = no_exports

-- the living exports that stand there
abbrev pub exports_of : Option Object → List LivingExport
exports_of o = (export_table_of o).exports

-- what the machine is in, and what inodes keep beside: of each object the count of its links, of each directory its
-- parent
pub record StoreMeaning : Type 0 where
  pub state : State
  pub links : ℕ → ℕ
  pub parents : ℕ → ℕ
  -- and what the groups of each export's objects use
  pub usage : (export group : ℕ) → Usage

abbrev pub links_kept : Option Inode → ℕ
links_kept None = 0
links_kept (Some i) = i.links

abbrev pub parent_in : Content → ℕ
parent_in (contents.Directory header) = header.parent
parent_in content = 0

abbrev pub parent_kept : Option Inode → ℕ
parent_kept None = 0
parent_kept (Some i) = parent_in i.content

-- its number has 64 bits, and its size 63
abbrev pub IsFitting : ℕ → Inode → Type 0
IsFitting number i = (number < 2 ^ 64) × (size_of (content_of i.content) < 2 ^ 63)

-- ---- what a store stands for, part by part
-- the inode at a number, if its export lives
abbrev pub inode_there : Store → List LivingExport → (number : ℕ) → Option Inode
inode_there s exports n = inode_in exports (s.at (addresses.Inode n))

-- what lives at a number, with this beside it
abbrev pub stands_alive : Store → List LivingExport → Beside → (number : ℕ) → Option Living
stands_alive s exports beside n = living_in exports beside (s.at (addresses.Inode n))

-- the store has a table of exports, and that of mounts
pub record StandTables (s : Store) (m : State) : Type 0 where
  pub table : IsSome (s.at addresses.Exports)
  pub exports : m.exports ≡ exports_of (s.at addresses.Exports)
  pub last_export : m.last_export ≡ (export_table_of (s.at addresses.Exports)).last
  pub mounts : m.mounts ≡ mounts_of (s.at addresses.Mounts)

-- What is at each number lives if its export does, with its links and its parent; the bytes of files and the entries of
-- directories are parts of their own. Spent are the generations of each number up to the last, that of what stands
-- there among them.
pub record StandObjects (s : Store) (k : StoreMeaning) : Type 0 where
  pub objects : (n : ℕ) → get k.state.objects n ≡ stands_alive s k.state.exports (beside_at k.state n) n
  pub links : (n : ℕ) → k.links n ≡ links_kept (inode_there s k.state.exports n)
  pub parents : (n : ℕ) → k.parents n ≡ parent_kept (inode_there s k.state.exports n)
  pub given : (n : ℕ) (i : Inode) → s.at (addresses.Inode n) ≡ Some (stored.Inode i) → i.generation ≤ s.last n
  pub fits : (n : ℕ) (i : Inode) → s.at (addresses.Inode n) ≡ Some (stored.Inode i) → IsFitting n i
  pub spent : (n g : ℕ) → k.state.spent n g ≡ nat_le g (s.last n)
  -- its export lives, or has a number that was used
  pub numbered : (n : ℕ) (i : Inode) → s.at (addresses.Inode n) ≡ Some (stored.Inode i) →
      (lives_in k.state.exports i.export ≡ true) ⊎ (i.export ≤ k.state.last_export)

-- a map that tells of a block stands there, or nothing
abbrev pub IsMapped : (mapped : Bool) → Option Object → Type 0
IsMapped true o = (bits : Bits) × (o ≡ Some (stored.Map bits)) × (same_bits bits no_bits ≡ false)
IsMapped false o = o ≡ None

-- a block that has a byte stands there, or nothing; so it stands before the end of a file that lives
abbrev pub IsStored : (stored : Bool) → Option Object → Type 0
IsStored true o = (bytes : List ℕ) × (o ≡ Some (stored.Block bytes)) × (0 < length bytes)
IsStored false o = o ≡ None

-- at a number stand the map pages of these, and the blocks that those tell of, and no others
pub record HasBlocks (s : Store) (file : ℕ) (pages : Bits) : Type 0 where
  pub maps : (page : ℕ) → IsMapped (has pages page) (s.at (addresses.Map file page))
  pub blocks : (i : ℕ) →
      IsStored (has (map_of (s.at (addresses.Map file (i / 512)))) (i % 512)) (s.at (addresses.Block file i))

-- At each number stand just the blocks of the file that stands there, if any does. Those of a file that lives have the
-- machine's bytes.
pub record StandFiles (s : Store) (k : StoreMeaning) : Type 0 where
  pub blocks : (n : ℕ) → HasBlocks s n (pages_of (s.at (addresses.Inode n)))
  pub bytes : (n : ℕ) (i : Inode) (map : FileMapValue) → inode_there s k.state.exports n ≡ Some i →
      map_in i.content ≡ Some map →
      IsContent map.size (λ b. filed_in map b (s.at (addresses.Block n b))) (bytes_at k.state n)

-- a part of a directory's names stands there, in which each leads to this entry; or nothing
abbrev pub IsPart : (there : Bool) → (leads : List ℕ → Option machine.Entry) → Option Object → Type 0
IsPart true leads o = (part : List machine.Entry) × (o ≡ Some (stored.Part part)) ×
    ((name : List ℕ) → entry_of part name ≡ leads name)
IsPart false leads o = o ≡ None

-- At a number stand just the pages and the parts of these entries, as a map tells of them: each page has the entries
-- with its cookies, and in each part the names that are in it lead where they do among the entries. A page with no
-- entry is not there, and a bucket with no name has no part.
pub record HasEntries (s : Store) (n : ℕ) (m : EntryMap) (entries : List machine.Entry) : Type 0 where
  pub once : NamesOnce entries
  pub buckets : length m.counts ≡ 64
  pub listed : (page : ℕ) → lists m.pages page ≡ has_some (in_page page entries)
  pub pages : (page : ℕ) → s.at (addresses.Page n page) ≡ stored_page (in_page page entries)
  pub counted : (bucket : ℕ) → IsCount (count_in m.counts bucket)
      (count_by (λ (e : machine.Entry). bucket_of e.name == bucket) entries)
  pub parts : (bucket part : ℕ) → IsPart (nat_lt part (width_in m.counts bucket))
      (led_in_part m.key (width_in m.counts bucket) bucket part entries) (s.at (addresses.Part n bucket part))

-- the same of a directory, if one stands there; of what is none, nothing
abbrev pub HoldsEntries : Store → (number : ℕ) → Option EntryMap → List machine.Entry → Type 0
HoldsEntries s n (Some m) entries = HasEntries s n m entries
HoldsEntries s n None entries = ((page : ℕ) → s.at (addresses.Page n page) ≡ None) ×
    ((bucket part : ℕ) → s.at (addresses.Part n bucket part) ≡ None)

-- At a number stand just the pages and parts of some entries of the directory that stands there, if any does. Those of
-- a directory that lives are the machine's.
pub record StandEntries (s : Store) (k : StoreMeaning) (n : ℕ) : Type 0 where
  pub entries : List machine.Entry
  pub holds : HoldsEntries s n (entry_map_of (s.at (addresses.Inode n))) entries
  pub lives : IsSome (inode_there s k.state.exports n) → entries ≡ entries_at k.state n

abbrev pub StandDirectories : Store → StoreMeaning → Type 0
StandDirectories s k = (n : ℕ) → StandEntries s k n

-- whether an export with this number lives, or none was ever numbered so
abbrev pub counts : State → ℕ → Bool
counts m e = lives_in m.exports e || nat_lt m.last_export e

-- of each living export each group's usage stands for it, but for that of no object; of each number that no export had
-- yet too
pub record StandUsages (s : Store) (k : StoreMeaning) : Type 0 where
  pub usage : (e g : ℕ) → counts k.state e ≡ true →
      s.at (addresses.Usage e g) ≡ stored_usage (k.usage e g)

-- ---- locks, shares, requests and grants
-- the bucket that stands there
abbrev pub lock_bucket_of : Option Object → Option BucketValue
lock_bucket_of (Some (stored.Locks bucket)) = Some bucket
lock_bucket_of o = None

-- an absent bucket has nothing
abbrev pub bucket_in : Option BucketValue → BucketValue
bucket_in bucket = unwrap_or bucket no_bucket

abbrev pub bucket_at : Option Object → BucketValue
bucket_at o = bucket_in (lock_bucket_of o)

-- what stands for a bucket: nothing for one that has nothing
abbrev pub stored_bucket : BucketValue → Option Object
stored_bucket bucket = if has_none bucket then None else Some (stored.Locks bucket)

-- the bucket in the store with this index
abbrev pub bucket_there : Store → (index : ℕ) → BucketValue
bucket_there s index = bucket_at (s.at (addresses.Locks index))

-- what a file has, if its export lives: what belongs to no living export stands for nothing
abbrev pub exported_file : List LivingExport → Option LockedValue → FileValue
exported_file exports None = no_file
exported_file exports (Some f) = if lives_in exports f.export then f.file else no_file

-- what the file at a number has of locks, shares, requests and grants
abbrev pub file_there : Store → List LivingExport → (number : ℕ) → FileValue
file_there s exports n = exported_file exports (file_in (bucket_there s (n % bucket_count)) n)

-- the grant with this number is of this request for this file, and is not answered yet
abbrev pub IsPendingIn : State → (number file : ℕ) → Request → Type 0
IsPendingIn m number file request = get m.granted number ≡ Some (record { file = file; request = request })

-- a file of a bucket has its index modulo 64; a regular file stands at its number, and is of its export
pub record IsPlaced (s : Store) (index : ℕ) (f : LockedValue) : Type 0 where
  pub bucket : f.number % bucket_count ≡ index
  pub inode : Inode
  pub stands : s.at (addresses.Inode f.number) ≡ Some (stored.Inode inode)
  pub regular : IsSome (map_in inode.content)
  pub export : inode.export ≡ f.export

-- What each file has stands in the bucket of its number. The numbers of grants that are spent are those of each bucket,
-- up to the last that it gave.
pub record StandLocks (s : Store) (m : State) : Type 0 where
  pub held : (n : ℕ) → at_file m n ≡ (file_there s m.exports n).held
  pub pending : (number file : ℕ) (r : Request) → IsPendingIn m number file r ↔
      (Contains (file_there s m.exports file).pending r × (r.number ≡ number))
  pub spent : (number : ℕ) → m.spent_grants number ≡
      nat_lt (number / bucket_count) (bucket_there s (number % bucket_count)).given
  pub stored : (index : ℕ) → s.at (addresses.Locks index) ≡ stored_bucket (bucket_there s index)
  pub placed : (index : ℕ) → AllByRecursion (IsPlaced s index) (bucket_there s index).files

-- the store stands for this
pub record Represents (s : Store) (k : StoreMeaning) : Type 0 where
  pub tables : StandTables s k.state
  pub objects : StandObjects s k
  pub files : StandFiles s k
  pub directories : StandDirectories s k
  pub usages : StandUsages s k
  pub locks : StandLocks s k.state
