-- What a draft shows of the blocks of a file, and what is written to them (RFC 1813, 3.3.6 and 3.3.7).
use Rattle.std.specs.Prelude.{◌≡◌, ◌≢◌, ◌⊎◌, ℕ, ◌+◌, ◌-◌, ◌*◌, ◌/◌, ◌<◌}
use Rattle.std.specs.Prelude.{◌≤◌, ◌==◌, ◌||◌, ◌&&◌, true, false}
use Rattle.std.specs.Prelude.{nat_le, nat_lt, List, ◌++◌, Option, Some, None, IsSome, option_map, length, take}
use Rattle.std.specs.Prelude.{drop}
use Rattle.std.specs.Prelude.{min}
use Rattle.nfs_machine.specs.Data.{written}
use Rattle.nfs_objects.specs.Bits.{has}
use Rattle.nfs_objects.specs.Calls.{addresses_of, blocks_at, maps_at}
use Rattle.nfs_objects.specs.FileMaps.{FileMapValue, block_size, counts}
use Rattle.nfs_objects.specs.Fits.{Fits}
use Rattle.nfs_objects.specs.Stands.{HasBlocks, StoreMeaning, Represents, filed_in, map_in, map_of, pages_of, stored_in}
use Rattle.nfs_objects.specs.Stands.{stored_map}
use Rattle.nfs_objects.specs.Store.{Store, with_writes}
use Rattle.nfs_objects.specs.Unfiled.{Lays}
use Rattle.nfs_objects.specs.Values.{DraftValue, ViewValue, is_addr, known_at, with_written}
use Rattle.nfs_objects.specs.declared.address.Addr.{Addr}
use Rattle.nfs_objects.specs.declared.address.Addr.TheVariants as addresses
use Rattle.nfs_objects.specs.declared.bits.Bits.{Bits}
use Rattle.nfs_objects.specs.declared.object.Inode.{Inode}
use Rattle.nfs_objects.specs.declared.object.Object.TheVariants as objects
use Rattle.nfs_inodes.specs.Known.{HasInode}
use Rattle.nfs_inodes.specs.Stops.{counted_at}

-- ---- what is shown
-- a file with this map has these bytes of a block, in every store that the draft's view fits
abbrev pub ShowsBlock : DraftValue → (file : ℕ) → FileMapValue → (index : ℕ) → List ℕ → Type 0
ShowsBlock d file map index bytes = (s : Store) (k : StoreMeaning) → Fits d.view s
    → Represents (with_writes s d.writes) k →
    filed_in map index ((with_writes s d.writes).at (addresses.Block file index)) ≡ bytes

-- the file with this map stands at a number
pub record HasMap (d : DraftValue) (number : ℕ) (map : FileMapValue) : Type 0 where
  pub inode : Inode
  pub stands : HasInode d number (Some inode)
  pub content : map_in inode.content ≡ Some map

-- the object at a number has these map pages, in every store that the draft's view fits; what is no file has none
abbrev pub HasPages : DraftValue → (number : ℕ) → Bits → Type 0
HasPages d number pages = (s : Store) → Fits d.view s →
    pages_of ((with_writes s d.writes).at (addresses.Inode number)) ≡ pages

-- what is read at an offset may be asked for: the object, and the blocks that it may lie in
abbrev pub read_from : ViewValue → (file offset : ℕ) → List Addr
read_from view file offset = addresses_of view file ++ blocks_at file offset

-- and what is written there, with what the file is counted in, and the map pages
abbrev pub written_from : DraftValue → (file offset : ℕ) → List Addr
written_from d file offset = counted_at d file ++ blocks_at file offset ++ maps_at file offset

-- ---- ranges
-- the first block in which bytes at an offset lie, and the one behind the last, where there are so many
abbrev pub first_of : (offset : ℕ) → ℕ
first_of offset = offset / block_size

abbrev pub end_of : (offset count : ℕ) → ℕ
end_of offset count = (offset + count - 1) / block_size + 1

-- the draft knows what is at each block of a range; or, as far as its map pages are there and count
abbrev pub KnowsRange : DraftValue → (file offset count : ℕ) → Type 0
KnowsRange d file offset count = (i : ℕ) → first_of offset ≤ i → i < end_of offset count →
    IsSome (known_at d (addresses.Block file i))

abbrev pub KnowsMapped : DraftValue → (file : ℕ) → FileMapValue → (offset count : ℕ) → Type 0
KnowsMapped d file map offset count = (i : ℕ) → first_of offset ≤ i → i < end_of offset count →
    counts map (i / 512) ≡ true → IsSome (known_at d (addresses.Block file i))

-- an address is that of a block of a file, from one on and before another
pub record IsBlockIn (file first end : ℕ) (a : Addr) : Type 0 where
  pub index : ℕ
  pub behind : first ≤ index
  pub before : index < end
  pub is : addresses.Block file index ≡ a

-- it is that of a map page
pub record IsMapIn (file first end : ℕ) (a : Addr) : Type 0 where
  pub page : ℕ
  pub behind : first ≤ page
  pub before : page < end
  pub is : addresses.Map file page ≡ a

-- it is that of a block in which bytes at an offset lie, where there are so many, or of a map page of these
abbrev pub IsInRange : (file offset count : ℕ) → Addr → Type 0
IsInRange file offset count a = IsBlockIn file (first_of offset) (end_of offset count) a ⊎
    IsMapIn file (first_of offset / 512) ((end_of offset count - 1) / 512 + 1) a

-- a draft knows that a block is there
abbrev pub HasBlock : DraftValue → (file index : ℕ) → Type 0
HasBlock d file index =
    (bytes : List ℕ) × (known_at d (addresses.Block file index) ≡ Some (Some (objects.Block bytes)))

-- ---- what is written
-- the place in a block at which bytes at an offset begin, and those of them that fall into it
abbrev pub place_in : (offset index : ℕ) → ℕ
place_in offset index = min (offset - index * block_size) block_size

abbrev pub part_in : (offset : ℕ) → List ℕ → (index : ℕ) → List ℕ
part_in offset bytes index =
    take (block_size - place_in offset index) (drop (index * block_size - offset) bytes)

-- where one draft came of another by writes: addresses of this kind are as they were
pub record Leaves (old new : DraftValue) (Is : Addr → Type 0) : Type 0 where
  pub known : (a : Addr) → Is a → known_at new a ≡ known_at old a
  pub stands : (s : Store) (a : Addr) → Is a → (with_writes s new.writes).at a ≡ (with_writes s old.writes).at a

-- bytes were written in a block at this place
pub record WritesBlock (old new : DraftValue) (file index at : ℕ) (part : List ℕ) : Type 0 where
  pub lays : Lays file old new
  pub leaves : Leaves old new (λ a. is_addr (addresses.Block file index) a ≡ false)
  pub written_is : (s : Store) → Fits old.view s → (with_writes s new.writes).at (addresses.Block file index) ≡
      Some (objects.Block (written (stored_in ((with_writes s old.writes).at (addresses.Block file index))) at part))

-- an address is that of no block from one on and before another
abbrev pub IsNoBlockIn : (file first end : ℕ) → Addr → Type 0
IsNoBlockIn file first end a = (i : ℕ) → first ≤ i → i < end → is_addr (addresses.Block file i) a ≡ false

-- the bytes at an offset were written over blocks of a file before one
pub record WritesBlocks (old new : DraftValue) (file offset : ℕ) (bytes : List ℕ) (end : ℕ) : Type 0 where
  pub lays : Lays file old new
  pub leaves : Leaves old new (IsNoBlockIn file (first_of offset) end)
  pub blocks : (s : Store) (i : ℕ) → Fits old.view s → first_of offset ≤ i → i < end →
      (with_writes s new.writes).at (addresses.Block file i) ≡ Some (objects.Block (written
      (stored_in ((with_writes s old.writes).at (addresses.Block file i)))
      (place_in offset i) (part_in offset bytes i)))

-- what a map page tells once the blocks from one on and before another are there; nothing where they were there
abbrev pub IsMapAfter : DraftValue → (file first end page : ℕ) → Option Bits → Type 0
IsMapAfter d file first end page None = (i : ℕ) → first ≤ i → i < end → i / 512 ≡ page → HasBlock d file i
IsMapAfter d file first end page (Some bits) = (was : Bits) ×
    (option_map map_of (known_at d (addresses.Map file page)) ≡ Some was) ×
    ((n : ℕ) → n < 512 → has bits n ≡ (has was n || (nat_le first (page * 512 + n) && nat_lt (page * 512 + n) end))) ×
    ((place : ℕ) × (has bits place ≡ true))

-- the same of the last page of a range, where it is not the first
pub record IsBackAfter (d : DraftValue) (file first end front back : ℕ) (after : Option Bits) : Type 0 where
  pub other : front ≢ back → IsMapAfter d file first end back after
  pub same : front ≡ back → after ≡ None

-- it was put, if it is another, and that page is there then
abbrev pub IsMapPut : (old new : DraftValue) (file page : ℕ) → Option Bits → (pages after : Bits) → Type 0
IsMapPut old new file page None pages after = (new ≡ old) × (after ≡ pages)
IsMapPut old new file page (Some bits) pages after =
    (new ≡ with_written old (addresses.Map file page) (stored_map bits)) ×
    ((p : ℕ) → has after p ≡ (has pages p || (p == page)))

-- bytes were written over a range of a file: its blocks have them, all others stay, and its map pages tell of all
-- blocks that are there
pub record WritesRange (old new : DraftValue) (file offset : ℕ) (bytes : List ℕ) (after : Bits) : Type 0 where
  pub lays : Lays file old new
  pub inodes : (n : ℕ) → known_at new (addresses.Inode n) ≡ known_at old (addresses.Inode n)
  pub others : (s : Store) (i : ℕ) → (i < first_of offset) ⊎ (end_of offset (length bytes) ≤ i) →
      (with_writes s new.writes).at (addresses.Block file i) ≡ (with_writes s old.writes).at (addresses.Block file i)
  pub blocks : (s : Store) (i : ℕ) → Fits old.view s →
      first_of offset ≤ i → i < end_of offset (length bytes) →
      (with_writes s new.writes).at (addresses.Block file i) ≡ Some (objects.Block (written
      (stored_in ((with_writes s old.writes).at (addresses.Block file i)))
      (place_in offset i) (part_in offset bytes i)))
  pub maps : (s : Store) (k : StoreMeaning) → Fits old.view s → Represents (with_writes s old.writes) k →
      HasBlocks (with_writes s new.writes) file after
