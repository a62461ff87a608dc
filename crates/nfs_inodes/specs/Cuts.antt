-- Files that are cut off: what is shown of their map pages, and what goes (RFC 1813, 3.3.2).
use Rattle.std.specs.Prelude.{◌≡◌, ℕ, ◌+◌, ◌-◌, ◌*◌, ◌/◌, ◌%◌, ◌<◌, ◌≤◌, ◌==◌}
use Rattle.std.specs.Prelude.{◌&&◌, ◌||◌, Bool, true, false}
use Rattle.std.specs.Prelude.{not, nat_lt, List, [], Option, Some, None, IsSome, length, take, slice_index_or}
use Rattle.std.specs.Prelude.{if◌then◌else◌}
use Rattle.nfs_machine.specs.Data.{resized}
use Rattle.nfs_objects.specs.Bits.{has, no_bits, same_bits}
use Rattle.nfs_objects.specs.FileMaps.{FileMapValue, IsContent, block_size}
use Rattle.nfs_objects.specs.Fits.{Fits}
use Rattle.nfs_objects.specs.Stands.{HasBlocks, IsMapped, IsStored, StoreMeaning, Represents, filed_in, map_of}
use Rattle.nfs_objects.specs.Stands.{stored_in}
use Rattle.nfs_objects.specs.Stands.{stored_map}
use Rattle.nfs_objects.specs.Store.{Store, with_writes}
use Rattle.nfs_objects.specs.Unfiled.{Lays}
use Rattle.nfs_objects.specs.Values.{DraftValue, is_addr, known_at}
use Rattle.nfs_objects.specs.declared.address.Addr.{Addr}
use Rattle.nfs_objects.specs.declared.address.Addr.TheVariants as addresses
use Rattle.nfs_objects.specs.declared.bits.Bits.{Bits}
use Rattle.nfs_objects.specs.declared.object.Object.{Object}
use Rattle.nfs_objects.specs.declared.object.Object.TheVariants as objects
use Rattle.nfs_inodes.specs.Blocks.{Leaves}

-- ---- what is shown
-- a map page tells of these blocks in every store that the draft's view fits; one that is not there of none
abbrev pub ShowsMap : DraftValue → (file page : ℕ) → Bits → Type 0
ShowsMap d file page bits = (s : Store) (k : StoreMeaning) → Fits d.view s → Represents (with_writes s d.writes) k →
    map_of ((with_writes s d.writes).at (addresses.Map file page)) ≡ bits

-- what these tell, of pages from one on
abbrev pub told_at : List Bits → (first page : ℕ) → Bits
told_at maps first page = let none : Bits = record { words = [] } in slice_index_or maps (page - first) none

-- these are the maps of pages from one on, up to another
pub record ShowsMaps (d : DraftValue) (file first end : ℕ) (maps : List Bits) : Type 0 where
  pub counted : length maps ≡ end - first
  pub each : (page : ℕ) → first ≤ page → page < end → ShowsMap d file page (told_at maps first page)

-- the draft knows each map page of these, from one on and before another
abbrev pub KnowsMaps : DraftValue → (file : ℕ) → Bits → (first end : ℕ) → Type 0
KnowsMaps d file pages first end = (page : ℕ) → first ≤ page → page < end → has pages page ≡ true →
    IsSome (known_at d (addresses.Map file page))

-- an address is that of a map page of these, from one on and before another
pub record IsPageIn (file : ℕ) (pages : Bits) (first end : ℕ) (a : Addr) : Type 0 where
  pub page : ℕ
  pub behind : first ≤ page
  pub before : page < end
  pub there : has pages page ≡ true
  pub is : addresses.Map file page ≡ a

-- it is that of a block that the map of a page tells of, from one on, at one of so many places
pub record IsTold (file page : ℕ) (bits : Bits) (from places : ℕ) (a : Addr) : Type 0 where
  pub place : ℕ
  pub below : place < places
  pub told : has bits place ≡ true
  pub behind : from ≤ page * 512 + place
  pub is : addresses.Block file (page * 512 + place) ≡ a

-- the draft knows all of these
abbrev pub KnowsTold : DraftValue → (file page : ℕ) → Bits → (from : ℕ) → Type 0
KnowsTold d file page bits from = (a : Addr) → IsTold file page bits from 512 a → IsSome (known_at d a)

-- it is that of a block that one of the maps tells of, of pages before one
pub record IsToldIn (file first : ℕ) (maps : List Bits) (from end : ℕ) (a : Addr) : Type 0 where
  pub page : ℕ
  pub behind : first ≤ page
  pub before : page < end
  pub told : IsTold file page (told_at maps first page) from 512 a

-- ---- what goes
-- what stands for a block of which so many bytes stay at most
abbrev pub cut_to : (left : ℕ) → List ℕ → Option Object
cut_to left bytes = if left == 0 then None else Some (objects.Block (take left bytes))

-- a block that is there keeps so many bytes at most, or goes
pub record CutsBlock (old new : DraftValue) (file index left : ℕ) : Type 0 where
  pub lays : Lays file old new
  pub leaves : Leaves old new (λ a. is_addr (addresses.Block file index) a ≡ false)
  pub cut : (s : Store) (bytes : List ℕ) → Fits old.view s →
      (with_writes s old.writes).at (addresses.Block file index) ≡ Some (objects.Block bytes) →
      (with_writes s new.writes).at (addresses.Block file index) ≡ cut_to left bytes

-- the blocks that the map of a page tells of are cut, of a file of this size, at so many places
pub record CutsBlocks (old new : DraftValue) (file page : ℕ) (bits : Bits) (size places : ℕ) : Type 0 where
  pub lays : Lays file old new
  pub leaves : Leaves old new (λ a. IsTold file page bits (size / block_size) places a → ⊥)
  pub cut : (s : Store) (place : ℕ) (bytes : List ℕ) → Fits old.view s →
      place < places → has bits place ≡ true →
      size / block_size ≤ page * 512 + place →
      (with_writes s old.writes).at (addresses.Block file (page * 512 + place)) ≡ Some (objects.Block bytes) →
      (with_writes s new.writes).at (addresses.Block file (page * 512 + place)) ≡
      cut_to (size - (page * 512 + place) * block_size) bytes

-- and its map tells of those that have something left; whether it stays
pub record CutsPage (old new : DraftValue) (file page : ℕ) (bits : Bits) (size : ℕ) (stays : Bool) : Type 0 where
  pub lays : Lays file old new
  pub leaves : Leaves old new (λ a. (IsTold file page bits (size / block_size) 512 a → ⊥) ×
      (is_addr (addresses.Map file page) a ≡ false))
  pub cut : (s : Store) (place : ℕ) (bytes : List ℕ) → Fits old.view s →
      place < 512 → has bits place ≡ true →
      size / block_size ≤ page * 512 + place →
      (with_writes s old.writes).at (addresses.Block file (page * 512 + place)) ≡ Some (objects.Block bytes) →
      (with_writes s new.writes).at (addresses.Block file (page * 512 + place)) ≡
      cut_to (size - (page * 512 + place) * block_size) bytes
  pub left : Bits
  pub tells : (n : ℕ) → has left n ≡ (has bits n && nat_lt ((page * 512 + n) * block_size) size)
  pub map : (s : Store) → (with_writes s new.writes).at (addresses.Map file page) ≡ stored_map left
  pub stays_is : stays ≡ not (same_bits left no_bits)
  pub gone : size ≡ 0 → left ≡ no_bits

-- these pages are there of those so far, and the page where its map stays
pub record CutsNext (old new : DraftValue) (file page : ℕ) (bits : Bits) (size : ℕ) (left after : Bits) : Type 0 where
  pub stays : Bool
  pub cut : CutsPage old new file page bits size stays
  pub pages : (p : ℕ) → has after p ≡ (has left p || (stays && (p == page)))

-- an address is that of no map page before one, and of no block of such a page
pub record IsBehind (file page : ℕ) (a : Addr) : Type 0 where
  pub map : (p : ℕ) → p < page → is_addr (addresses.Map file p) a ≡ false
  pub block : (i : ℕ) → i < page * 512 → is_addr (addresses.Block file i) a ≡ false

-- a file is cut off as far as its pages before one go; these are there of all
pub record IsCutTo (old new : DraftValue) (file size page : ℕ) (left : Bits) : Type 0 where
  pub lays : Lays file old new
  pub leaves : Leaves old new (IsBehind file page)
  pub front : (s : Store) (i : ℕ) → i < size / block_size →
      (with_writes s new.writes).at (addresses.Block file i) ≡ (with_writes s old.writes).at (addresses.Block file i)
  pub blocks : (s : Store) (k : StoreMeaning) (i : ℕ) → Fits old.view s → Represents (with_writes s old.writes) k →
      size / block_size ≤ i → i < page * 512 →
      stored_in ((with_writes s new.writes).at (addresses.Block file i)) ≡
      take (size - i * block_size) (stored_in ((with_writes s old.writes).at (addresses.Block file i)))
  pub stored : (s : Store) (k : StoreMeaning) (i : ℕ) → Fits old.view s → Represents (with_writes s old.writes) k →
      i < page * 512 → IsStored (has (map_of ((with_writes s new.writes).at (addresses.Map file (i / 512)))) (i % 512))
      ((with_writes s new.writes).at (addresses.Block file i))
  pub maps : (s : Store) (k : StoreMeaning) (p : ℕ) → Fits old.view s → Represents (with_writes s old.writes) k →
      p < page → IsMapped (has left p) ((with_writes s new.writes).at (addresses.Map file p))
  pub later : (p : ℕ) → page ≤ p → has left p ≡ false
  pub gone : size ≡ 0 → (p : ℕ) → has left p ≡ false

-- a file is cut off at a place: what is before it stays of each block, and of each map page what has some
pub record IsCutAt (old new : DraftValue) (file size : ℕ) (left : Bits) : Type 0 where
  pub lays : Lays file old new
  pub inodes : (n : ℕ) → known_at new (addresses.Inode n) ≡ known_at old (addresses.Inode n)
  pub front : (s : Store) (i : ℕ) → i < size / block_size →
      (with_writes s new.writes).at (addresses.Block file i) ≡ (with_writes s old.writes).at (addresses.Block file i)
  pub blocks : (s : Store) (k : StoreMeaning) (i : ℕ) → Fits old.view s → Represents (with_writes s old.writes) k →
      size / block_size ≤ i → stored_in ((with_writes s new.writes).at (addresses.Block file i)) ≡
      take (size - i * block_size) (stored_in ((with_writes s old.writes).at (addresses.Block file i)))
  pub maps : (s : Store) (k : StoreMeaning) → Fits old.view s → Represents (with_writes s old.writes) k →
      HasBlocks (with_writes s new.writes) file left
  pub gone : size ≡ 0 → (p : ℕ) → has left p ≡ false

-- a file that had this map gets this size and another map: its blocks have its bytes, cut off or with zeros behind them
pub record IsResized (old new : DraftValue) (file : ℕ) (before : FileMapValue) (size : ℕ) (after : FileMapValue)
    : Type 0 where
  pub sized : after.size ≡ size
  pub lays : Lays file old new
  pub inodes : (n : ℕ) → known_at new (addresses.Inode n) ≡ known_at old (addresses.Inode n)
  pub content : (s : Store) (k : StoreMeaning) (bytes : List ℕ) → Fits old.view s →
      Represents (with_writes s old.writes) k →
      IsContent before.size (λ b. filed_in before b ((with_writes s old.writes).at (addresses.Block file b))) bytes →
      IsContent after.size (λ b. filed_in after b ((with_writes s new.writes).at (addresses.Block file b)))
      (resized bytes size)
  pub maps : (s : Store) (k : StoreMeaning) → Fits old.view s → Represents (with_writes s old.writes) k →
      HasBlocks (with_writes s new.writes) file after.pages

-- no block and no map of what lives at a number is there any more
pub record IsCleared (old new : DraftValue) (number : ℕ) : Type 0 where
  pub lays : Lays number old new
  pub inodes : (n : ℕ) → known_at new (addresses.Inode n) ≡ known_at old (addresses.Inode n)
  pub maps : (s : Store) (k : StoreMeaning) → Fits old.view s → Represents (with_writes s old.writes) k →
      HasBlocks (with_writes s new.writes) number no_bits
