-- Map pages of a file whose blocks are remains: how they come where a file is cut off, and go where one is written.
use Rattle.std.specs.Prelude.{◌≡◌, ◌≢◌, ◌⊎◌, ℕ, ◌-◌, ◌*◌, ◌/◌, ◌<◌, ◌≤◌, ◌+◌, ◌%◌, false, take, min}
use Rattle.nfs_objects.specs.Bits.{has}
use Rattle.nfs_objects.specs.FileMaps.{FileMapValue, block_size}
use Rattle.nfs_objects.specs.Fits.{Fits}
use Rattle.nfs_objects.specs.Knows.{Turns}
use Rattle.nfs_objects.specs.Stands.{HasBlocks, StoreMeaning, Represents, stored_in}
use Rattle.nfs_objects.specs.Store.{Store, with_writes}
use Rattle.nfs_objects.specs.Unfiled.{Lays}
use Rattle.nfs_objects.specs.Values.{DraftValue, known_at}
use Rattle.nfs_objects.specs.declared.address.Addr.TheVariants as addresses
use Rattle.nfs_objects.specs.declared.bits.Bits.{Bits}
use Rattle.nfs_objects.specs.declared.object.Inode.{Inode}
use Rattle.nfs_inodes.specs.Kinds.{HasFile, KeepsKinds}
use Rattle.nfs_inodes.specs.Stops.{counted_at}

-- how many bytes the blocks of a map page have at most
abbrev pub page_size : ℕ
page_size = 2097152

-- a map page is cut off where the file has a size: what is before that stays of its blocks, and all other blocks
pub record IsCutIn (old new : DraftValue) (file page size : ℕ) (left : Bits) : Type 0 where
  pub lays : Lays file old new
  pub exports : known_at new addresses.Exports ≡ known_at old addresses.Exports
  pub inodes : (n : ℕ) → known_at new (addresses.Inode n) ≡ known_at old (addresses.Inode n)
  pub others : (s : Store) (i : ℕ) → (i / 512 ≢ page) ⊎ (i < size / block_size) →
      (with_writes s new.writes).at (addresses.Block file i) ≡ (with_writes s old.writes).at (addresses.Block file i)
  pub blocks : (s : Store) (k : StoreMeaning) (i : ℕ) → Fits old.view s → Represents (with_writes s old.writes) k →
      i / 512 ≡ page → size / block_size ≤ i →
      stored_in ((with_writes s new.writes).at (addresses.Block file i)) ≡
      take (size - i * block_size) (stored_in ((with_writes s old.writes).at (addresses.Block file i)))
  pub maps : (s : Store) (k : StoreMeaning) → Fits old.view s → Represents (with_writes s old.writes) k →
      HasBlocks (with_writes s new.writes) file left

-- the map page is cut off in which a file of this size ends, if it ends within one; those behind it stay
pub record IsCutLast (old new : DraftValue) (file size : ℕ) (left : Bits) : Type 0 where
  pub lays : Lays file old new
  pub inodes : (n : ℕ) → known_at new (addresses.Inode n) ≡ known_at old (addresses.Inode n)
  pub front : (s : Store) (i : ℕ) → i < size / block_size →
      (with_writes s new.writes).at (addresses.Block file i) ≡ (with_writes s old.writes).at (addresses.Block file i)
  pub blocks : (s : Store) (k : StoreMeaning) (i : ℕ) → Fits old.view s → Represents (with_writes s old.writes) k →
      size / block_size ≤ i → i * block_size < (size / page_size + min 1 (size % page_size)) * page_size →
      stored_in ((with_writes s new.writes).at (addresses.Block file i)) ≡
      take (size - i * block_size) (stored_in ((with_writes s old.writes).at (addresses.Block file i)))
  pub maps : (s : Store) (k : StoreMeaning) → Fits old.view s → Represents (with_writes s old.writes) k →
      HasBlocks (with_writes s new.writes) file left

-- the blocks of a map page are no remains
abbrev pub IsCounted : DraftValue → (file page : ℕ) → Type 0
IsCounted d file page = (i : Inode) (map : FileMapValue) → HasFile d file i map → has map.remains page ≡ false

-- nor are those of another one
pub record HasCleared (d : DraftValue) (file first last : ℕ) : Type 0 where
  pub front : IsCounted d file first
  pub back : IsCounted d file last

-- what remained in a map page went, and nothing changed that counts
pub record ClearsPage (old new : DraftValue) (file page : ℕ) : Type 0 where
  pub turns : Turns old new (λ k. k)
  pub kinds : KeepsKinds old new
  pub counted : counted_at new file ≡ counted_at old file
  pub cleared : IsCounted new file page
  pub stays : (p : ℕ) → IsCounted old file p → IsCounted new file p

-- the same of two
pub record Clears (old new : DraftValue) (file first last : ℕ) : Type 0 where
  pub turns : Turns old new (λ k. k)
  pub kinds : KeepsKinds old new
  pub counted : counted_at new file ≡ counted_at old file
  pub cleared : HasCleared new file first last
