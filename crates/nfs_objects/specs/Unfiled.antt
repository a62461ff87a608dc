-- Stores in which the file or the directory at one number is being written: its blocks and maps or its pages and parts,
-- and its inode last.
use Rattle.std.specs.Prelude.{◌≡◌, ◌==◌, ℕ, List, false, Some}
use Rattle.nfs_machine.specs.State.{Entry}
use Rattle.nfs_objects.specs.Fits.{Fits}
use Rattle.nfs_objects.specs.FileMaps.{FileMapValue, IsContent}
use Rattle.nfs_objects.specs.Stands.{HasBlocks, HasEntries, StoreMeaning, StandEntries, StandLocks, StandObjects}
use Rattle.nfs_objects.specs.Stands.{StandTables}
use Rattle.nfs_objects.specs.Stands.{StandUsages}
use Rattle.nfs_objects.specs.Stands.{bytes_at, filed_in, inode_there, map_in, pages_of}
use Rattle.nfs_objects.specs.Store.{Store, with_writes}
use Rattle.nfs_objects.specs.Values.{DraftValue}
use Rattle.nfs_objects.specs.declared.address.Addr.TheVariants as addresses
use Rattle.nfs_objects.specs.declared.entry_map.EntryMap.{EntryMap}
use Rattle.nfs_objects.specs.declared.object.Inode.{Inode}

-- what `StandFiles` says, of the files at other numbers than this one
pub record StandFilesBut (number : ℕ) (s : Store) (k : StoreMeaning) : Type 0 where
  pub blocks : (n : ℕ) → (number == n) ≡ false → HasBlocks s n (pages_of (s.at (addresses.Inode n)))
  pub bytes : (n : ℕ) (i : Inode) (map : FileMapValue) → (number == n) ≡ false →
      inode_there s k.state.exports n ≡ Some i → map_in i.content ≡ Some map →
      IsContent map.size (λ b. filed_in map b (s.at (addresses.Block n b))) (bytes_at k.state n)

-- what `StandDirectories` says, of the directories at other numbers than this one
abbrev pub StandDirectoriesBut : (number : ℕ) → Store → StoreMeaning → Type 0
StandDirectoriesBut number s k = (n : ℕ) → (number == n) ≡ false → StandEntries s k n

-- the store stands for this, but for what stands beside the inode at this number
pub record RepresentsBut (number : ℕ) (s : Store) (k : StoreMeaning) : Type 0 where
  pub tables : StandTables s k.state
  pub objects : StandObjects s k
  pub files : StandFilesBut number s k
  pub directories : StandDirectoriesBut number s k
  pub usages : StandUsages s k
  pub locks : StandLocks s k.state

-- pages and parts stand where they stood
pub record KeepsEntries (old new : Store) : Type 0 where
  pub pages : (n page : ℕ) → new.at (addresses.Page n page) ≡ old.at (addresses.Page n page)
  pub parts : (n bucket part : ℕ) → new.at (addresses.Part n bucket part) ≡ old.at (addresses.Part n bucket part)

-- maps and blocks stand where they stood
pub record KeepsBlocks (old new : Store) : Type 0 where
  pub maps : (n page : ℕ) → new.at (addresses.Map n page) ≡ old.at (addresses.Map n page)
  pub blocks : (n index : ℕ) → new.at (addresses.Block n index) ≡ old.at (addresses.Block n index)

-- what files have of locks stands where it stood
abbrev pub KeepsLocks : (old new : Store) → Type 0
KeepsLocks old new = (bucket : ℕ) → new.at (addresses.Locks bucket) ≡ old.at (addresses.Locks bucket)

-- one draft came of the other by writes to blocks and maps of the file at this number
pub record Lays (number : ℕ) (old new : DraftValue) : Type 0 where
  pub ctx : new.ctx ≡ old.ctx
  pub view : new.view ≡ old.view
  pub modes : new.modes ≡ old.modes
  pub messages : new.messages ≡ old.messages
  pub lays : (s : Store) (k : StoreMeaning) → RepresentsBut number (with_writes s old.writes) k →
      RepresentsBut number (with_writes s new.writes) k
  pub inodes : (s : Store) (n : ℕ) →
      (with_writes s new.writes).at (addresses.Inode n) ≡ (with_writes s old.writes).at (addresses.Inode n)
  pub entries : (s : Store) → KeepsEntries (with_writes s old.writes) (with_writes s new.writes)
  pub locks : (s : Store) → KeepsLocks (with_writes s old.writes) (with_writes s new.writes)

-- and by writes to pages and parts of the directory at this number
pub record Enters (number : ℕ) (old new : DraftValue) : Type 0 where
  pub ctx : new.ctx ≡ old.ctx
  pub view : new.view ≡ old.view
  pub modes : new.modes ≡ old.modes
  pub messages : new.messages ≡ old.messages
  pub lays : (s : Store) (k : StoreMeaning) → RepresentsBut number (with_writes s old.writes) k →
      RepresentsBut number (with_writes s new.writes) k
  pub inodes : (s : Store) (n : ℕ) →
      (with_writes s new.writes).at (addresses.Inode n) ≡ (with_writes s old.writes).at (addresses.Inode n)
  pub blocks : (s : Store) → KeepsBlocks (with_writes s old.writes) (with_writes s new.writes)
  pub locks : (s : Store) → KeepsLocks (with_writes s old.writes) (with_writes s new.writes)

-- What a write to the pages and parts of the directory at a number did: these entries stand there now by one map, where
-- others stood by another one and were as is asked.
pub record Relists (number : ℕ) (old new : DraftValue) (before after : EntryMap) (change : List Entry → List Entry)
    (Asked : List Entry → Type 0) : Type 0 where
  pub enters : Enters number old new
  pub lists : (s : Store) (entries : List Entry) → Fits old.view s → Asked entries →
      HasEntries (with_writes s old.writes) number before entries →
      HasEntries (with_writes s new.writes) number after (change entries)
