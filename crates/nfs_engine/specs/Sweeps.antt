-- Sweeps: what a dead file leaves in the store goes page by page, and so do the remains of others.
use Rattle.std.specs.Prelude.{◌≡◌, ◌⊎◌, ℕ, ◌/◌, ◌%◌, ◌==◌, ◌&&◌, not, Bool, true, false, Option, Some, None}
use Rattle.std.specs.Prelude.{IsSome}
use Rattle.std.specs.Prelude.{if◌then◌else◌}
use Rattle.std.specs.Bool.{Decides}
use Rattle.nlm_ranges.specs.Buckets.{bucket_count, file_in}
use Rattle.nfs_objects.specs.Bits.{has, no_bits, same_bits}
use Rattle.nfs_objects.specs.FileMaps.{FileMapValue}
use Rattle.nfs_objects.specs.Stands.{bucket_there, exports_of, lives_in}
use Rattle.nfs_objects.specs.Store.{Store, put_at}
use Rattle.nfs_objects.specs.declared.address.Addr.{Addr}
use Rattle.nfs_objects.specs.declared.address.Addr.TheVariants as addresses
use Rattle.nfs_objects.specs.declared.bits.Bits.{Bits}
use Rattle.nfs_objects.specs.declared.object.Content.TheVariants as contents
use Rattle.nfs_objects.specs.declared.object.Inode.{Inode}
use Rattle.nfs_objects.specs.declared.object.Object.{Object}
use Rattle.nfs_objects.specs.declared.object.Object.TheVariants as stored
use Rattle.nfs_engine.specs.Shards.{ShardValue, hold_at, slot_at}

-- a map page of a file, which goes with the blocks of which it tells, and what is left of the file's inode
pub record SweepValue : Type 0 where
  pub file : ℕ
  pub page : ℕ
  pub inode : Option Object

-- whether an address is that of a map page of a file, or of one of its blocks
abbrev pub is_of_page : (file page : ℕ) → Addr → Bool
is_of_page file page (addresses.Map n p) = (file == n) && (page == p)
is_of_page file page (addresses.Block n i) = (file == n) && (page == i / 512)
is_of_page file page a = false

-- what stands at each address then
abbrev pub swept_at : SweepValue → (Addr → Option Object) → Addr → Option Object
swept_at w at a = if is_of_page w.file w.page a then None else put_at at (addresses.Inode w.file) w.inode a

-- this inode stands at a number, its export does not live, and nothing of locks stands for it
pub record IsDead (s : Store) (n : ℕ) (i : Inode) : Type 0 where
  pub stands : s.at (addresses.Inode n) ≡ Some (stored.Inode i)
  pub export : lives_in (exports_of (s.at addresses.Exports)) i.export ≡ false
  pub unlocked : file_in (bucket_there s (n % bucket_count)) n ≡ None

-- the inode of a file with these map pages
abbrev pub inode_left : Inode → FileMapValue → Option Object
inode_left i map = Some (stored.Inode (record i { content = contents.Regular map }))

-- the same; nothing where there are none
abbrev pub inode_with : Inode → FileMapValue → Option Object
inode_with i map = if same_bits map.pages no_bits then None else inode_left i map

-- a page of a dead file, whose inode loses it
pub record IsDeadPage (s : Store) (w : SweepValue) : Type 0 where
  pub old : Inode
  pub dead : IsDead s w.file old
  pub map : FileMapValue
  pub regular : old.content ≡ contents.Regular map
  pub pages : Bits
  pub lost : (page : ℕ) → has pages page ≡ (has map.pages page && not (w.page == page))
  pub left : w.inode ≡ inode_with old (record map { pages = pages })

-- a page of a living file whose blocks are remains: its inode loses it, and stays
pub record IsRemainsPage (s : Store) (w : SweepValue) : Type 0 where
  pub old : Inode
  pub stands : s.at (addresses.Inode w.file) ≡ Some (stored.Inode old)
  pub export : lives_in (exports_of (s.at addresses.Exports)) old.export ≡ true
  pub map : FileMapValue
  pub regular : old.content ≡ contents.Regular map
  pub there : (has map.pages w.page && has map.remains w.page) ≡ true
  pub pages : Bits
  pub lost : (page : ℕ) → has pages page ≡ (has map.pages page && not (w.page == page))
  pub left : w.inode ≡ inode_left old (record map { pages = pages })

-- what may go: either
abbrev pub MaySweep : Store → SweepValue → Type 0
MaySweep s w = IsDeadPage s w ⊎ IsRemainsPage s w

-- it went, and nothing else changed
pub record Sweeps (old new : Store) (w : SweepValue) : Type 0 where
  pub may : MaySweep old w
  pub at : (a : Addr) → new.at a ≡ swept_at w old.at a
  pub last : (n : ℕ) → new.last n ≡ old.last n

-- so the last page of a file went, or not; or nothing changed
abbrev pub IsSweptAt : (old new : Store) → (file : ℕ) → (last : Option Bool) → Type 0
IsSweptAt old new file (Some last) =
    (w : SweepValue) × (w.file ≡ file) × Sweeps old new w × Decides last (w.inode ≡ None)
IsSweptAt old new file None = new ≡ old

-- ---- shards
-- nobody holds a map page of a file, or one of its blocks
abbrev pub IsPageFree : ShardValue → (file page : ℕ) → Type 0
IsPageFree s file page = (a : Addr) → is_of_page file page a ≡ true → (j : ℕ) → hold_at s a j ≡ None

-- nobody holds any of its addresses, and the inode of which something is left stands there
pub record IsFreeOf (s : ShardValue) (w : SweepValue) : Type 0 where
  pub stands : IsSome w.inode → IsSome (slot_at s (addresses.Inode w.file)).object
  pub inode : (j : ℕ) → hold_at s (addresses.Inode w.file) j ≡ None
  pub page : IsPageFree s w.file w.page

-- it went from the shard; who holds what did not change
pub record SweepsShard (old new : ShardValue) (w : SweepValue) : Type 0 where
  pub objects : (a : Addr) → (slot_at new a).object ≡ swept_at w (λ b. (slot_at old b).object) a
  pub holds : (a : Addr) (j : ℕ) → hold_at new a j ≡ hold_at old a j
  pub next_generation : new.next_generation ≡ old.next_generation
  pub index : new.index ≡ old.index
