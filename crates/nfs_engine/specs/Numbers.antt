-- How a shard finds a free number.
use Rattle.std.specs.Prelude.{◌≡◌, ℕ, List, None, IsSome}
use Rattle.slab.specs.Slab.{HasRoomFor, Slab}
use Rattle.nfs_objects.specs.declared.address.Addr.{Addr}
use Rattle.nfs_objects.specs.declared.address.Addr.TheVariants.{Inode}
use Rattle.nfs_engine.specs.Found.{found}
use Rattle.nfs_engine.specs.Shards.{ShardValue, number_at, numbered, shard_value, slot_of}
use Rattle.nfs_engine.specs.declared.slot.Slot.{Slot}

-- no address has its slot in the slab and in the map
abbrev pub IsApart : ShardValue → Type 0
IsApart s = (a : Addr) → IsSome (numbered s a) → found s.others a ≡ None

-- slots may stand elsewhere, but each address has the slot that it had
pub record Moves (old new : ShardValue) : Type 0 where
  pub slots : (a : Addr) → slot_of new a ≡ slot_of old a
  pub apart : IsApart old → IsApart new

-- the slab has room at the key of this number, which has no slot in the map
pub record IsFreeNumber (index : ℕ) (numbers : Slab Slot) (others : List (Addr × Slot)) (number : ℕ) : Type 0 where
  pub room : HasRoomFor numbers 1
  pub key : number ≡ number_at index numbers.vacant_key
  pub free : found (shard_value index numbers.slots others 0).others (Inode number) ≡ None
