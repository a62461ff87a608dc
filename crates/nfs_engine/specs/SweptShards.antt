-- A sweep of the shards together.
use Rattle.std.specs.Prelude.{◌≡◌, ℕ, true, List, None}
use Rattle.nfs_objects.specs.declared.address.Addr.{Addr}
use Rattle.nfs_objects.specs.declared.address.Addr.TheVariants as addresses
use Rattle.nfs_engine.specs.Engine.{held_among, shard_among, slot_among}
use Rattle.nfs_engine.specs.Shards.{ShardValue}
use Rattle.nfs_engine.specs.Sweeps.{SweepValue, is_of_page, swept_at}

-- a map page of a file went, and what is left of its inode stands; nobody held any of it
pub record SweepsAmong (old new : List ShardValue) (w : SweepValue) : Type 0 where
  pub objects : (a : Addr) → (slot_among new a).object ≡ swept_at w (λ b. (slot_among old b).object) a
  pub holds : (a : Addr) (j : ℕ) → held_among new a j ≡ held_among old a j
  pub inode : (j : ℕ) → held_among old (addresses.Inode w.file) j ≡ None
  pub page : (a : Addr) → is_of_page w.file w.page a ≡ true → (j : ℕ) → held_among old a j ≡ None
  pub counters : (k : ℕ) → (shard_among new k).next_generation ≡ (shard_among old k).next_generation
  pub indices : (k : ℕ) → (shard_among new k).index ≡ (shard_among old k).index
