-- What a call that was executed leaves of the shards: its writes are made, and what it has read there is let go.
use Rattle.std.specs.Prelude.{◌≡◌, ℕ, ◌==◌, ◌&&◌, Bool, true, false, List, Option, Some, None, IsSome}
use Rattle.std.specs.Prelude.{is_some}
use Rattle.std.specs.Prelude.{if◌then◌else◌}
use Rattle.std.specs.List.{AllByRecursion}
use Rattle.nfs_objects.specs.Values.{Seen, seen_at, written_at}
use Rattle.nfs_objects.specs.declared.address.Addr.{Addr}
use Rattle.nfs_objects.specs.declared.object.Object.{Object}
use Rattle.nfs_engine.specs.Engine.{freed, held_among, shard_among, slot_among}
use Rattle.nfs_engine.specs.Shards.{IsHeld, ShardValue, hold_at, shard_of, slot_at}

-- ---- one shard
-- each of these writes that is in the shard of this index is at an address that somebody holds
abbrev pub AreHeldIn : ShardValue → (which : ℕ) → List (Addr × Option Object) → Type 0
AreHeldIn s which writes = AllByRecursion (λ w. shard_of w.0 ≡ which → IsHeld s w.0) writes

-- if this write is in the shard, the call with this number holds its address
abbrev pub HoldsWritten : ShardValue → (id : ℕ) → Addr × Option Object → Type 0
HoldsWritten s id w = shard_of w.0 ≡ s.index → IsSome (hold_at s w.0 id)

-- if this write is in the shard and puts an object, it puts it where something stands
abbrev pub ReplacesWritten : ShardValue → Addr × Option Object → Type 0
ReplacesWritten s w = shard_of w.0 ≡ s.index → IsSome w.1 → IsSome (slot_at s w.0).object

-- a write whose object is put already, if it is in the shard of this index
abbrev pub spent_in : (which : ℕ) → Addr × Option Object → Addr × Option Object
spent_in which w = (w.0, if shard_of w.0 == which then None else w.1)

-- these writes are made, where they are in the shard of this index; nothing else changed
pub record Makes (old new : ShardValue) (which : ℕ) (writes : List (Addr × Option Object)) : Type 0 where
  pub objects : (b : Addr) → Some (slot_at new b).object ≡
      (if shard_of b == which then written_at (Some (slot_at old b).object) writes b
      else Some (slot_at old b).object)
  pub holds : (b : Addr) (j : ℕ) → hold_at new b j ≡ hold_at old b j
  pub next_generation : new.next_generation ≡ old.next_generation
  pub index : new.index ≡ old.index

-- and a holder let go all that it has read there
pub record Settles (old new : ShardValue) (which id : ℕ) (entries : List Seen) (writes : List (Addr × Option Object))
    : Type 0 where
  pub objects : (b : Addr) → Some (slot_at new b).object ≡
      (if shard_of b == which then written_at (Some (slot_at old b).object) writes b
      else Some (slot_at old b).object)
  pub holds : (b : Addr) (j : ℕ) → hold_at new b j ≡
      (if (shard_of b == which) && is_some (seen_at entries b) then (if id == j then None else hold_at old b j)
      else hold_at old b j)
  pub next_generation : new.next_generation ≡ old.next_generation
  pub index : new.index ≡ old.index

-- ---- all of them
-- The writes are made, and in these shards, which have all writes, a holder let go all that it has read. Nothing else
-- changed.
pub record IsSettled (old new : List ShardValue) (which : List Bool) (id : ℕ) (entries : List Seen)
    (writes : List (Addr × Option Object)) : Type 0 where
  pub objects : (b : Addr) → Some (slot_among new b).object ≡ written_at (Some (slot_among old b).object) writes b
  pub holds : (b : Addr) (j : ℕ) → held_among new b j ≡ elim ((id == j) && freed which entries b)
      [ true ↦ None | false ↦ held_among old b j ]
  pub counters : (k : ℕ) → (shard_among new k).next_generation ≡ (shard_among old k).next_generation
  pub indices : (k : ℕ) → (shard_among new k).index ≡ (shard_among old k).index
