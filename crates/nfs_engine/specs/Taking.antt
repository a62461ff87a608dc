-- What a call does in one shard.
use Rattle.std.specs.Prelude.{◌≡◌, ◌≢◌, ℕ, ◌-◌, ◌^◌, ◌==◌, ◌&&◌, List, None, Some}
use Rattle.std.specs.Prelude.{Bool, IsSome, Result, true, false, ◌⊎◌}
use Rattle.std.specs.Prelude.{Ok, Err, if◌then◌else◌, is_some}
use Rattle.nfs_objects.specs.Rooms.{with_seen, with_number}
use Rattle.nfs_objects.specs.Values.{Seen, ViewValue, held_at, seen_at}
use Rattle.nfs_objects.specs.declared.address.Addr.{Addr}
use Rattle.nfs_objects.specs.declared.address.Addr.TheVariants.{Inode}
use Rattle.nfs_objects.specs.declared.modes.Mode.{Mode}
use Rattle.nfs_objects.specs.declared.view.Reserved.{Reserved}
use Rattle.nfs_engine.specs.Holders.{CanHold, Excludes}
use Rattle.nfs_engine.specs.Shards.{Reserves, Retakes, SameShard, ShardValue, hold_at, shard_of, slot_at}
use Rattle.nfs_engine.specs.declared.taking.Got.{Got}
use Rattle.nfs_engine.specs.declared.taking.Got.TheVariants as got
use Rattle.nfs_engine.specs.declared.shard.ReserveError.{ReserveError}
use Rattle.nfs_engine.specs.declared.shard.ReserveError.TheVariants.{Memory, Spent}

-- a shard, and the view of a call that holds some of its addresses
pub record ShardView : Type 0 where
  pub shard : ShardValue
  pub view : ViewValue

-- nothing changed
pub record Stays (old new : ShardView) : Type 0 where
  pub shard : SameShard old.shard new.shard
  pub view : new.view ≡ old.view

-- nobody excluded it; the address is now held so, and what stands there is in the view
pub record TakesAddress (old new : ShardView) (a : Addr) (mode : Mode) (id : ℕ) : Type 0 where
  pub free : CanHold mode (slot_at old.shard a).holders
  pub held : Retakes old.shard new.shard a id (Some mode)
  pub seen : new.view ≡ with_seen old.view
      (record { address = a; mode = mode; object = (slot_at old.shard a).object })

-- taken; or somebody holds it in a mode that excludes, and nothing changed; or nobody does, and there was no memory
abbrev pub IsGot : {E : Type 0} → ShardView → ShardView → Addr → Mode → ℕ → Result Got E → Type 0
IsGot old new a mode id (Ok got.Yes) = TakesAddress old new a mode id
IsGot old new a mode id (Ok (got.Taken h)) = Excludes mode (slot_at old.shard a).holders h × Stays old new
IsGot old new a mode id (Err error) = CanHold mode (slot_at old.shard a).holders × Stays old new

-- the call holds just what its view says, as far as the shard goes
abbrev pub HoldsIn : ShardValue → (id : ℕ) → List Seen → Type 0
HoldsIn s id entries = (a : Addr) → shard_of a ≡ s.index → hold_at s a id ≡ held_at entries a

-- a number that the shard had free is held, and may be given
pub record Gains (old new : ShardView) (id : ℕ) : Type 0 where
  pub reserved : Reserved
  pub shard : Reserves old.shard new.shard id reserved
  pub view : new.view ≡ with_number old.view reserved

-- gained; or there is no memory, and the counter is not at its end, or it is; then nothing changed
abbrev pub IsGained : ShardView → ShardView → (id : ℕ) → Result Unit ReserveError → Type 0
IsGained old new id (Ok done) = Gains old new id
IsGained old new id (Err Memory) = Stays old new × (old.shard.next_generation ≢ 2 ^ 64 - 1)
IsGained old new id (Err Spent) = Stays old new × (old.shard.next_generation ≡ 2 ^ 64 - 1)

-- The shard gave a number and took it back: its generation is spent, and the call is as it was.
pub record GivesBack (old new : ShardView) (id : ℕ) : Type 0 where
  pub reserved : Reserved
  pub between : ShardValue
  pub given : Reserves old.shard between id reserved
  pub back : Retakes between new.shard (Inode reserved.number) id None
  pub view : new.view ≡ old.view

-- the call had read the number that the shard gave
pub record PassesOver (old new : ShardView) (id : ℕ) : Type 0 where
  pub given_back : GivesBack old new id
  pub read : IsSome (seen_at old.view.entries (Inode given_back.reserved.number))

-- gained; or passed over; or there is no memory in the shard, or in the view, and then it has its number back; or the
-- counter is at its end
abbrev pub IsTested : ShardView → ShardView → (id : ℕ) → Result Bool ReserveError → Type 0
IsTested old new id (Ok true) = Gains old new id
IsTested old new id (Ok false) = PassesOver old new id
IsTested old new id (Err Memory) = IsGained old new id (Err Memory) ⊎ GivesBack old new id
IsTested old new id (Err Spent) = IsGained old new id (Err Spent)

-- A holder lets go all that it has read and that stands in the shard of this index. Nothing else changed.
pub record LetsGo (old new : ShardValue) (which id : ℕ) (entries : List Seen) : Type 0 where
  pub objects : (b : Addr) → (slot_at new b).object ≡ (slot_at old b).object
  pub holds : (b : Addr) (j : ℕ) → hold_at new b j ≡
      (if (shard_of b == which) && is_some (seen_at entries b) then (if id == j then None else hold_at old b j)
      else hold_at old b j)
  pub next_generation : new.next_generation ≡ old.next_generation
  pub index : new.index ≡ old.index
