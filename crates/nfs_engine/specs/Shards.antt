-- Shards: what stands at each address, and who holds it how.
use Rattle.std.specs.Prelude.{◌≡◌, ◌≢◌, ℕ, ◌<◌, ◌≤◌, ◌+◌, ◌-◌, ◌*◌, ◌/◌}
use Rattle.std.specs.Prelude.{◌%◌, ◌^◌}
use Rattle.std.specs.Prelude.{List, map}
use Rattle.std.specs.Prelude.{Option, Some, None, Result, Ok, Err, IsSome, option_map, unwrap_or, slice_index_or}
use Rattle.std.specs.Prelude.{if◌then◌else◌, ◌==◌, ◌&&◌, nat_le}
use Rattle.std.specs.Arc.{arc_value}
use Rattle.std.specs.Option.{option_and_then, option_or}
use Rattle.nfs_objects.specs.declared.address.Addr.{Addr}
use Rattle.nfs_objects.specs.declared.address.Addr.TheVariants.{Exports, Inode, Map, Block, Page, Part, Mounts, Usage}
use Rattle.nfs_objects.specs.declared.modes.Mode.{Mode}
use Rattle.nfs_objects.specs.declared.modes.Mode.TheVariants.{Exclusive}
use Rattle.nfs_objects.specs.declared.object.Object.{Object}
use Rattle.nfs_objects.specs.declared.view.Reserved.{Reserved}
use Rattle.nfs_objects.specs.Values.{is_addr}
use Rattle.nfs_engine.specs.Found.{found}
use Rattle.nfs_engine.specs.Holders.{CanHold, Excludes, HoldersValue, Reholds, hold_of, holders_value, nobody}
use Rattle.nfs_engine.specs.declared.shard.Had.{Had}
use Rattle.nfs_engine.specs.declared.shard.Had.TheVariants.{Yes, Taken}
use Rattle.nfs_engine.specs.declared.shard.ReserveError.{ReserveError}
use Rattle.nfs_engine.specs.declared.shard.ReserveError.TheVariants.{Memory, Spent}
use Rattle.nfs_engine.specs.declared.slot.Slot.{Slot}
use Rattle.nfs_objects.specs.declared.address.Addr.TheVariants.{Locks}

-- the shard in which an address stands
abbrev pub shard_of : Addr → ℕ
shard_of Exports = 0
shard_of (Inode n) = n % 16
shard_of (Map n page) = n % 16
shard_of (Block n i) = n % 16
shard_of (Page n page) = n % 16
shard_of (Part n bucket part) = n % 16
shard_of Mounts = 0
shard_of (Usage e g) = g % 16
shard_of (Locks b) = b % 16

-- what stands at an address, and who holds it
pub record SlotValue : Type 0 where
  pub object : Option Object
  pub holders : HoldersValue

abbrev pub slot_value : Slot → SlotValue
slot_value s = record { object = option_map arc_value s.object; holders = holders_value s.holders }

-- nothing stands there, and nobody holds it
abbrev pub empty_slot : SlotValue
empty_slot = record { object = None; holders = nobody }

pub record ShardValue : Type 0 where
  -- which of the sixteen it is
  pub index : ℕ
  -- the slots of the numbers that it gave, by key
  pub numbers : List (Option SlotValue)
  -- those of all other addresses
  pub others : List (Addr × SlotValue)
  -- above each generation that was ever reserved here
  pub next_generation : ℕ

abbrev pub slots_seen : List (Addr × Slot) → List (Addr × SlotValue)
slots_seen es = map (λ e. (e.0, slot_value e.1)) es

abbrev pub shard_value : ℕ → List (Option Slot) → List (Addr × Slot) → ℕ → ShardValue
shard_value index numbers others next = record {
  index = index;
  numbers = map (option_map slot_value) numbers;
  others = slots_seen others;
  next_generation = next;
}

-- the number at a key
abbrev pub number_at : (index key : ℕ) → ℕ
number_at index key = 16 * (key + 1) + index

-- the key of a number that the shard may give
abbrev pub key_in : (index : ℕ) → Addr → Option ℕ
key_in index (Inode n) = if (n % 16 == index) && nat_le 16 n then Some (n / 16 - 1) else None
key_in index a = None

-- the slot of a number that the shard gave
abbrev pub numbered : ShardValue → Addr → Option SlotValue
numbered s a = option_and_then (λ key. slice_index_or s.numbers key None) (key_in s.index a)

-- the slot of an address, if it has one
abbrev pub slot_of : ShardValue → Addr → Option SlotValue
slot_of s a = option_or (numbered s a) (found s.others a)

-- an address with no slot has an empty one
abbrev pub slot_at : ShardValue → Addr → SlotValue
slot_at s a = unwrap_or (slot_of s a) empty_slot

-- how a holder holds an address in the shard
abbrev pub hold_at : ShardValue → Addr → ℕ → Option Mode
hold_at s a j = hold_of (slot_at s a).holders j

-- no address has two slots, and no slot is empty with nobody that holds it
pub record IsSound (s : ShardValue) : Type 0 where
  pub index : s.index < 16
  pub apart : (a : Addr) → IsSome (numbered s a) → found s.others a ≡ None
  pub needed : (a : Addr) → slot_of s a ≢ Some empty_slot

-- nothing stands in it, and nobody holds anything; the generations of roots, 1, are below those that it gives
pub record IsNew (which : ℕ) (s : ShardValue) : Type 0 where
  pub index : s.index ≡ which
  pub slots : (a : Addr) → slot_at s a ≡ empty_slot
  pub next_generation : s.next_generation ≡ 2

-- One holder now holds one address so. Nothing else changed.
pub record Retakes (old new : ShardValue) (a : Addr) (id : ℕ) (m : Option Mode) : Type 0 where
  pub objects : (b : Addr) → (slot_at new b).object ≡ (slot_at old b).object
  pub holds : (b : Addr) (j : ℕ) → hold_at new b j ≡
      (if is_addr a b then (if id == j then m else hold_at old b j) else hold_at old b j)
  pub next_generation : new.next_generation ≡ old.next_generation
  pub index : new.index ≡ old.index

-- each address has the slot that it had
pub record SameShard (old new : ShardValue) : Type 0 where
  pub slots : (b : Addr) → slot_at new b ≡ slot_at old b
  pub next_generation : new.next_generation ≡ old.next_generation
  pub index : new.index ≡ old.index

-- held, with what stands there; or somebody holds it in a mode that excludes, and nothing changed; or nobody does, and
-- there was no memory
abbrev pub IsHad : {E : Type 0} → (old new : ShardValue) → Addr → Mode → (id : ℕ) → Result Had E → Type 0
IsHad old new a mode id (Ok (Yes o)) = CanHold mode (slot_at old a).holders × Retakes old new a id (Some mode) ×
    (option_map arc_value o ≡ (slot_at old a).object)
IsHad old new a mode id (Ok (Taken h)) = Excludes mode (slot_at old a).holders h × SameShard old new
IsHad old new a mode id (Err e) = CanHold mode (slot_at old a).holders × SameShard old new

-- somebody holds the address
pub record IsHeld (s : ShardValue) (a : Addr) : Type 0 where
  pub holder : ℕ
  pub holds : IsSome (hold_at s a holder)

-- One address has this object. Who holds what did not change.
pub record Fills (old new : ShardValue) (a : Addr) (o : Option Object) : Type 0 where
  pub objects : (b : Addr) → (slot_at new b).object ≡ (if is_addr a b then o else (slot_at old b).object)
  pub holds : (b : Addr) (j : ℕ) → hold_at new b j ≡ hold_at old b j
  pub next_generation : new.next_generation ≡ old.next_generation
  pub index : new.index ≡ old.index

-- A number of the shard, from 16 on, with nothing there that nobody held, and the next generation. One holder now holds
-- it alone.
pub record Reserves (old new : ShardValue) (id : ℕ) (r : Reserved) : Type 0 where
  pub from : 16 ≤ r.number
  pub shard : r.number % 16 ≡ old.index
  pub empty : slot_at old (Inode r.number) ≡ empty_slot
  pub generation : r.generation ≡ old.next_generation
  pub objects : (b : Addr) → (slot_at new b).object ≡ (slot_at old b).object
  pub holds : (b : Addr) (j : ℕ) → hold_at new b j ≡
      (if is_addr (Inode r.number) b then (if id == j then Some Exclusive else None) else hold_at old b j)
  pub next_generation : new.next_generation ≡ old.next_generation + 1
  pub index : new.index ≡ old.index

-- reserved; or there is no memory, and nothing changed; or the counter is at its end
abbrev pub IsReservedIn : (old new : ShardValue) → (id : ℕ) → Result Reserved ReserveError → Type 0
IsReservedIn old new id (Ok r) = Reserves old new id r
IsReservedIn old new id (Err Memory) = (old.next_generation ≢ 2 ^ 64 - 1) × SameShard old new
IsReservedIn old new id (Err Spent) = (old.next_generation ≡ 2 ^ 64 - 1) × SameShard old new

-- the same of one slot
abbrev pub IsSlotHad : {E : Type 0} → (old new : SlotValue) → Mode → (id : ℕ) → Result Had E → Type 0
IsSlotHad old new mode id (Ok (Yes o)) = CanHold mode old.holders ×
    Reholds old.holders new.holders id (Some mode) × (new.object ≡ old.object) ×
    (option_map arc_value o ≡ old.object)
IsSlotHad old new mode id (Ok (Taken h)) = Excludes mode old.holders h × (new ≡ old)
IsSlotHad old new mode id (Err e) = CanHold mode old.holders × (new ≡ old)

-- a holder let go, and what stands there stays
pub record IsSlotLeft (old new : SlotValue) (id : ℕ) : Type 0 where
  pub holds : Reholds old.holders new.holders id None
  pub object : new.object ≡ old.object
