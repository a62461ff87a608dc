-- The book and the sixteen shards as one, and what lives in it.
use Rattle.std.specs.Prelude.{◌≡◌, ◌≢◌, ℕ, suc, ◌<◌, ◌≤◌, ◌-◌, ◌%◌, ◌^◌, ◌==◌}
use Rattle.std.specs.Prelude.{◌&&◌, ◌||◌, List, [], ◌∷◌, Bool, true, false, Option, Some, None, Result}
use Rattle.std.specs.Prelude.{Ok, Err, IsSome}
use Rattle.std.specs.Prelude.{◌+◌, is_some, length, min, not, replicate, slice_index_or, slice_set}
use Rattle.std.specs.List.{AllByRecursion}
use Rattle.nfs_objects.specs.Fits.{Fits}
use Rattle.nfs_objects.specs.Rooms.{with_seen, with_number}
use Rattle.nfs_objects.specs.Values.{Seen, held_at, seen_at, written_at}
use Rattle.nfs_objects.specs.declared.address.Addr.{Addr}
use Rattle.nfs_objects.specs.declared.address.Addr.TheVariants.{Inode}
use Rattle.nfs_objects.specs.declared.modes.Mode.{Mode}
use Rattle.nfs_objects.specs.declared.object.Object.{Object}
use Rattle.nfs_objects.specs.declared.view.Reserved.{Reserved}
use Rattle.nfs_replies.specs.declared.origins.Origin.{Origin}
use Rattle.nfs_engine.specs.Book.{BookValue, store_in}
use Rattle.nfs_engine.specs.Calls.{FinishedValue, IsUnder, PendingValue, TxnValue, again_of, pending_of}
use Rattle.nfs_engine.specs.Holders.{CanHold, Excludes, hold_of}
use Rattle.nfs_engine.specs.Locked.{IsLocked}
use Rattle.nfs_engine.specs.Releases.{ReleaseValue}
use Rattle.nfs_engine.specs.Repeats.{origin_of}
use Rattle.nfs_engine.specs.Running.{running_at}
use Rattle.nfs_engine.specs.Shards.{IsHeld, IsNew, ShardValue, SlotValue, empty_slot, shard_of, slot_at}
use Rattle.nfs_engine.specs.Taking.{LetsGo}
use Rattle.nfs_engine.specs.declared.taking.Got.{Got}
use Rattle.nfs_engine.specs.declared.taking.Got.TheVariants as got
use Rattle.nfs_engine.specs.declared.admission.Admission.{Admission}
use Rattle.nfs_engine.specs.declared.admission.Admission.TheVariants as admission
use Rattle.nfs_engine.specs.declared.release.Next.{Next}
use Rattle.nfs_engine.specs.declared.release.Next.TheVariants as next
use Rattle.nfs_engine.specs.declared.release.Then.{Then}
use Rattle.nfs_engine.specs.declared.release.Then.TheVariants.{Aborted, Ended}
use Rattle.nfs_engine.specs.declared.running.Running.{Running}
use Rattle.nfs_engine.specs.declared.shard.ReserveError.{ReserveError}
use Rattle.nfs_engine.specs.declared.shard.ReserveError.TheVariants.{Memory, Spent}

pub record EngineValue : Type 0 where
  pub book : BookValue
  pub shards : List ShardValue

-- ---- the shards together
-- whether an address was read and stands in one of these shards
abbrev pub freed : List Bool → List Seen → Addr → Bool
freed which entries a = slice_index_or which (shard_of a) false && is_some (seen_at entries a)

-- what stands for a shard that is not there
abbrev pub no_shard : ShardValue
no_shard = record { index = 0; numbers = []; others = []; next_generation = 0 }

abbrev pub shard_among : List ShardValue → ℕ → ShardValue
shard_among shards k = slice_index_or shards k no_shard

-- the slot of an address, in its shard
abbrev pub slot_among : List ShardValue → Addr → SlotValue
slot_among shards a = slot_at (shard_among shards (shard_of a)) a

-- how a holder holds an address
abbrev pub held_among : List ShardValue → Addr → ℕ → Option Mode
held_among shards a j = hold_of (slot_among shards a).holders j

-- somebody holds the address
abbrev pub IsHeldAmong : List ShardValue → Addr → Type 0
IsHeldAmong shards a = IsHeld (shard_among shards (shard_of a)) a

-- These writes were made, one after the other, and nothing else.
pub record IsFilled (old new : List ShardValue) (writes : List (Addr × Option Object)) : Type 0 where
  pub objects : (a : Addr) → Some (slot_among new a).object ≡ written_at (Some (slot_among old a).object) writes a
  pub holds : (a : Addr) (j : ℕ) → held_among new a j ≡ held_among old a j
  pub counters : (k : ℕ) → (shard_among new k).next_generation ≡ (shard_among old k).next_generation
  pub indices : (k : ℕ) → (shard_among new k).index ≡ (shard_among old k).index

-- ---- what ties them to the book
-- Together they are the book's store, each generation that was given lies below its shard's counter, whoever holds an
-- address is a call that came in, and each shard has its place.
pub record IsTied (e : EngineValue) : Type 0 where
  pub objects : (a : Addr) → (slot_among e.shards a).object ≡ (store_in e.book).at a
  pub below : (n : ℕ) → (store_in e.book).last n < (shard_among e.shards (n % 16)).next_generation
  pub held : (a : Addr) (j : ℕ) → IsSome (held_among e.shards a j) → j < e.book.next_id
  pub indices : (k : ℕ) → k < 16 → (shard_among e.shards k).index ≡ k

-- ---- calls in progress
-- how an address is held by one with this view, if it is
abbrev pub mode_in : List Seen → Addr → Option Mode
mode_in entries a = held_at entries a

-- A holder holds each address so, if at all.
pub record Holds (e : EngineValue) (id : ℕ) (hold : Addr → Option Mode) : Type 0 where
  pub exactly : (a : Addr) → held_among e.shards a id ≡ hold a
  pub known : id < e.book.next_id

-- a call that the book has at this place, with what it came with, if it changes something
pub record IsRunning (e : EngineValue) (key id : ℕ) (origin : Option Origin) : Type 0 where
  pub running : Running
  pub there : running_at e.book.living key ≡ Some running
  pub same : running.id ≡ id
  pub came : running.origin ≡ origin

-- The call lives: its view fits the store, it holds just what it has read, its new numbers have generations of its own,
-- and it is in progress, as it came, by a server that was started so.
pub record Lives (e : EngineValue) (t : TxnValue) : Type 0 where
  pub fits : Fits t.view (store_in e.book)
  pub holds : Holds e t.id (mode_in t.view.entries)
  pub fresh : AllByRecursion
      (λ (r : Reserved). r.generation < (shard_among e.shards (r.number % 16)).next_generation) t.view.reserved
  pub running : IsRunning e t.key t.id (origin_of t.received t.call)
  pub under : IsUnder e.book.setting t.ctx

-- a call that has to begin again: it holds nothing
abbrev pub Waits : EngineValue → PendingValue → Type 0
Waits e p = Lives e (again_of p)

-- whether a shard is free of the call that left
abbrev pub is_free : ReleaseValue → ℕ → Bool
is_free r k = slice_index_or r.done k false

-- how a call that left still holds an address: as it has read it, but for shards that are free of it
abbrev pub kept_by : ReleaseValue → Addr → Option Mode
kept_by r a = elim (is_free r (shard_of a)) [ true ↦ None | false ↦ mode_in r.view.entries a ]

-- what the release leads to is a call in progress, or nothing
abbrev pub LeadsTo : EngineValue → (id : ℕ) → Then → Type 0
LeadsTo e id (Aborted p) = (p.id ≡ id) × IsRunning e p.key p.id (origin_of p.received p.call) ×
    IsUnder e.book.setting p.ctx
LeadsTo e id Ended = Unit {0}

-- a call that left and still holds this
pub record IsLeaving (e : EngineValue) (r : ReleaseValue) : Type 0 where
  pub holds : Holds e r.id (kept_by r)
  pub after : LeadsTo e r.id r.after

-- ---- what a step of one call leaves of the others
-- What another holds, in either mode, keeps its object and its last generation; each other holds just what it held; and
-- each other call in progress stays in progress, and no further one is.
pub record KeepsOthers (id : ℕ) (old new : EngineValue) : Type 0 where
  pub objects : (a : Addr) (j : ℕ) → j ≢ id → IsSome (held_among old.shards a j) →
      (store_in new.book).at a ≡ (store_in old.book).at a
  pub lasts : (n j : ℕ) → j ≢ id → IsSome (held_among old.shards (Inode n) j) →
      (store_in new.book).last n ≡ (store_in old.book).last n
  pub holds : (a : Addr) (j : ℕ) → j ≢ id → held_among new.shards a j ≡ held_among old.shards a j
  pub living : (key : ℕ) (r : Running) → r.id ≢ id → running_at old.book.living key ≡ Some r →
      running_at new.book.living key ≡ Some r
  pub lived : (key : ℕ) (r : Running) → r.id ≢ id → running_at new.book.living key ≡ Some r →
      running_at old.book.living key ≡ Some r
  pub ids : old.book.next_id ≤ new.book.next_id
  pub generations : (k : ℕ) →
      (shard_among old.shards k).next_generation ≤ (shard_among new.shards k).next_generation
  pub setting : new.book.setting ≡ old.book.setting

-- ---- counters
-- no call gets a number, and no shard gives a generation
pub record KeepsCounters (old new : EngineValue) : Type 0 where
  pub ids : new.book.next_id ≡ old.book.next_id
  pub generations : (k : ℕ) →
      (shard_among new.shards k).next_generation ≡ (shard_among old.shards k).next_generation

-- this shard gives one generation, and no other counter changes
pub record GivesGeneration (old new : EngineValue) (which : ℕ) : Type 0 where
  pub ids : new.book.next_id ≡ old.book.next_id
  pub given : (shard_among new.shards which).next_generation ≡
      (shard_among old.shards which).next_generation + 1
  pub others : (k : ℕ) → k ≢ which →
      (shard_among new.shards k).next_generation ≡ (shard_among old.shards k).next_generation

-- a generation is given just with a number
abbrev pub CountsReserved : EngineValue → EngineValue → (which : ℕ) → Result Unit ReserveError → Type 0
CountsReserved old new which (Ok done) = GivesGeneration old new which
CountsReserved old new which (Err error) = KeepsCounters old new

-- ---- what a step of a call comes to
-- The view has what stands there; Taken only where another holds it in a mode that excludes, and no memory only where
-- nobody does; then the call is as it was.
abbrev pub IsAcquired : {E : Type 0} → EngineValue → (old new : TxnValue) → Addr → Mode → Result Got E →
    Type 0
IsAcquired e old new a mode (Ok got.Yes) = new ≡ record old
    { view = with_seen old.view (record { address = a; mode = mode; object = (store_in e.book).at a }) }
IsAcquired e old new a mode (Ok (got.Taken h)) =
    Excludes mode (slot_among e.shards a).holders h × (h ≢ old.id) × (new ≡ old)
IsAcquired e old new a mode (Err error) = CanHold mode (slot_among e.shards a).holders × (new ≡ old)

-- A number of the shard, from 16 on, where nothing stood and that nobody held, with a generation above all that it gave
-- before, is held alone and may be given; Spent just where the shard's generations are, and there was no memory only
-- where they are not; then the call is as it was.
pub record Reserving (e : EngineValue) (old new : TxnValue) (which : ℕ) : Type 0 where
  pub reserved : Reserved
  pub from : 16 ≤ reserved.number
  pub shard : reserved.number % 16 ≡ which
  pub empty : slot_among e.shards (Inode reserved.number) ≡ empty_slot
  pub generation : reserved.generation ≡ (shard_among e.shards which).next_generation
  pub call : new ≡ record old { view = with_number old.view reserved }

abbrev pub IsReserved : EngineValue → (old new : TxnValue) → (which : ℕ) → Result Unit ReserveError → Type 0
IsReserved e old new which (Ok done) = Reserving e old new which
IsReserved e old new which (Err Memory) =
    ((shard_among e.shards which).next_generation ≢ 2 ^ 64 - 1) × (new ≡ old)
IsReserved e old new which (Err Spent) =
    ((shard_among e.shards which).next_generation ≡ 2 ^ 64 - 1) × (new ≡ old)

-- ---- a commit
-- whether some of these writes is in a shard
abbrev pub is_written : List (Addr × Option Object) → ℕ → Bool
is_written [] k = false
is_written (w ∷ ws) k = (shard_of w.0 == k) || is_written ws k

-- of each of the sixteen shards, whether it is written
pub record ArePlaces (writes : List (Addr × Option Object)) (written : List Bool) : Type 0 where
  pub sixteen : length written ≡ 16
  pub are : (k : ℕ) → slice_index_or written k false ≡ is_written writes k

-- In these shards a holder lets go all that it has read. Nothing else changed.
pub record Frees (old new : List ShardValue) (which : List Bool) (id : ℕ) (entries : List Seen) : Type 0 where
  pub objects : (b : Addr) → (slot_among new b).object ≡ (slot_among old b).object
  pub holds : (b : Addr) (j : ℕ) → held_among new b j ≡ elim ((id == j) && freed which entries b)
      [ true ↦ None | false ↦ held_among old b j ]
  pub counters : (k : ℕ) → (shard_among new k).next_generation ≡ (shard_among old k).next_generation
  pub indices : (k : ℕ) → (shard_among new k).index ≡ (shard_among old k).index

-- what is left of a call that was executed: its shards are free of it where it wrote
pub record IsReleased (f : FinishedValue) (r : ReleaseValue) : Type 0 where
  pub id : r.id ≡ f.id
  pub view : r.view ≡ f.done.view
  pub free : ArePlaces f.done.change.writes r.done
  pub over : r.after ≡ Ended

-- ---- releases
-- what is left of a call that was given up for this time
abbrev pub release_of : TxnValue → ReleaseValue
release_of t = record { id = t.id; view = t.view; done = replicate 16 false; after = Aborted (pending_of t) }

-- one shard more is free of the call that left
abbrev pub freed_more : ReleaseValue → ℕ → ReleaseValue
freed_more r k = record r { done = slice_set r.done k true }

-- nothing is held any more
abbrev pub HoldsNothing : ReleaseValue → Type 0
HoldsNothing r = (a : Addr) → kept_by r a ≡ None

-- the call that left still holds something in this shard
pub record HoldsSome (r : ReleaseValue) (k : ℕ) : Type 0 where
  pub address : Addr
  pub shard : shard_of address ≡ k
  pub held : IsSome (kept_by r address)

-- the release leads to this
abbrev pub IsEnd : ReleaseValue → Next → Type 0
IsEnd r (next.More left) = ⊥
IsEnd r (next.Aborted p) = r.after ≡ Aborted p
IsEnd r next.Ended = r.after ≡ Ended

-- there is more to release, where something is held in a shard; or nothing is held, and it leads to this
abbrev pub IsNext : ReleaseValue → Next → Type 0
IsNext r (next.More left) = (left ≡ r) × (k : ℕ) × HoldsSome r k
IsNext r next = HoldsNothing r × IsEnd r next

-- In one shard, where it still held something, a call that left lets go all that it has read. Each other shard is as it
-- was.
pub record FreesOne (old new : List ShardValue) (r : ReleaseValue) (k : ℕ) : Type 0 where
  pub held : HoldsSome r k
  pub shard : LetsGo (shard_among old k) (shard_among new k) k r.id r.view.entries
  pub others : (j : ℕ) → j ≢ k → shard_among new j ≡ shard_among old j

-- nothing is held any more: this shard was the last, or there was none
abbrev pub FreesLast : (old new : List ShardValue) → ReleaseValue → (last : Option ℕ) → Type 0
FreesLast old new r (Some k) = FreesOne old new r k × HoldsNothing (freed_more r k)
FreesLast old new r None = (new ≡ old) × HoldsNothing r

-- one shard more is free of the call; it may begin again, or is over, where it holds nothing any more
abbrev pub Releases : EngineValue → EngineValue → ReleaseValue → Next → Type 0
Releases old new r (next.More left) = IsLeaving new left ×
    (k : ℕ) × FreesOne old.shards new.shards r k × (left ≡ freed_more r k)
Releases old new r (next.Aborted p) = (r.after ≡ Aborted p) × Waits new p ×
    (last : Option ℕ) × FreesLast old.shards new.shards r last
Releases old new r next.Ended = (r.after ≡ Ended) × ((a : Addr) → held_among new.shards a r.id ≡ None) ×
    (last : Option ℕ) × FreesLast old.shards new.shards r last

-- of each of the sixteen shards, whether it is not yet free of the call that left
abbrev pub AreLeft : ReleaseValue → List Bool → Type 0
AreLeft r left = (k : ℕ) → k < 16 → slice_index_or left k false ≡ not (is_free r k)

-- the call that a release leads to, where one is in progress
abbrev pub pending_after : Then → Option PendingValue
pending_after (Aborted p) = Some p
pending_after Ended = None

-- the call was executed, or it is in progress, and may begin anew
abbrev pub LeadsOn : EngineValue → ReleaseValue → Option PendingValue → Type 0
LeadsOn e r None = r.after ≡ Ended
LeadsOn e r (Some p) = (r.after ≡ Aborted p) × Waits e p

-- all that the call held is let go, and the book is as it was
pub record LetsAllGo (old new : EngineValue) (r : ReleaseValue) (left : Option PendingValue) : Type 0 where
  pub others : KeepsOthers r.id old new
  pub counters : KeepsCounters old new
  pub nothing : (a : Addr) → held_among new.shards a r.id ≡ None
  pub book : new.book ≡ old.book
  pub leads : LeadsOn new r left

-- ---- steps of the book alone
-- the others are as they were, whoever they are
abbrev pub KeepsAll : EngineValue → EngineValue → Type 0
KeepsAll old new = (id : ℕ) → KeepsOthers id old new

-- a call that began lives, and the others are as they were
abbrev pub AdmitsLiving : EngineValue → EngineValue → Admission → Type 0
AdmitsLiving old new (admission.Begin t) = Lives new t × KeepsOthers t.id old new
AdmitsLiving old new (admission.Repeat kept) = KeepsAll old new
AdmitsLiving old new (admission.Running back) = new ≡ old
AdmitsLiving old new (admission.Early fault) = new ≡ old

-- ---- an engine that starts
-- these are empty shards, of these places and the next ones
abbrev pub AreNew : List ShardValue → (which : ℕ) → Type 0
AreNew [] which = Unit {0}
AreNew (s ∷ shards) which = IsNew which s × AreNew shards (suc which)

-- ---- how much is held
-- so many addresses of these shards are held
abbrev pub LockedSum : List ShardValue → ℕ → Type 0
LockedSum [] total = total ≡ 0
LockedSum (s ∷ shards) total =
    (n : ℕ) × (rest : ℕ) × IsLocked s n × LockedSum shards rest × (total ≡ n + rest)

-- and that is the count, where it is a u64
pub record CountsLocked (shards : List ShardValue) (count : ℕ) : Type 0 where
  pub total : ℕ
  pub sum : LockedSum shards total
  pub count_is : count ≡ min total (2 ^ 64 - 1)
