-- What the steps of a call in one shard are for the engine.
use Rattle.std.proofs.Common.{◌≡◌, ℕ, ◌<◌, ◌+◌, ◌-◌, ◌%◌, ◌^◌, ◌==◌, true}
use Rattle.std.proofs.Common.{false, cond, List}
use Rattle.std.proofs.Common.{get_or, set, length, Option, Some, None, Result, Ok, Err, option_map, refl, sym}
use Rattle.std.proofs.Common.{◌∙◌, ap, subst}
use Rattle.std.specs.Prelude.{◌≢◌}
use Rattle.nfs_objects.specs.Rooms.{with_seen, with_number}
use Rattle.nfs_objects.specs.Values.{Seen, ViewValue, seen_at}
use Rattle.nfs_objects.specs.declared.address.Addr.{Addr}
use Rattle.nfs_objects.specs.declared.address.Addr.TheVariants.{Inode}
use Rattle.nfs_objects.specs.declared.modes.Mode.{Mode}
use Rattle.nfs_objects.specs.declared.modes.Mode.TheVariants.{Exclusive}
use Rattle.nfs_engine.proofs.AcquireLemmas.{lives_as_it_was, lives_with_number, lives_with_one}
use Rattle.nfs_engine.proofs.OneShardOfSixteenLemmas.{any_default, each_shard, elsewhere, here}
use Rattle.nfs_engine.proofs.HolderModeLemmas.{Reholds, Turn, hold_so, lifted, only_in, reheld_others, reheld_tied}
use Rattle.nfs_engine.proofs.HolderModeLemmas.{reserves_holds, retakes_holds, same_holds, stay}
use Rattle.nfs_objects.specs.declared.view.Reserved.{Reserved}
use Rattle.nfs_engine.specs.Book.{BookValue, store_in}
use Rattle.nfs_engine.specs.Calls.{TxnValue}
use Rattle.nfs_engine.specs.Engine.{CountsReserved, EngineValue, IsTied, KeepsCounters, KeepsOthers, Lives, mode_in}
use Rattle.nfs_engine.specs.Engine.{IsReserved, shard_among}
use Rattle.nfs_engine.specs.Taking.{Gains, HoldsIn, IsGained, IsGot, ShardView, Stays, TakesAddress}
use Rattle.nfs_engine.specs.Holders.{hold_of}
use Rattle.nfs_engine.specs.Shards.{Reserves, Retakes, SameShard, ShardValue, SlotValue, hold_at, shard_of, slot_at}
use Rattle.nfs_engine.specs.declared.taking.Got.{Got}
use Rattle.nfs_engine.specs.declared.taking.Got.TheVariants as got
use Rattle.nfs_engine.specs.declared.shard.ReserveError.{ReserveError}
use Rattle.nfs_engine.specs.declared.shard.ReserveError.TheVariants.{Memory, Spent}

-- the engine is tied, the call lives, and the others are as they were
pub record GoesOn (old new : EngineValue) (id : ℕ) (t : TxnValue) : Type 0 where
  pub tied : IsTied new
  pub lives : Lives new t
  pub others : KeepsOthers id old new

-- what is held in no mode was not read
pub unheld : (es : List Seen) (a : Addr) → mode_in es a ≡ None → seen_at es a ≡ None
unheld es a none = elim (seen_at es a) as (λ (x : Option Seen). option_map (λ (e : Seen). e.mode) x ≡ None →
    x ≡ None) [
      | None ↦ λ e. refl
      | Some x ↦ λ e. cc
    ] none

module _ (book : BookValue) (shards : List ShardValue) (i : ℕ) (was s : ShardValue) (within : i < length shards)
    (tied : IsTied (record { book = book; shards = shards })) (t : TxnValue)
    (lives : Lives (record { book = book; shards = shards }) t) where
  abbrev pub before : EngineValue
  before = record { book = book; shards = shards }

  abbrev pub after : EngineValue
  after = record { book = book; shards = set shards i s }

  abbrev pub old_place : ShardView
  old_place = record { shard = get_or shards i was; view = t.view }

  -- the place, as the shard stands among the others
  there : get_or shards i was ≡ shard_among shards i
  there = any_default shards i was within

  -- the call holds there just what its view says
  pub holds_there : i < 16 → HoldsIn (get_or shards i was) t.id t.view.entries
  holds_there sixteen a is =
      let where_is : shard_of a ≡ i = is ∙ ap (λ (x : ShardValue). x.index) there ∙ tied.indices i sixteen in
      ap (λ (x : ShardValue). hold_at x a t.id) there ∙
      ap (λ k. hold_at (shard_among shards k) a t.id) (sym where_is) ∙ lives.holds.exactly a

  same_turn : (b : Addr) (m : Option Mode) → only_in i stay b m ≡ m
  same_turn b m = elim (shard_of b == i) as (λ u. cond u m m ≡ m) [ true ↦ refl | false ↦ refl ]

  -- nothing changed
  stayed : (u : TxnValue) → u ≡ record t { view = u.view } →
      Stays old_place (record { shard = s; view = u.view }) →
      GoesOn before after t.id u
  stayed u rest stays =
      let all : Reholds shards (set shards i s) t.id (only_in i stay) = lifted shards i s t.id stay within
      (same_holds (shard_among shards i) s t.id (subst (λ (x : ShardValue). SameShard x s) there stays.shard)) in
      let same : u ≡ t = rest ∙ ap (λ (v : ViewValue). record t { view = v }) stays.view in
      subst (λ (x : TxnValue). GoesOn before after t.id x) (sym same) (record {
        tied = reheld_tied book shards (set shards i s) t.id (only_in i stay) all lives.holds.known tied;
        lives = lives_as_it_was book shards (set shards i s) t (only_in i stay) all lives
            (λ b. same_turn b (mode_in t.view.entries b));
        others = reheld_others book shards (set shards i s) t.id (only_in i stay) all;
      })

  taken : (a : Addr) (mode : Mode) (u : TxnValue) → i ≡ shard_of a → seen_at t.view.entries a ≡ None →
      u ≡ record t { view = u.view } → TakesAddress old_place (record { shard = s; view = u.view }) a mode t.id →
      GoesOn before after t.id u
  taken a mode u where_is unseen rest takes =
      let turn : Turn = only_in i (hold_so a (Some mode)) in
      let all : Reholds shards (set shards i s) t.id turn = lifted shards i s t.id (hold_so a (Some mode)) within
      (retakes_holds (shard_among shards i) s a t.id (Some mode)
      (subst (λ (x : ShardValue). Retakes x s a t.id (Some mode)) there takes.held)) in
      let same : u ≡ record t {
        view = with_seen t.view (record
            { address = a; mode = mode; object = (slot_at (get_or shards i was) a).object });
      } =
      rest ∙ ap (λ (v : ViewValue). record t { view = v }) takes.seen in
      subst (λ (x : TxnValue). GoesOn before after t.id x) (sym same) (record {
        tied = reheld_tied book shards (set shards i s) t.id turn all lives.holds.known tied;
        lives = lives_with_one book shards (set shards i s) t turn all lives a mode
            ((slot_at (get_or shards i was) a).object) i refl where_is unseen (stands a where_is);
        others = reheld_others book shards (set shards i s) t.id turn all;
      })
    where
      stands : (a : Addr) → i ≡ shard_of a → (slot_at (get_or shards i was) a).object ≡ (store_in book).at a
      stands a where_is = ap (λ (x : ShardValue). (slot_at x a).object) there ∙
          ap (λ k. (slot_at (shard_among shards k) a).object) where_is ∙ tied.objects a

  pub got_on : {E : Type 0} (a : Addr) (mode : Mode) (u : TxnValue) (r : Result Got E) → i ≡ shard_of a →
      seen_at t.view.entries a ≡ None → u ≡ record t { view = u.view } →
      IsGot old_place (record { shard = s; view = u.view }) a mode t.id r → GoesOn before after t.id u
  got_on a mode u (Ok got.Yes) where_is unseen rest is = taken a mode u where_is unseen rest is
  got_on a mode u (Ok (got.Taken h)) where_is unseen rest is = stayed u rest is.1
  got_on a mode u (Err e) where_is unseen rest is = stayed u rest is.1

  -- no counter changes
  counted : s.next_generation ≡ (get_or shards i was).next_generation → KeepsCounters before after
  counted same = record {
    ids = refl;
    generations = each_shard shards i s within (λ x y. y.next_generation ≡ x.next_generation)
        (same ∙ ap (λ (x : ShardValue). x.next_generation) there) (λ x. refl);
  }

  pub got_counters : {E : Type 0} (a : Addr) (mode : Mode) (u : TxnValue) (r : Result Got E) →
      IsGot old_place (record { shard = s; view = u.view }) a mode t.id r → KeepsCounters before after
  got_counters a mode u (Ok got.Yes) is = counted is.held.next_generation
  got_counters a mode u (Ok (got.Taken h)) is = counted is.1.shard.next_generation
  got_counters a mode u (Err e) is = counted is.1.shard.next_generation

  gained : (u : TxnValue) → i < 16 → u ≡ record t { view = u.view } →
      Gains old_place (record { shard = s; view = u.view }) t.id → GoesOn before after t.id u
  gained u sixteen rest g =
      let n : Reserved = g.reserved in
      let reserves = subst (λ (x : ShardValue). Reserves x s t.id n) there g.shard in
      let turn : Turn = hold_so (Inode n.number) (Some Exclusive) in
      let all : Reholds shards (set shards i s) t.id (only_in i turn) =
      lifted shards i s t.id turn within (reserves_holds (shard_among shards i) s t.id n reserves) in
      let same : u ≡ record t { view = with_number t.view n } =
      rest ∙ ap (λ (v : ViewValue). record t { view = v }) g.view in
      subst (λ (x : TxnValue). GoesOn before after t.id x) (sym same) (record {
        tied = reheld_tied book shards (set shards i s) t.id (only_in i turn) all lives.holds.known tied;
        lives = lives_with_number book shards i s t n within sixteen tied reserves (unseen n sixteen reserves) lives;
        others = reheld_others book shards (set shards i s) t.id (only_in i turn) all;
      })
    where
      unseen : (n : Reserved) → i < 16 → Reserves (shard_among shards i) s t.id n → seen_at t.view.entries
          (Inode n.number) ≡ None
      unseen n sixteen r = unheld t.view.entries (Inode n.number)
          (sym (lives.holds.exactly (Inode n.number)) ∙
          ap (λ k. hold_at (shard_among shards k) (Inode n.number) t.id) (r.shard ∙ tied.indices i sixteen) ∙
          ap (λ (x : SlotValue). hold_of x.holders t.id) r.empty)

  pub gained_on : (u : TxnValue) (r : Result Unit ReserveError) → i < 16 → u ≡ record t { view = u.view } →
      IsGained old_place (record { shard = s; view = u.view }) t.id r → GoesOn before after t.id u
  gained_on u (Ok done) sixteen rest is = gained u sixteen rest is
  gained_on u (Err Memory) sixteen rest is = stayed u rest is.0
  gained_on u (Err Spent) sixteen rest is = stayed u rest is.0

  -- one counter does, where a number is reserved
  pub gained_counters : (u : TxnValue) (r : Result Unit ReserveError) →
      IsGained old_place (record { shard = s; view = u.view }) t.id r → CountsReserved before after i r
  gained_counters u (Ok done) g = record {
    ids = refl;
    given = ap (λ (x : ShardValue). x.next_generation) (here shards i s within) ∙ g.shard.next_generation ∙
        ap (λ (x : ShardValue). x.next_generation + 1) there;
    others = λ k apart. ap (λ (x : ShardValue). x.next_generation) (elsewhere shards i s within k apart);
  }
  gained_counters u (Err Memory) is = counted is.0.shard.next_generation
  gained_counters u (Err Spent) is = counted is.0.shard.next_generation

  -- a number is reserved just where the shard gives one
  pub gained_number : (u : TxnValue) (r : Result Unit ReserveError) → i < 16 → u ≡ record t { view = u.view } →
      IsGained old_place (record { shard = s; view = u.view }) t.id r → IsReserved before t u i r
  gained_number u (Ok done) sixteen rest g =
      let n : Reserved = g.reserved in
      let reserves = subst (λ (x : ShardValue). Reserves x s t.id n) there g.shard in
      let index : n.number % 16 ≡ i = reserves.shard ∙ tied.indices i sixteen in
      record {
        reserved = n;
        from = reserves.from;
        shard = index;
        empty = ap (λ k. slot_at (shard_among shards k) (Inode n.number)) index ∙ reserves.empty;
        generation = reserves.generation;
        call = rest ∙ ap (λ (v : ViewValue). record t { view = v }) g.view;
      }
  gained_number u (Err Memory) sixteen rest is = (
    subst (λ (x : ShardValue). x.next_generation ≢ 2 ^ 64 - 1) there is.1,
    rest ∙ ap (λ (v : ViewValue). record t { view = v }) is.0.view,
  )
  gained_number u (Err Spent) sixteen rest is = (
    subst (λ (x : ShardValue). x.next_generation ≡ 2 ^ 64 - 1) there is.1,
    rest ∙ ap (λ (v : ViewValue). record t { view = v }) is.0.view,
  )
