-- Shards that get what an engine opens with.
use Rattle.std.proofs.Common.{◌≡◌, ℕ, zero, suc, ◌<◌, ◌≤◌, ◌+◌, ◌%◌}
use Rattle.std.proofs.Common.{List, [], ◌∷◌}
use Rattle.std.proofs.Common.{get_or, length, Option, Some, None, IsSome, sym, ◌∙◌, ap, subst, arith}
use Rattle.nfs_objects.specs.Store.{Store, with_writes}
use Rattle.nfs_objects.specs.Values.{written_at}
use Rattle.nfs_objects.specs.declared.address.Addr.{Addr}
use Rattle.nfs_objects.specs.declared.address.Addr.TheVariants.{Inode}
use Rattle.nfs_objects.specs.declared.modes.Mode.{Mode}
use Rattle.nfs_objects.specs.declared.object.Object.{Object}
use Rattle.nfs_engine.proofs.ShardsFilledLemmas.{Making, written_over}
use Rattle.nfs_engine.proofs.ShardLetGoLemmas.{below_sixteen}
use Rattle.nfs_engine.proofs.OneShardOfSixteenLemmas.{any_default}
use Rattle.nfs_engine.specs.Book.{BookValue, store_in}
use Rattle.nfs_engine.specs.Engine.{AreNew, IsFilled, IsTied, held_among, shard_among, slot_among}
use Rattle.nfs_engine.specs.Holders.{hold_of}
use Rattle.nfs_engine.specs.Opening.{no_store}
use Rattle.nfs_engine.specs.Shards.{IsNew, ShardValue, SlotValue, hold_at, shard_of}

-- nobody holds the address of the next write, in the shard where it was found
pub nobody_there : (initial now : List ShardValue) (all rest : List (Addr × Option Object)) (a : Addr) (i : ℕ)
    (was : ShardValue) → Making initial now all rest → ((b : Addr) (j : ℕ) → held_among initial b j ≡
    None) →
    i ≡ shard_of a → i < length now → (j : ℕ) → hold_at (get_or now i was) a j ≡ None
nobody_there initial now all rest a i was m nobody where_is within j =
    ap (λ (x : ShardValue). hold_at x a j) (any_default now i was within) ∙
    ap (λ k. hold_at (shard_among now k) a j) where_is ∙ m.holds a j ∙ nobody a j

-- ---- the engine
new_at : (shards : List ShardValue) (i k : ℕ) → AreNew shards i → k < length shards →
    IsNew (i + k) (shard_among shards k)
new_at [] i k new within = absurd (omega arith)
new_at (s ∷ shards) i zero new within = subst (λ n. IsNew n s) (let same : i ≡ i + 0 = omega arith in same) new.0
new_at (s ∷ shards) i (suc k) new within =
    subst (λ n. IsNew n (shard_among shards k)) (let same : suc i + k ≡ i + suc k = omega arith in same)
    (new_at shards (suc i) k new.1 (omega arith))

pub new_one : (shards : List ShardValue) (k : ℕ) → AreNew shards 0 → length shards ≡ 16 → k < 16 →
    IsNew k (shard_among shards k)
new_one shards k new sixteen within = subst (λ n. IsNew n (shard_among shards k)) (let same : 0 + k ≡ k =
    omega arith in same)
    (new_at shards 0 k new (omega arith))

pub nobody_holds : (shards : List ShardValue) → AreNew shards 0 → length shards ≡ 16 → (a : Addr) (j : ℕ) →
    held_among shards a j ≡ None
nobody_holds shards new sixteen a j = ap (λ (x : SlotValue). hold_of x.holders j)
    ((new_one shards (shard_of a) new sixteen (below_sixteen a)).slots a)

pub opened_tied : (book : BookValue) (old new : List ShardValue) (ws : List (Addr × Option Object)) →
    AreNew old 0 → length old ≡ 16 → IsFilled old new ws → store_in book ≡ with_writes no_store ws →
    ((n : ℕ) → (store_in book).last n ≤ 1) → IsTied (record { book = book; shards = new })
opened_tied book old new ws fresh sixteen filled store given = record {
  objects = λ a. some_same (slot_among new a).object ((store_in book).at a) (filled.objects a ∙
      ap (λ o. written_at (Some o) ws a) (ap (λ (x : SlotValue). x.object)
      ((new_one old (shard_of a) fresh sixteen (below_sixteen a)).slots a)) ∙
      sym (written_over ws no_store a) ∙ ap (λ (s : Store). Some (s.at a)) (sym store));
  below = λ n. (let least = given n in let within : n % 16 < 16 = below_sixteen (Inode n) in
      let counts = filled.counters (n % 16) in
      let two = (new_one old (n % 16) fresh sixteen within).next_generation in
      omega arith);
  held = λ a j some. absurd (let none = filled.holds a j ∙ nobody_holds old fresh sixteen a j in
      none_some (held_among new a j) none some);
  indices = λ k within. filled.indices k ∙ (new_one old k fresh sixteen within).index;
}
  where
    some_same : (x y : Option Object) → Some x ≡ Some y → x ≡ y
    some_same x y e = cc

    none_some : (m : Option Mode) → m ≡ None → IsSome m → ⊥
    none_some None e some = cc
    none_some (Some x) e some = cc
