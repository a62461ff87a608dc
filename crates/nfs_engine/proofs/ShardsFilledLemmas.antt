-- Writes into the shards, one after the other.
use Rattle.std.proofs.Common.{◌≡◌, ℕ, ◌<◌, true, false, cond, List}
use Rattle.std.proofs.Common.{[], ◌∷◌, get_or, set, length}
use Rattle.std.proofs.Common.{Option, Some, refl, sym, ◌∙◌, ap, subst}
use Rattle.nfs_objects.proofs.SeenLemmas.{is_addr-same}
use Rattle.nfs_objects.specs.Store.{Store, with_write, with_writes}
use Rattle.nfs_objects.specs.Values.{is_addr, written_at}
use Rattle.nfs_objects.specs.declared.address.Addr.{Addr}
use Rattle.nfs_objects.specs.declared.object.Object.{Object}
use Rattle.nfs_engine.proofs.OneShardOfSixteenLemmas.{any_default, each_shard, each_slot}
use Rattle.nfs_engine.specs.Engine.{IsFilled, held_among, shard_among, slot_among}
use Rattle.nfs_engine.specs.Holders.{hold_of}
use Rattle.nfs_engine.specs.Shards.{Fills, ShardValue, shard_of}

-- some of the writes are made, and the rest are still to be
pub record Making (initial now : List ShardValue) (all rest : List (Addr × Option Object)) : Type 0 where
  pub objects : (a : Addr) → written_at (Some (slot_among now a).object) rest a ≡
      written_at (Some (slot_among initial a).object) all a
  pub holds : (a : Addr) (j : ℕ) → held_among now a j ≡ held_among initial a j
  pub counters : (k : ℕ) → (shard_among now k).next_generation ≡ (shard_among initial k).next_generation
  pub indices : (k : ℕ) → (shard_among now k).index ≡ (shard_among initial k).index

pub making_none : (initial : List ShardValue) (all : List (Addr × Option Object)) → Making initial initial all all
making_none initial all = record {
  objects = λ a. refl;
  holds = λ a j. refl;
  counters = λ k. refl;
  indices = λ k. refl;
}

pub making_all : (initial now : List ShardValue) (all rest : List (Addr × Option Object)) →
    Making initial now all rest → rest ≡ [] → IsFilled initial now all
making_all initial now all rest f is =
    let g = subst (λ (ws : List (Addr × Option Object)). Making initial now all ws) is f in record {
      objects = g.objects;
      holds = g.holds;
      counters = g.counters;
      indices = g.indices;
    }

-- one more write is made, in the shard where its address stands
module _ (initial now : List ShardValue) (all rest left : List (Addr × Option Object)) (w : Addr × Option Object)
    (i : ℕ) (s was : ShardValue) (f : Making initial now all rest) (is : rest ≡ w ∷ left) (where_is : i ≡
    shard_of w.0)
    (within : i < length now) (fills : Fills (get_or now i was) s w.0 w.1) where
  there : Fills (shard_among now i) s w.0 w.1
  there = subst (λ (x : ShardValue). Fills x s w.0 w.1) (any_default now i was within) fills

  before : Making initial now all (w ∷ left)
  before = subst (λ (ws : List (Addr × Option Object)). Making initial now all ws) is f

  filled_objects : (b : Addr) →
      (slot_among (set now i s) b).object ≡ cond (is_addr w.0 b) w.1 (slot_among now b).object
  filled_objects = each_slot now i s within (λ b x y. y.object ≡ cond (is_addr w.0 b) w.1 x.object)
      (λ b here. there.objects b)
      (λ b apart x. elim (is_addr w.0 b) as (λ t. is_addr w.0 b ≡ t → x.object ≡ cond t w.1 x.object) [
        | true ↦ λ same. absurd (apart (ap shard_of (sym (is_addr-same w.0 b same)) ∙ sym where_is))
        | false ↦ λ other. refl
      ] refl)

  pub filled_holds : (b : Addr) (j : ℕ) → held_among (set now i s) b j ≡ held_among now b j
  filled_holds b j = each_slot now i s within (λ c x y. hold_of y.holders j ≡ hold_of x.holders j)
      (λ c here. there.holds c j) (λ c apart x. refl) b

  pub making_more : Making initial (set now i s) all left
  making_more = record {
    objects = λ b. ap (λ x. written_at x left b) (ap (λ (o : Option Object). Some o) (filled_objects b) ∙
        elim (is_addr w.0 b) as (λ t. Some (cond t w.1 (slot_among now b).object) ≡
        cond t (Some w.1) (Some (slot_among now b).object)) [ true ↦ refl | false ↦ refl ]) ∙ before.objects b;
    holds = λ b j. filled_holds b j ∙ before.holds b j;
    counters = λ k. each_shard now i s within (λ x y. y.next_generation ≡ x.next_generation) there.next_generation
        (λ x. refl) k ∙ before.counters k;
    indices = λ k. each_shard now i s within (λ x y. y.index ≡ x.index) there.index (λ x. refl) k ∙
        before.indices k;
  }

-- the writes of a store, at each address
pub written_over : (ws : List (Addr × Option Object)) (s : Store) (a : Addr) →
    Some ((with_writes s ws).at a) ≡ written_at (Some (s.at a)) ws a
written_over [] s a = refl
written_over (w ∷ ws) s a = written_over ws (with_write s w.0 w.1) a ∙ ap (λ x. written_at x ws a)
    (elim (is_addr w.0 a) as (λ t. Some (cond t w.1 (s.at a)) ≡ cond t (Some w.1) (Some (s.at a))) [
      | true ↦
          refl
      | false ↦ refl
    ])
