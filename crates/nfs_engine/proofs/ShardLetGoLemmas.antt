-- Shards in which a call lets go what it has read, entry by entry.
use Rattle.std.proofs.Common.{◌≡◌, ℕ, ◌<◌, ◌==◌, ◌&&◌, Bool, true, false, cond, List, [], ◌∷◌, ◌++◌}
use Rattle.std.proofs.Common.{get_or, set, length, Option, None, is_some, refl, sym, ◌∙◌, ap, subst, arith}
use Rattle.std.specs.Cmp.{unsigned_Decides}
use Rattle.nfs_objects.proofs.SeenLemmas.{is_addr-same}
use Rattle.nfs_objects.specs.Values.{Seen, is_addr, seen_at}
use Rattle.nfs_objects.specs.declared.address.Addr.{Addr}
use Rattle.nfs_objects.specs.declared.address.Addr.TheVariants.{Exports, Inode, Map, Block, Page, Part, Mounts, Usage}
use Rattle.nfs_objects.specs.declared.modes.Mode.{Mode}
use Rattle.nfs_engine.proofs.LetGoEntryLemmas.{seen_here, seen_last}
use Rattle.nfs_engine.proofs.OneShardOfSixteenLemmas.{any_default, each_shard}
use Rattle.nfs_engine.proofs.HolderModeLemmas.{Reholds, hold_so, lifted, only_in, retakes_holds}
use Rattle.nfs_engine.specs.Engine.{Frees, freed, held_among, shard_among}
use Rattle.nfs_engine.specs.Shards.{Retakes, ShardValue, shard_of}
use Rattle.nfs_objects.specs.declared.address.Addr.TheVariants.{Locks}

abbrev pub is_of : List Bool → ℕ → Bool
is_of which k = get_or which k false

pub below_sixteen : (a : Addr) → shard_of a < 16
below_sixteen Exports = omega arith
below_sixteen (Inode n) = omega arith
below_sixteen (Map n page) = omega arith
below_sixteen (Block n i) = omega arith
below_sixteen (Page n page) = omega arith
below_sixteen (Part n bucket part) = omega arith
below_sixteen Mounts = omega arith
below_sixteen (Usage e g) = omega arith
below_sixteen (Locks b) = omega arith

-- how an address is held, where it goes and where it does not
abbrev gone : Bool → Option Mode → Option Mode
gone t m = elim t [ true ↦ None | false ↦ m ]

pub freeing_none : (shards : List ShardValue) (which : List Bool) (id : ℕ) → Frees shards shards which id []
freeing_none shards which id = record {
  objects = λ b. refl;
  holds = λ b j. stays (id == j) (is_of which (shard_of b)) (held_among shards b j);
  counters = λ k. refl;
  indices = λ k. refl;
}
  where
    stays : (u t : Bool) (m : Option Mode) → m ≡ gone (u && (t && false)) m
    stays u t m = elim u as (λ u. m ≡ gone (u && (t && false)) m) [
      | true ↦ elim t as (λ t. m ≡ gone (t && false) m) [ true ↦ refl | false ↦ refl ]
      | false ↦ refl
    ]

module _ (initial now : List ShardValue) (which : List Bool) (id : ℕ) (es : List Seen) (e : Seen)
    (f : Frees initial now which id es) where
  -- what is seen of another address
  beside : (b : Addr) (j : ℕ) → is_addr e.address b ≡ false →
      gone ((id == j) && freed which es b) (held_among initial b j) ≡
      gone ((id == j) && freed which (es ++ e ∷ []) b) (held_among initial b j)
  beside b j other = ap (λ t. gone ((id == j) && (is_of which (shard_of b) && t)) (held_among initial b j))
      (sym (seen_last es e b other))

  -- an entry of another shard stays
  pub freeing_other : is_of which (shard_of e.address) ≡ false → Frees initial now which id (es ++ e ∷ [])
  freeing_other other = record {
    objects = f.objects;
    holds = λ b j. f.holds b j ∙ elim (is_addr e.address b) as (λ t. is_addr e.address b ≡ t →
        gone ((id == j) && freed which es b) (held_among initial b j) ≡
        gone ((id == j) && freed which (es ++ e ∷ []) b) (held_among initial b j)) [
          | true ↦ λ same. ap (λ t. gone ((id == j) && (t && is_some (seen_at es b))) (held_among initial b j))
              (unmarked b same) ∙ sym (ap (λ t. gone ((id == j) && (t && is_some (seen_at (es ++ e ∷ []) b)))
              (held_among initial b j)) (unmarked b same))
          | false ↦ λ apart. beside b j apart
        ] refl;
    counters = f.counters;
    indices = f.indices;
  }
    where
      unmarked : (b : Addr) → is_addr e.address b ≡ true → is_of which (shard_of b) ≡ false
      unmarked b same = ap (λ (a : Addr). is_of which (shard_of a)) (sym (is_addr-same e.address b same)) ∙ other

  -- and one of these shards goes
  pub freeing_one : (i : ℕ) (was s : ShardValue) → i ≡ shard_of e.address → is_of which i ≡ true → i < length now →
      Retakes (get_or now i was) s e.address id None → Frees initial (set now i s) which id (es ++ e ∷ [])
  freeing_one i was s place one within r = record {
    objects = λ b. all.objects b ∙ f.objects b;
    holds = λ b j. all.holds b j ∙ elim (is_addr e.address b) as (λ t. is_addr e.address b ≡ t →
        cond (id == j) (cond (shard_of b == i) (cond t None (held_among now b j)) (held_among now b j))
        (held_among now b j) ≡ gone ((id == j) && freed which (es ++ e ∷ []) b) (held_among initial b j)) [
          | true ↦ λ same.
              ap (λ t. cond (id == j) (cond t None (held_among now b j)) (held_among now b j)) (inside b same) ∙
              ap (λ m. cond (id == j) None m) (f.holds b j) ∙
              twice (id == j) (freed which es b) (held_among initial b j) ∙
              sym (ap (λ t. gone ((id == j) && t) (held_among initial b j)) (marked b same))
          | false ↦ λ apart. stays (shard_of b == i) (id == j) (held_among now b j) ∙ f.holds b j ∙ beside b j apart
        ] refl;
    counters = λ k. each_shard now i s within (λ x y. y.next_generation ≡ x.next_generation) there.next_generation
        (λ x. refl) k ∙ f.counters k;
    indices = λ k. all.indices k ∙ f.indices k;
  }
    where
      there : Retakes (shard_among now i) s e.address id None
      there = subst (λ (x : ShardValue). Retakes x s e.address id None) (any_default now i was within) r

      all : Reholds now (set now i s) id (only_in i (hold_so e.address None))
      all = lifted now i s id (hold_so e.address None) within
          (retakes_holds (shard_among now i) s e.address id None there)

      at : (b : Addr) → is_addr e.address b ≡ true → shard_of b ≡ i
      at b same = ap shard_of (sym (is_addr-same e.address b same)) ∙ sym place

      inside : (b : Addr) → is_addr e.address b ≡ true → (shard_of b == i) ≡ true
      inside b same = (unsigned_Decides (shard_of b) i).1 (at b same)

      marked : (b : Addr) → is_addr e.address b ≡ true → freed which (es ++ e ∷ []) b ≡ true
      marked b same = ap (λ t. t && is_some (seen_at (es ++ e ∷ []) b)) (ap (is_of which) (at b same) ∙ one) ∙
          seen_here es e b same

      twice : (u t : Bool) (m : Option Mode) → cond u None (gone (u && t) m) ≡ gone (u && true) m
      twice u t m = elim u as (λ u. cond u None (gone (u && t) m) ≡ gone (u && true) m) [
        | true ↦ refl
        | false ↦ refl
      ]

      stays : (t u : Bool) (m : Option Mode) → cond u (cond t m m) m ≡ m
      stays t u m = elim u as (λ u. cond u (cond t m m) m ≡ m) [
        | true ↦ elim t as (λ t. cond t m m ≡ m) [ true ↦ refl | false ↦ refl ]
        | false ↦ refl
      ]
