-- Shards that are settled one after the other: what that comes to for all of them.
use Rattle.std.proofs.Common.{◌≡◌, ◌≢◌, ℕ, ◌<◌, ◌≤◌, ◌+◌, ◌==◌, ◌&&◌, ◌||◌, Bool, true, false, cond, List, [], ◌∷◌}
use Rattle.std.proofs.Common.{get_or, set, length, map, Option, Some, None, is_some, refl, sym, ◌∙◌, ap, subst, arith}
use Rattle.std.specs.Cmp.{unsigned_Decides}
use Rattle.std.specs.List.{AllByRecursion}
use Rattle.nfs_objects.proofs.SeenLemmas.{is_addr-same}
use Rattle.nfs_objects.specs.Values.{Seen, is_addr, seen_at, written_at}
use Rattle.nfs_objects.specs.declared.address.Addr.{Addr}
use Rattle.nfs_objects.specs.declared.modes.Mode.{Mode}
use Rattle.nfs_objects.specs.declared.object.Object.{Object}
use Rattle.nfs_engine.proofs.ShardLetGoLemmas.{below_sixteen, is_of}
use Rattle.nfs_engine.proofs.OneShardOfSixteenLemmas.{alike_or, any_default, elsewhere, here}
use Rattle.nfs_engine.proofs.WritesInShardLemmas.{Writes}
use Rattle.nfs_engine.specs.Engine.{ArePlaces, IsHeldAmong, freed, held_among, is_written, shard_among, slot_among}
use Rattle.nfs_engine.specs.Settling.{AreHeldIn, IsSettled, Settles, spent_in}
use Rattle.nfs_engine.specs.Shards.{IsHeld, ShardValue, hold_at, shard_of, slot_at}

abbrev gone : Bool → Option Mode → Option Mode
gone t m = elim t [ true ↦ None | false ↦ m ]

-- ---- writes
-- a write that is spent in another shard is as it was
spent_elsewhere : (k : ℕ) (ws : Writes) (b : Addr) (x : Option (Option Object)) → shard_of b ≢ k →
    written_at x (map (spent_in k) ws) b ≡ written_at x ws b
spent_elsewhere k [] b x apart = refl
spent_elsewhere k (w ∷ ws) b x apart =
    ap (λ y. written_at y (map (spent_in k) ws) b) (elim (is_addr w.0 b) as (λ t. is_addr w.0 b ≡ t →
    cond t (Some (cond (shard_of w.0 == k) None w.1)) x ≡ cond t (Some w.1) x) [
      | true ↦ λ same. ap (λ t. Some (cond t None w.1)) (other same)
      | false ↦ λ unlike. refl
    ] refl) ∙ spent_elsewhere k ws b (cond (is_addr w.0 b) (Some w.1) x) apart
  where
    other : is_addr w.0 b ≡ true → (shard_of w.0 == k) ≡ false
    other same = elim (shard_of w.0 == k) as (λ t. (shard_of w.0 == k) ≡ t → t ≡ false) [
      | true ↦ λ is. absurd (apart (ap shard_of (sym (is_addr-same w.0 b same)) ∙
          (unsigned_Decides (shard_of w.0) k).0 is))
      | false ↦ λ no. refl
    ] refl

-- what is not written in a shard stays there
unwritten : (k : ℕ) (ws : Writes) (b : Addr) (x : Option (Option Object)) → is_written ws k ≡ false →
    shard_of b ≡ k → written_at x ws b ≡ x
unwritten k [] b x none there = refl
unwritten k (w ∷ ws) b x none there =
    ap (λ t. written_at (cond t (Some w.1) x) ws b) unlike
    ∙ unwritten k ws b x (second (shard_of w.0 == k) (is_written ws k) none) there
  where
    first : (s t : Bool) → (s || t) ≡ false → s ≡ false
    first true t e = e
    first false t e = refl

    second : (s t : Bool) → (s || t) ≡ false → t ≡ false
    second true t e = (let no : true ≡ false = e in cc)
    second false t e = e

    unlike : is_addr w.0 b ≡ false
    unlike = elim (is_addr w.0 b) as (λ t. is_addr w.0 b ≡ t → t ≡ false) [
      | true ↦ λ same. (let yes : (shard_of w.0 == k) ≡ true = (unsigned_Decides (shard_of w.0) k).1
          (ap shard_of (is_addr-same w.0 b same) ∙ there) in
          let no : true ≡ false = sym yes ∙ first (shard_of w.0 == k) (is_written ws k) none in cc)
      | false ↦ λ other. refl
    ] refl

spent_held : (P : Addr → Type 0) (k : ℕ) (ws : Writes) → AllByRecursion (λ (w : Addr × Option Object). P w.0) ws →
    AllByRecursion (λ (w : Addr × Option Object). P w.0) (map (spent_in k) ws)
spent_held P k [] all = tt
spent_held P k (w ∷ ws) all = (all.0, spent_held P k ws all.1)

-- what is held among the shards is held in the one where it stands
in_shard : (shards : List ShardValue) (k : ℕ) (s : ShardValue) (ws : Writes) → s ≡ shard_among shards k →
    AllByRecursion (λ (w : Addr × Option Object). IsHeldAmong shards w.0) ws → AreHeldIn s k ws
in_shard shards k s [] is all = tt
in_shard shards k s (w ∷ ws) is all = (
  λ there. subst (λ (x : ShardValue). IsHeld x w.0) (ap (shard_among shards) there ∙ sym is) all.0,
  in_shard shards k s ws is all.1,
)

-- ---- the shards below a place are settled
pub record SettledTo (initial now : List ShardValue) (which : List Bool) (id : ℕ) (es : List Seen)
    (all left : Writes) (k : ℕ) : Type 0 where
  pub objects : (b : Addr) → shard_of b < k →
      Some (slot_among now b).object ≡ written_at (Some (slot_among initial b).object) all b
  pub holds : (b : Addr) (j : ℕ) → shard_of b < k →
      held_among now b j ≡ gone ((id == j) && freed which es b) (held_among initial b j)
  pub rest : (j : ℕ) → k ≤ j → shard_among now j ≡ shard_among initial j
  pub counters : (j : ℕ) → (shard_among now j).next_generation ≡ (shard_among initial j).next_generation
  pub indices : (j : ℕ) → (shard_among now j).index ≡ (shard_among initial j).index
  pub still : (b : Addr) (x : Option (Option Object)) → k ≤ shard_of b → written_at x left b ≡ written_at x all b
  pub held : AllByRecursion (λ (w : Addr × Option Object). IsHeldAmong initial w.0) left

pub settled_none : (initial : List ShardValue) (which : List Bool) (id : ℕ) (es : List Seen) (all : Writes) →
    AllByRecursion (λ (w : Addr × Option Object). IsHeldAmong initial w.0) all →
    SettledTo initial initial which id es all all 0
settled_none initial which id es all held = record {
  objects = λ b below. absurd (omega arith);
  holds = λ b j below. absurd (omega arith);
  rest = λ j from. refl;
  counters = λ j. refl;
  indices = λ j. refl;
  still = λ b x from. refl;
  held = held;
}

module _ (initial now : List ShardValue) (which : List Bool) (id : ℕ) (es : List Seen) (all left : Writes) (k : ℕ)
    (f : SettledTo initial now which id es all left k) where
  -- one that is not written stays as it is
  pub settled_other : ArePlaces all which → is_of which k ≡ false →
      SettledTo initial now which id es all left (k + 1)
  settled_other are unmarked = record {
    objects = λ b below. alike_or (shard_of b) k
        (λ same. ap (λ (s : ShardValue). Some (slot_at s b).object) (f.rest (shard_of b) (omega arith))
        ∙ sym (unwritten k all b (Some (slot_among initial b).object) (sym (are.are k) ∙ unmarked) same))
        (λ apart. f.objects b (omega arith));
    holds = λ b j below. alike_or (shard_of b) k
        (λ same. ap (λ (s : ShardValue). hold_at s b j) (f.rest (shard_of b) (omega arith))
        ∙ stays (id == j) (is_some (seen_at es b)) (held_among initial b j)
        ∙ ap (λ t. gone ((id == j) && (t && is_some (seen_at es b))) (held_among initial b j))
        (sym (ap (is_of which) same ∙ unmarked)))
        (λ apart. f.holds b j (omega arith));
    rest = λ j from. f.rest j (omega arith);
    counters = f.counters;
    indices = f.indices;
    still = λ b x from. f.still b x (omega arith);
    held = f.held;
  }
    where
      stays : (u t : Bool) (m : Option Mode) → m ≡ gone (u && (false && t)) m
      stays u t m = elim u as (λ u. m ≡ gone (u && (false && t)) m) [ true ↦ refl | false ↦ refl ]

  module _ (was : ShardValue) (within : k < length now) where
    there : get_or now k was ≡ shard_among now k
    there = any_default now k was within

    -- what it has to settle is held
    pub held_there : AreHeldIn (get_or now k was) k left
    held_there = in_shard initial k (get_or now k was) left (there ∙ f.rest k (omega arith)) f.held

    pub own_index : k < 16 → ((n : ℕ) → n < 16 → (shard_among initial n).index ≡ n) → (get_or now k was).index ≡ k
    own_index sixteen indices = ap (λ (x : ShardValue). x.index) there ∙ f.indices k ∙ indices k sixteen

    pub held_by_own : k < 16 → ((n : ℕ) → n < 16 → (shard_among initial n).index ≡ n) →
        AreHeldIn (get_or now k was) (get_or now k was).index left
    held_by_own sixteen indices = subst (λ n. AreHeldIn (get_or now k was) n left) (sym (own_index sixteen indices))
        held_there

    -- one more is settled
    pub settled_one : (s : ShardValue) → is_of which k ≡ true → Settles (get_or now k was) s k id es left →
        SettledTo initial (set now k s) which id es all (map (spent_in k) left) (k + 1)
    settled_one s marked settles = record {
      objects = λ b below. alike_or (shard_of b) k
          (λ same. ap (λ (x : ShardValue). Some (slot_at x b).object) (ap (shard_among (set now k s)) same ∙ at)
          ∙ by.objects b ∙ ap (λ t. cond t (written_at (Some (slot_at (shard_among initial k) b).object) left b)
          (Some (slot_at (shard_among initial k) b).object)) ((unsigned_Decides (shard_of b) k).1 same)
          ∙ f.still b (Some (slot_at (shard_among initial k) b).object) (omega arith)
          ∙ ap (λ (x : ShardValue). written_at (Some (slot_at x b).object) all b)
          (ap (shard_among initial) (sym same)))
          (λ apart. ap (λ (x : ShardValue). Some (slot_at x b).object) (elsewhere now k s within (shard_of b) apart)
          ∙ f.objects b (omega arith));
      holds = λ b j below. alike_or (shard_of b) k
          (λ same. ap (λ (x : ShardValue). hold_at x b j) (ap (shard_among (set now k s)) same ∙ at)
          ∙ by.holds b j ∙ ap (λ t. cond (t && is_some (seen_at es b))
          (cond (id == j) None (hold_at (shard_among initial k) b j)) (hold_at (shard_among initial k) b j))
          ((unsigned_Decides (shard_of b) k).1 same)
          ∙ goes (id == j) (is_some (seen_at es b)) (hold_at (shard_among initial k) b j)
          ∙ ap (λ t. gone ((id == j) && (t && is_some (seen_at es b))) (hold_at (shard_among initial k) b j))
          (sym (ap (is_of which) same ∙ marked))
          ∙ ap (λ (x : ShardValue). gone ((id == j) && freed which es b) (hold_at x b j))
          (ap (shard_among initial) (sym same)))
          (λ apart. ap (λ (x : ShardValue). hold_at x b j) (elsewhere now k s within (shard_of b) apart)
          ∙ f.holds b j (omega arith));
      rest = λ j from. elsewhere now k s within j (omega arith) ∙ f.rest j (omega arith);
      counters = λ j. alike_or j k
          (λ same. ap (λ (x : ShardValue). x.next_generation) (ap (shard_among (set now k s)) same ∙ at)
          ∙ by.next_generation ∙ ap (λ n. (shard_among initial n).next_generation) (sym same))
          (λ apart. ap (λ (x : ShardValue). x.next_generation) (elsewhere now k s within j apart) ∙ f.counters j);
      indices = λ j. alike_or j k
          (λ same. ap (λ (x : ShardValue). x.index) (ap (shard_among (set now k s)) same ∙ at)
          ∙ by.index ∙ ap (λ n. (shard_among initial n).index) (sym same))
          (λ apart. ap (λ (x : ShardValue). x.index) (elsewhere now k s within j apart) ∙ f.indices j);
      still = λ b x from. spent_elsewhere k left b x (λ same. omega arith) ∙ f.still b x (omega arith);
      held = spent_held (λ a. IsHeldAmong initial a) k left f.held;
    }
      where
        at : shard_among (set now k s) k ≡ s
        at = here now k s within

        -- of the shard as it was at first
        by : Settles (shard_among initial k) s k id es left
        by = subst (λ (x : ShardValue). Settles x s k id es left) (there ∙ f.rest k (omega arith)) settles

        goes : (u t : Bool) (m : Option Mode) → cond (true && t) (cond u None m) m ≡ gone (u && (true && t)) m
        goes u t m = elim t as (λ t. cond t (cond u None m) m ≡ gone (u && t) m) [
          | true ↦ elim u as (λ u. cond u None m ≡ gone (u && true) m) [ true ↦ refl | false ↦ refl ]
          | false ↦ elim u as (λ u. m ≡ gone (u && false) m) [ true ↦ refl | false ↦ refl ]
        ]

-- the same, of a shard that tells its index itself
pub settled_next : (initial now : List ShardValue) (which : List Bool) (id : ℕ) (es : List Seen)
    (all left more : Writes) (k : ℕ) (was s : ShardValue) → SettledTo initial now which id es all left k →
    k < length now → k < 16 → ((n : ℕ) → n < 16 → (shard_among initial n).index ≡ n) → is_of which k ≡ true →
    Settles (get_or now k was) s (get_or now k was).index id es left →
    more ≡ map (spent_in (get_or now k was).index) left → SettledTo initial (set now k s) which id es all more (k + 1)
settled_next initial now which id es all left more k was s f within sixteen indices marked settles is =
    subst (λ (ws : Writes). SettledTo initial (set now k s) which id es all ws (k + 1))
    (sym (is ∙ ap (λ n. map (spent_in n) left) own))
    (settled_one initial now which id es all left k f was within s marked
    (subst (λ n. Settles (get_or now k was) s n id es left) own settles))
  where
    own : (get_or now k was).index ≡ k
    own = own_index initial now which id es all left k f was within sixteen indices

pub settled_all : (initial now : List ShardValue) (which : List Bool) (id : ℕ) (es : List Seen) (all left : Writes)
    (k : ℕ) → 16 ≤ k → SettledTo initial now which id es all left k → IsSettled initial now which id es all
settled_all initial now which id es all left k over f = record {
  objects = λ b. f.objects b (let less = below_sixteen b in omega arith);
  holds = λ b j. f.holds b j (let less = below_sixteen b in omega arith);
  counters = f.counters;
  indices = f.indices;
}
