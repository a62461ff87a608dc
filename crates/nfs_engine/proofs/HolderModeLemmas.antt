-- One holder holds addresses in another way than before, and nothing else changed.
use Rattle.std.proofs.Common.{◌≡◌, ◌≢◌, ℕ, ◌<◌, ◌≤◌, ◌%◌, ◌==◌, ◌&&◌}
use Rattle.std.proofs.Common.{Bool, true, false, cond, List}
use Rattle.std.proofs.Common.{set, length, Option, Some, None, IsSome, is_some, refl, sym, ◌∙◌, ap}
use Rattle.std.proofs.Common.{subst, arith}
use Rattle.std.specs.Cmp.{unsigned_Decides}
use Rattle.nfs_objects.proofs.SeenLemmas.{is_addr-same}
use Rattle.nfs_objects.specs.Values.{Seen, is_addr, seen_at}
use Rattle.nfs_objects.specs.declared.address.Addr.{Addr}
use Rattle.nfs_objects.specs.declared.address.Addr.TheVariants.{Inode}
use Rattle.nfs_objects.specs.declared.modes.Mode.{Mode}
use Rattle.nfs_objects.specs.declared.modes.Mode.TheVariants.{Exclusive}
use Rattle.nfs_objects.specs.declared.view.Reserved.{Reserved}
use Rattle.nfs_engine.proofs.OneShardOfSixteenLemmas.{each_shard, each_slot}
use Rattle.nfs_engine.specs.Book.{BookValue}
use Rattle.nfs_engine.specs.Engine.{EngineValue, Holds, IsTied, KeepsOthers, held_among, shard_among, slot_among}
use Rattle.nfs_engine.specs.Holders.{hold_of}
use Rattle.nfs_engine.specs.Taking.{LetsGo}
use Rattle.nfs_engine.specs.Shards.{Reserves, Retakes, SameShard, ShardValue, SlotValue, hold_at}
use Rattle.nfs_engine.specs.Shards.{shard_of, slot_at}

-- how a hold changes, at each address
abbrev pub Turn : Type 0
Turn = Addr → Option Mode → Option Mode

-- ---- in one shard
pub record ReholdsIn (old new : ShardValue) (id : ℕ) (turn : Turn) : Type 0 where
  pub objects : (b : Addr) → (slot_at new b).object ≡ (slot_at old b).object
  pub holds : (b : Addr) (j : ℕ) → hold_at new b j ≡ cond (id == j) (turn b (hold_at old b j)) (hold_at old b j)
  pub counter : old.next_generation ≤ new.next_generation
  pub index : new.index ≡ old.index

abbrev pub stay : Turn
stay b m = m

abbrev pub hold_so : Addr → Option Mode → Turn
hold_so a m b before = cond (is_addr a b) m before

abbrev pub let_go : (which : ℕ) → List Seen → Turn
let_go which entries b m = cond ((shard_of b == which) && is_some (seen_at entries b)) None m

swap : {X : Type 0} (t u : Bool) (x y : X) → cond t (cond u x y) y ≡ cond u (cond t x y) y
swap t u x y = elim t as (λ t. cond t (cond u x y) y ≡ cond u (cond t x y) y) [
  | true ↦ refl
  | false ↦ elim u as (λ u. y ≡ cond u y y) [ true ↦ refl | false ↦ refl ]
]

pub retakes_holds : (old new : ShardValue) (a : Addr) (id : ℕ) (m : Option Mode) → Retakes old new a id m →
    ReholdsIn old new id (hold_so a m)
retakes_holds old new a id m r = record {
  objects = r.objects;
  holds = λ b j. r.holds b j ∙ swap (is_addr a b) (id == j) m (hold_at old b j);
  counter = (let same = r.next_generation in omega arith);
  index = r.index;
}

pub same_holds : (old new : ShardValue) (id : ℕ) → SameShard old new → ReholdsIn old new id stay
same_holds old new id s = record {
  objects = λ b. ap (λ (x : SlotValue). x.object) (s.slots b);
  holds = λ b j. ap (λ (x : SlotValue). hold_of x.holders j) (s.slots b) ∙
      elim (id == j) as (λ t. hold_at old b j ≡ cond t (hold_at old b j) (hold_at old b j)) [
        | true ↦
            refl
        | false ↦ refl
      ];
  counter = (let same = s.next_generation in omega arith);
  index = s.index;
}

pub reserves_holds : (old new : ShardValue) (id : ℕ) (r : Reserved) → Reserves old new id r →
    ReholdsIn old new id (hold_so (Inode r.number) (Some Exclusive))
reserves_holds old new id r s = record {
  objects = s.objects;
  holds = λ b j. s.holds b j ∙ elim (is_addr (Inode r.number) b) as (λ t. is_addr (Inode r.number) b ≡ t →
      cond t (cond (id == j) (Some Exclusive) None) (hold_at old b j) ≡
      cond (id == j) (cond t (Some Exclusive) (hold_at old b j)) (hold_at old b j)) [
        | true ↦ λ same. ap (λ m. cond (id == j) (Some Exclusive) m) (sym
            (ap (λ (c : Addr). hold_at old c j) (sym (is_addr-same (Inode r.number) b same)) ∙
            ap (λ (x : SlotValue). hold_of x.holders j) s.empty))
        | false ↦ λ other. elim (id == j) as (λ u. hold_at old b j ≡ cond u (hold_at old b j) (hold_at old b j)) [
          | true ↦ refl
          | false ↦ refl
        ]
      ] refl;
  counter = (let more = s.next_generation in omega arith);
  index = s.index;
}

pub lets_go_holds : (old new : ShardValue) (which id : ℕ) (entries : List Seen) →
    LetsGo old new which id entries →
    ReholdsIn old new id (let_go which entries)
lets_go_holds old new which id entries l = record {
  objects = l.objects;
  holds = λ b j. l.holds b j ∙
      swap ((shard_of b == which) && is_some (seen_at entries b)) (id == j) None (hold_at old b j);
  counter = (let same = l.next_generation in omega arith);
  index = l.index;
}

-- ---- in all shards
pub record Reholds (old new : List ShardValue) (id : ℕ) (turn : Turn) : Type 0 where
  pub objects : (b : Addr) → (slot_among new b).object ≡ (slot_among old b).object
  pub holds : (b : Addr) (j : ℕ) →
      held_among new b j ≡ cond (id == j) (turn b (held_among old b j)) (held_among old b j)
  pub counters : (k : ℕ) → (shard_among old k).next_generation ≤ (shard_among new k).next_generation
  pub indices : (k : ℕ) → (shard_among new k).index ≡ (shard_among old k).index

-- a turn of one shard
abbrev pub only_in : ℕ → Turn → Turn
only_in i turn b m = cond (shard_of b == i) (turn b m) m

pub lifted : (shards : List ShardValue) (i : ℕ) (s : ShardValue) (id : ℕ) (turn : Turn) → i < length shards →
    ReholdsIn (shard_among shards i) s id turn → Reholds shards (set shards i s) id (only_in i turn)
lifted shards i s id turn within r = record {
  objects = each_slot shards i s within (λ b x y. y.object ≡ x.object) (λ b is. r.objects b) (λ b apart x. refl);
  holds = λ b j. each_slot shards i s within
      (λ b x y. hold_of y.holders j ≡ cond (id == j) (only_in i turn b (hold_of x.holders j)) (hold_of x.holders j))
      (λ b is. r.holds b j ∙ ap (λ t. cond (id == j)
      (cond t (turn b (hold_at (shard_among shards i) b j)) (hold_at (shard_among shards i) b j))
      (hold_at (shard_among shards i) b j)) (sym ((unsigned_Decides (shard_of b) i).1 is)))
      (λ b apart x. elim (id == j) as (λ t. hold_of x.holders j ≡
      cond t (only_in i turn b (hold_of x.holders j)) (hold_of x.holders j)) [
        | true ↦ ap (λ u. cond u (turn b (hold_of x.holders j)) (hold_of x.holders j))
            (sym (tests (shard_of b) apart))
        | false ↦ refl
      ]) b;
  counters = each_shard shards i s within (λ x y. x.next_generation ≤ y.next_generation) r.counter
      (λ x. omega arith);
  indices = each_shard shards i s within (λ x y. y.index ≡ x.index) r.index (λ x. refl);
}
  where
    tests : (k : ℕ) → k ≢ i → (k == i) ≡ false
    tests k apart = elim (k == i) as (λ t. (k == i) ≡ t → t ≡ false) [
      | true ↦ λ e. absurd (apart ((unsigned_Decides k i).0 e))
      | false ↦ λ e. refl
    ] refl

module _ (book : BookValue) (old new : List ShardValue) (id : ℕ) (turn : Turn) (r : Reholds old new id turn) where
  abbrev before : EngineValue
  before = record { book = book; shards = old }

  abbrev after : EngineValue
  after = record { book = book; shards = new }

  pub reheld_apart : (b : Addr) (j : ℕ) → j ≢ id → held_among new b j ≡ held_among old b j
  reheld_apart b j apart = r.holds b j ∙ elim (id == j) as (λ t. (id == j) ≡ t →
      cond t (turn b (held_among old b j)) (held_among old b j) ≡ held_among old b j) [
        | true ↦ λ e. absurd (apart (sym ((unsigned_Decides id j).0 e)))
        | false ↦ λ e. refl
      ] refl

  pub reheld_own : (b : Addr) → held_among new b id ≡ turn b (held_among old b id)
  reheld_own b = r.holds b id ∙
      ap (λ t. cond t (turn b (held_among old b id)) (held_among old b id)) ((unsigned_Decides id id).1 refl)

  pub reheld_others : KeepsOthers id before after
  reheld_others = record {
    objects = λ a j apart some. refl;
    lasts = λ n j apart some. refl;
    holds = reheld_apart;
    living = λ key x apart is. is;
    lived = λ key x apart is. is;
    ids = omega arith;
    generations = r.counters;
    setting = refl;
  }

  pub reheld_tied : id < book.next_id → IsTied before → IsTied after
  reheld_tied known tied = record {
    objects = λ a. r.objects a ∙ tied.objects a;
    below = λ n. (let more = r.counters (n % 16) in let was = tied.below n in omega arith);
    held = λ a j some. elim (id == j) as (λ t. (id == j) ≡ t → j < book.next_id) [
      | true ↦ λ e. (let is : id ≡ j = (unsigned_Decides id j).0 e in omega arith)
      | false ↦ λ e. tied.held a j (subst (λ m. IsSome m)
          (r.holds a j ∙ ap (λ t. cond t (turn a (held_among old a j)) (held_among old a j)) e) some)
    ] refl;
    indices = λ k within. r.indices k ∙ tied.indices k within;
  }

  pub reheld_holds : (hold held : Addr → Option Mode) → Holds before id hold →
      ((b : Addr) → turn b (hold b) ≡ held b)
      → Holds after id held
  reheld_holds hold held h turned = record {
    exactly = λ b. reheld_own b ∙ ap (turn b) (h.exactly b) ∙ turned b;
    known = h.known;
  }
