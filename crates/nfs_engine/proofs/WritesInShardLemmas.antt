-- The writes of a call in one shard, one after the other.
use Rattle.std.proofs.Common.{◌≡◌, ◌≢◌, ℕ, zero, suc, ◌<◌, ◌≤◌, ◌+◌, ◌==◌, ◌&&◌, Bool, true, false, cond, List, [], ◌∷◌}
use Rattle.std.proofs.Common.{◌++◌, get_or, set, length, map, take, drop, Option, Some, None, IsSome, is_some}
use Rattle.std.proofs.Common.{option_map}
use Rattle.std.proofs.Common.{refl, sym, ◌∙◌, ap, subst, arith}
use Rattle.std.specs.Arc.{arc_value}
use Rattle.std.specs.Cmp.{unsigned_Decides}
use Rattle.std.specs.List.{AllByRecursion}
use Rattle.std.specs.declared.alloc.Global.{Global}
use Rattle.std.specs.declared.sync.Arc.{Arc}
use Rattle.std.proofs.lemmas.List.{drop-set, drop_all, drop_more, get_or-set_same, length-map, length-set, map-append}
use Rattle.std.proofs.lemmas.List.{map-set, take_all, take_more, take_more_set}
use Rattle.nfs_objects.proofs.SeenLemmas.{is_addr-same}
use Rattle.nfs_objects.specs.Values.{Seen, is_addr, seen_at, write_value, written_at}
use Rattle.nfs_objects.specs.declared.address.Addr.{Addr}
use Rattle.nfs_objects.specs.declared.change.Write.{Write}
use Rattle.nfs_objects.specs.declared.object.Object.{Object}
use Rattle.nfs_engine.specs.Settling.{AreHeldIn, HoldsWritten, Makes, Settles, spent_in}
use Rattle.nfs_engine.specs.Shards.{Fills, IsHeld, ShardValue, hold_at, shard_of, slot_at}
use Rattle.nfs_engine.specs.Taking.{LetsGo}

abbrev pub Writes : Type 0
Writes = List (Addr × Option Object)

-- what an address has, in the shard of this index and elsewhere
abbrev placed : ℕ → Addr → (inside outside : Option (Option Object)) → Option (Option Object)
placed which b inside outside = cond (shard_of b == which) inside outside

-- the writes up to a place are made, and the others are as they were
pub record MakingIn (initial now : ShardValue) (which : ℕ) (all left : Writes) (place : ℕ) : Type 0 where
  pub objects : (b : Addr) →
      placed which b (written_at (Some (slot_at now b).object) (drop place all) b) (Some (slot_at now b).object) ≡
      placed which b (written_at (Some (slot_at initial b).object) all b) (Some (slot_at initial b).object)
  pub holds : (b : Addr) (j : ℕ) → hold_at now b j ≡ hold_at initial b j
  pub next_generation : now.next_generation ≡ initial.next_generation
  pub index : now.index ≡ initial.index
  pub same : length left ≡ length all
  pub front : take place left ≡ map (spent_in which) (take place all)
  pub back : drop place left ≡ drop place all
  pub held : AreHeldIn initial which (drop place all)

pub making_none : (s : ShardValue) (which : ℕ) (all : Writes) → AreHeldIn s which all → MakingIn s s which all all 0
making_none s which all held = record {
  objects = λ b. refl;
  holds = λ b j. refl;
  next_generation = refl;
  index = refl;
  same = refl;
  front = refl;
  back = refl;
  held = held;
}

-- an address in another shard is not written there
apart_addr : (a b : Addr) (which : ℕ) → shard_of a ≢ which → (shard_of b == which) ≡ true → is_addr a b ≡ false
apart_addr a b which apart here = elim (is_addr a b) as (λ t. is_addr a b ≡ t → t ≡ false) [
  | true ↦ λ same. absurd (apart (ap shard_of (is_addr-same a b same) ∙ (unsigned_Decides (shard_of b) which).0 here))
  | false ↦ λ other. refl
] refl

module _ (initial now : ShardValue) (which : ℕ) (all left : Writes) (i : ℕ) (m : MakingIn initial now which all left i)
    (w d : Addr × Option Object) (within : i < length left) (is : get_or left i d ≡ w) where
  -- it is the next one of all
  next : drop i all ≡ w ∷ drop (i + 1) all
  next = let a : i < length all = (let same = m.same in omega arith) in
      drop_more all i w a ∙ ap (λ (v : Addr × Option Object). v ∷ drop (i + 1) all) (sym there)
    where
      heads : (v x : Addr × Option Object) (vs xs : Writes) → v ∷ vs ≡ x ∷ xs → v ≡ x
      heads v x vs xs e = cc

      there : w ≡ get_or all i w
      there = let a : i < length all = (let same = m.same in omega arith) in sym is ∙
          heads (get_or left i d) (get_or all i w) (drop (i + 1) left) (drop (i + 1) all)
          (sym (drop_more left i d within) ∙ m.back ∙ drop_more all i w a)

  tails : (v x : Addr × Option Object) (vs xs : Writes) → v ∷ vs ≡ x ∷ xs → vs ≡ xs
  tails v x vs xs e = cc

  rest : drop (i + 1) left ≡ drop (i + 1) all
  rest = tails (get_or left i d) w (drop (i + 1) left) (drop (i + 1) all)
      (sym (drop_more left i d within) ∙ m.back ∙ next)

  held_all : AreHeldIn initial which (w ∷ drop (i + 1) all)
  held_all = subst (λ (ws : Writes). AreHeldIn initial which ws) next m.held

  pub next_held : shard_of w.0 ≡ which → IsHeld now w.0
  next_held here = let h = held_all.0 here in record {
    holder = h.holder;
    holds = subst (λ x. IsSome x) (sym (m.holds w.0 h.holder)) h.holds;
  }

  -- what the front becomes
  front_more : (v : Addr × Option Object) → v ≡ spent_in which w →
      take i left ++ v ∷ [] ≡ map (spent_in which) (take (i + 1) all)
  front_more v spent = ap (λ (ws : Writes). ws ++ v ∷ []) m.front
      ∙ ap (λ (x : Addr × Option Object). map (spent_in which) (take i all) ++ x ∷ []) spent
      ∙ sym (map-append (spent_in which) (take i all) (w ∷ []))
      ∙ ap (map (spent_in which)) (sym taken)
    where
      taken : take (i + 1) all ≡ take i all ++ w ∷ []
      taken = let a : i < length all = (let same = m.same in omega arith) in
          take_more all i w a ∙ ap (λ (x : Addr × Option Object). take i all ++ x ∷ []) (there a)
        where
          heads : (v x : Addr × Option Object) (vs xs : Writes) → v ∷ vs ≡ x ∷ xs → v ≡ x
          heads v x vs xs e = cc

          there : i < length all → get_or all i w ≡ w
          there a = heads (get_or all i w) w (drop (i + 1) all) (drop (i + 1) all) (sym (drop_more all i w a) ∙ next)

  -- a write in another shard stays
  pub making_other : shard_of w.0 ≢ which → MakingIn initial now which all left (i + 1)
  making_other apart = record {
    objects = λ b. elim (shard_of b == which) as (λ t. (shard_of b == which) ≡ t →
        cond t (written_at (Some (slot_at now b).object) (drop (i + 1) all) b) (Some (slot_at now b).object) ≡
        cond t (written_at (Some (slot_at now b).object) (drop i all) b) (Some (slot_at now b).object)) [
          | true ↦ λ here. sym (ap (λ (ws : Writes). written_at (Some (slot_at now b).object) ws b) next
              ∙ ap (λ t. written_at (cond t (Some w.1) (Some (slot_at now b).object)) (drop (i + 1) all) b)
              (apart_addr w.0 b which apart here))
          | false ↦ λ there. refl
        ] refl ∙ m.objects b;
    holds = m.holds;
    next_generation = m.next_generation;
    index = m.index;
    same = m.same;
    front = take_more left i d within
        ∙ ap (λ (x : Addr × Option Object). take i left ++ x ∷ []) is ∙ front_more w unspent;
    back = rest;
    held = held_all.1;
  }
    where
      unspent : w ≡ spent_in which w
      unspent = elim (shard_of w.0 == which) as (λ t. (shard_of w.0 == which) ≡ t → w ≡ (w.0, cond t None w.1)) [
        | true ↦ λ here. absurd (apart ((unsigned_Decides (shard_of w.0) which).0 here))
        | false ↦ λ there. refl
      ] refl

  -- and one in this shard is made
  pub making_one : (new : ShardValue) → shard_of w.0 ≡ which → Fills now new w.0 w.1 →
      MakingIn initial new which all (set left i (w.0, None)) (i + 1)
  making_one new here f = record {
    objects = λ b. elim (shard_of b == which) as (λ t. (shard_of b == which) ≡ t →
        cond t (written_at (Some (slot_at new b).object) (drop (i + 1) all) b) (Some (slot_at new b).object) ≡
        cond t (written_at (Some (slot_at now b).object) (drop i all) b) (Some (slot_at now b).object)) [
          | true ↦ λ inside. ap (λ (o : Option Object). written_at (Some o) (drop (i + 1) all) b) (f.objects b)
              ∙ ap (λ x. written_at x (drop (i + 1) all) b) (filled (is_addr w.0 b) (slot_at now b).object)
              ∙ sym (ap (λ (ws : Writes). written_at (Some (slot_at now b).object) ws b) next)
          | false ↦ λ outside. ap (λ (o : Option Object). Some o) (f.objects b
              ∙ ap (λ t. cond t w.1 (slot_at now b).object) (not_here b outside))
        ] refl ∙ m.objects b;
    holds = λ b j. f.holds b j ∙ m.holds b j;
    next_generation = f.next_generation ∙ m.next_generation;
    index = f.index ∙ m.index;
    same = length-set left i (w.0, None) ∙ m.same;
    front = take_more_set left i (w.0, None) within ∙ front_more (w.0, None) spent;
    back = tails (w.0, None) (w.0, None) (drop (i + 1) (set left i (w.0, None))) (drop (i + 1) left) behind ∙ rest;
    held = held_all.1;
  }
    where
      filled : (t : Bool) (o : Option Object) → Some (cond t w.1 o) ≡ cond t (Some w.1) (Some o)
      filled t o = elim t as (λ t. Some (cond t w.1 o) ≡ cond t (Some w.1) (Some o)) [ true ↦ refl | false ↦ refl ]

      not_here : (b : Addr) → (shard_of b == which) ≡ false → is_addr w.0 b ≡ false
      not_here b outside = elim (is_addr w.0 b) as (λ t. is_addr w.0 b ≡ t → t ≡ false) [
        | true ↦ λ same. (let both : (shard_of b == which) ≡ true = (unsigned_Decides (shard_of b) which).1
            (ap shard_of (sym (is_addr-same w.0 b same)) ∙ here) in let no : true ≡ false = sym both ∙ outside in cc)
        | false ↦ λ other. refl
      ] refl

      spent : (w.0, None) ≡ spent_in which w
      spent = ap (λ t. (w.0, cond t None w.1)) (sym ((unsigned_Decides (shard_of w.0) which).1 here))

      behind : (w.0, None) ∷ drop (i + 1) (set left i (w.0, None)) ≡ (w.0, None) ∷ drop (i + 1) left
      behind = let longer : i < length (set left i (w.0, None)) =
          (let same = length-set left i (w.0, None) in omega arith) in
          ap (λ (x : Addr × Option Object). x ∷ drop (i + 1) (set left i (w.0, None)))
          (sym (get_or-set_same left i (w.0, None) w within))
          ∙ sym (drop_more (set left i (w.0, None)) i w longer) ∙ drop-set left i (w.0, None) within

module _ (initial now : ShardValue) (which : ℕ) (all left : Writes) (i : ℕ) (m : MakingIn initial now which all left i)
    (over : length all ≤ i) where
  none_left : (b : Addr) (x : Option (Option Object)) → written_at x (drop i all) b ≡ x
  none_left b x = ap (λ (ws : Writes). written_at x ws b) (drop_all i all over)

  pub making_all : Makes initial now which all
  making_all = record {
    objects = λ b. sym (elim (shard_of b == which) as (λ t.
        cond t (written_at (Some (slot_at now b).object) (drop i all) b) (Some (slot_at now b).object) ≡
        Some (slot_at now b).object) [
          | true ↦ none_left b (Some (slot_at now b).object)
          | false ↦ refl
        ]) ∙ m.objects b;
    holds = m.holds;
    next_generation = m.next_generation;
    index = m.index;
  }

  pub all_spent : left ≡ map (spent_in which) all
  all_spent = sym (take_all i left (let same = m.same in omega arith)) ∙ m.front
      ∙ ap (map (spent_in which)) (take_all i all over)

-- the writes are made, and what was read is let go
pub settles : (old mid new : ShardValue) (which id : ℕ) (es : List Seen) (ws : Writes) → Makes old mid which ws →
    LetsGo mid new which id es → Settles old new which id es ws
settles old mid new which id es ws made gone = record {
  objects = λ b. ap (λ (o : Option Object). Some o) (gone.objects b) ∙ made.objects b;
  holds = λ b j. gone.holds b j ∙ ap (λ m. cond ((shard_of b == which) && is_some (seen_at es b))
      (cond (id == j) None m) m) (made.holds b j);
  next_generation = gone.next_generation ∙ made.next_generation;
  index = gone.index ∙ made.index;
}

-- ---- writes as values of the program
pub over_values : (P : Addr × Option Object → Type 0) (ws : List Write) →
    AllByRecursion (λ (w : Write). P (write_value w)) ws → AllByRecursion P (map write_value ws)
over_values P [] all = tt
over_values P (w ∷ ws) all = (all.0, over_values P ws all.1)

pub under_values : (P : Addr × Option Object → Type 0) (ws : List Write) → AllByRecursion P (map write_value ws) →
    AllByRecursion (λ (w : Write). P (write_value w)) ws
under_values P [] all = tt
under_values P (w ∷ ws) all = (all.0, under_values P ws all.1)

-- what is at a place, whatever stands for what is not
one_default : (ws : List Write) (i : ℕ) (d e : Write) → i < length ws → get_or ws i d ≡ get_or ws i e
one_default [] i d e within = absurd (omega arith)
one_default (w ∷ ws) zero d e within = refl
one_default (w ∷ ws) (suc i) d e within = one_default ws i d e (omega arith)

mapped : (ws : List Write) (i : ℕ) (d : Write) →
    get_or (map write_value ws) i (write_value d) ≡ write_value (get_or ws i d)
mapped [] i d = refl
mapped (w ∷ ws) zero d = refl
mapped (w ∷ ws) (suc i) d = mapped ws i d

module _ (initial now : ShardValue) (which : ℕ) (all : Writes) (ws : List Write) (i : ℕ)
    (m : MakingIn initial now which all (map write_value ws) i) (d : Write) (within : i < length ws) where
  there_too : i < length (map write_value ws)
  there_too = let same = length-map ws write_value in omega arith

  pub value_held : shard_of (get_or ws i d).address ≡ which → IsHeld now (get_or ws i d).address
  value_held here = next_held initial now which all (map write_value ws) i m (write_value (get_or ws i d))
      (write_value d) there_too (mapped ws i d) here

  pub value_other : shard_of (get_or ws i d).address ≢ which →
      MakingIn initial now which all (map write_value ws) (i + 1)
  value_other apart = making_other initial now which all (map write_value ws) i m (write_value (get_or ws i d))
      (write_value d) there_too (mapped ws i d) apart

  pub value_one : (new : ShardValue) (e : Write) (taken left : Option (Arc Object Global)) →
      shard_of (get_or ws i d).address ≡ which → taken ≡ (get_or ws i e).object → left ≡ None →
      Fills now new (get_or ws i d).address (option_map arc_value taken) →
      MakingIn initial new which all
      (map write_value (set ws i (record { address = (get_or ws i e).address; object = left }))) (i + 1)
  value_one new e taken left here is none fills =
      subst (λ (xs : Writes). MakingIn initial new which all xs (i + 1))
      (sym (map-set write_value ws i w ∙ ap (set (map write_value ws) i) value))
      (making_one initial now which all (map write_value ws) i m (write_value (get_or ws i d)) (write_value d)
      there_too (mapped ws i d) new here
      (subst (λ (o : Option Object). Fills now new (get_or ws i d).address o)
      (ap (option_map arc_value) (is ∙ ap (λ (x : Write). x.object) (one_default ws i e d within))) fills))
    where
      w : Write
      w = record { address = (get_or ws i e).address; object = left }

      value : write_value w ≡ ((get_or ws i d).address, None)
      value = λ j. (
        (one_default ws i e d within j).address,
        option_map arc_value (none j),
      )

-- ---- where writes are
abbrev places : Writes → List Addr
places ws = map (λ (w : Addr × Option Object). w.0) ws

-- a call that holds what it writes in a shard may make there what is at the same addresses
pub held_by_test : (s : ShardValue) (id : ℕ) (ws vs : Writes) → places ws ≡ places vs →
    AllByRecursion (HoldsWritten s id) vs → AreHeldIn s s.index ws
held_by_test s id [] vs same all = tt
held_by_test s id (w ∷ ws) [] same all = cc
held_by_test s id (w ∷ ws) (v ∷ vs) same all = (
  λ here. record {
    holder = id;
    holds = subst (λ a. IsSome (hold_at s a id)) (sym first) (all.0 (ap shard_of (sym first) ∙ here));
  },
  held_by_test s id ws vs rest all.1,
)
  where
    first : w.0 ≡ v.0
    first = (let both : w.0 ∷ places ws ≡ v.0 ∷ places vs = same in cc)

    rest : places ws ≡ places vs
    rest = (let both : w.0 ∷ places ws ≡ v.0 ∷ places vs = same in cc)

-- what is spent keeps its address
pub spent_places : (which : ℕ) (ws : Writes) → places (map (spent_in which) ws) ≡ places ws
spent_places which [] = refl
spent_places which (w ∷ ws) = ap (λ (rest : List Addr). w.0 ∷ rest) (spent_places which ws)
