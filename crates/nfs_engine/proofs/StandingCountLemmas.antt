-- At how many addresses something stands, where a write is made at one.
use Rattle.std.proofs.Common.{◌≡◌, ℕ, suc, ◌+◌, ◌-◌, ◌^◌, ◌<◌, ◌≤◌, Bool, true, false, cond, min, List, [], ◌∷◌}
use Rattle.std.proofs.Common.{length, map, ◌&&◌, ◌||◌, not, Option, Some, None, is_some, unwrap_or}
use Rattle.std.proofs.Common.{refl, sym, ◌∙◌, ap, subst, arith}
use Rattle.std.proofs.Common.{Bor, option_copied, option_map}
use Rattle.std.specs.Bool.{Decides}
use Rattle.std.specs.Cmp.{IsEquivalence, decided}
use Rattle.std.specs.List.{AllByRecursion, IsDistinct, filter}
use Rattle.std.specs.Set.{is_member}
use Rattle.std.proofs.lemmas.Map.Made.{is_member-filter, length-from_same_keys, length-le_from_is_member}
use Rattle.nfs_objects.proofs.SeenLemmas.{is_addr-refl, is_addr-same}
use Rattle.nfs_objects.specs.Store.{Store, with_write}
use Rattle.nfs_objects.specs.Values.{is_addr}
use Rattle.nfs_objects.specs.declared.address.Addr.{Addr}
use Rattle.nfs_objects.specs.declared.object.Object.{Object}
use Rattle.nfs_engine.specs.Found.{found}
use Rattle.nfs_engine.specs.Standing.{HasObjects, count_after}
use Rattle.nfs_engine.specs.Tables.{KeptValue, empty_kept, kept_at, store_of}

addresses-decide : (a b : Addr) → Decides (is_addr a b) (a ≡ b)
addresses-decide a b = (is_addr-same a b, λ same. subst (λ c. is_addr a c ≡ true) same (is_addr-refl a))

laws : IsEquivalence is_addr
laws = decided is_addr addresses-decide

-- ---- lists of addresses
-- an address that is none of them is apart from each
apart : (a : Addr) (rest : List Addr) → is_member is_addr rest a ≡ false
    → AllByRecursion (λ b. is_addr a b ≡ false) rest
apart a [] none = tt
apart a (b ∷ rest) none = elim (is_addr a b) as (λ t. is_addr a b ≡ t → (t || is_member is_addr rest a) ≡ false →
    AllByRecursion (λ c. is_addr a c ≡ false) (b ∷ rest)) [
      | true ↦ λ is no. cc
      | false ↦ λ is no. (is, apart a rest no)
    ] refl none

-- what a test leaves of addresses that stand once
all-left : (P : Addr → Type 0) (test : Addr → Bool) (rest : List Addr) → AllByRecursion P rest →
    AllByRecursion P (filter test rest)
all-left P test [] all = tt
all-left P test (a ∷ rest) all =
    elim (test a) as (λ t. AllByRecursion P (cond t (a ∷ filter test rest) (filter test rest))) [
      | true ↦ (all.0, all-left P test rest all.1)
      | false ↦ all-left P test rest all.1
    ]

once-left : (test : Addr → Bool) (rest : List Addr) → IsDistinct is_addr rest → IsDistinct is_addr (filter test rest)
unfolding IsDistinct
once-left test [] once = tt
once-left test (a ∷ rest) once =
    elim (test a) as (λ t. IsDistinct is_addr (cond t (a ∷ filter test rest) (filter test rest))) [
      | true ↦ (all-left (λ b. is_addr a b ≡ false) test rest once.0, once-left test rest once.1)
      | false ↦ once-left test rest once.1
    ]

and-false : (t : Bool) → (t && false) ≡ false
and-false true = refl
and-false false = refl

and-true : (t : Bool) → (t && true) ≡ t
and-true true = refl
and-true false = refl

-- ---- a write at an address
module _ (s : Store) (a : Addr) (o : Option Object) (count : ℕ) (has : HasObjects s count) where
  changed : (b : Addr) → is_some ((with_write s a o).at b) ≡ cond (is_addr b a) (is_some o) (is_some (s.at b))
  changed b = ap (λ t. is_some (cond t o (s.at b))) (laws.symm a b)
      ∙ elim (is_addr b a) as (λ t. is_some (cond t o (s.at b)) ≡ cond t (is_some o) (is_some (s.at b)))
      [ true ↦ refl | false ↦ refl ]

  there : (b : Addr) → is_addr b a ≡ true → is_some (s.at b) ≡ is_some (s.at a)
  there b same = ap (λ c. is_some (s.at c)) (is_addr-same b a same)

  -- something stood there, or not, and does so still
  as-before : is_some (s.at a) ≡ is_some o → HasObjects (with_write s a o) count
  as-before is = record {
    addresses = has.addresses;
    once = has.once;
    which = λ b. has.which b ∙ by b (is_addr b a) refl ∙ sym (changed b);
    count_is = has.count_is;
  }
    where
      by : (b : Addr) (t : Bool) → is_addr b a ≡ t → is_some (s.at b) ≡ cond t (is_some o) (is_some (s.at b))
      by b true same = there b same ∙ is
      by b false other = refl

  -- it stands there now
  one-more : is_some (s.at a) ≡ false → is_some o ≡ true → HasObjects (with_write s a o) (count + 1)
  unfolding IsDistinct
  one-more was is = record {
    addresses = a ∷ has.addresses;
    once = (apart a has.addresses (has.which a ∙ was), has.once);
    which = λ b. ap (λ t. is_addr b a || t) (has.which b) ∙ by b (is_addr b a) ∙ sym (changed b);
    count_is = (let e = has.count_is in omega arith);
  }
    where
      by : (b : Addr) (t : Bool) → (t || is_some (s.at b)) ≡ cond t (is_some o) (is_some (s.at b))
      by b true = sym is
      by b false = refl

  -- it stands there no more
  abbrev left : List Addr
  left = filter (λ b. not (is_addr b a)) has.addresses

  among-left : (b : Addr) → is_member is_addr left b ≡ (is_member is_addr has.addresses b && not (is_addr b a))
  among-left b =
      is_member-filter laws (λ c. not (is_addr c a)) b (λ c same. ap not (laws.congr b c a same)) has.addresses

  one-fewer : is_some (s.at a) ≡ true → is_some o ≡ false → HasObjects (with_write s a o) (count - 1)
  unfolding IsDistinct
  one-fewer was is = record {
    addresses = left;
    once = once-left (λ b. not (is_addr b a)) has.addresses has.once;
    which = λ b. among-left b ∙ ap (λ t. t && not (is_addr b a)) (has.which b) ∙ by b (is_addr b a) ∙ sym (changed b);
    count_is = (let e = has.count_is in let f = whole in omega arith);
  }
    where
      by : (b : Addr) (t : Bool) → (is_some (s.at b) && not t) ≡ cond t (is_some o) (is_some (s.at b))
      by b true = and-false (is_some (s.at b)) ∙ sym is
      by b false = and-true (is_some (s.at b))

      gone : is_member is_addr left a ≡ false
      gone = among-left a ∙ ap (λ t. is_member is_addr has.addresses a && not t) (laws.refl a)
          ∙ and-false (is_member is_addr has.addresses a)

      each : (b : Addr) (t : Bool) → is_addr b a ≡ t →
          (t || (is_member is_addr has.addresses b && not t)) ≡ is_member is_addr has.addresses b
      each b true same = sym (has.which b ∙ there b same ∙ was)
      each b false other = and-true (is_member is_addr has.addresses b)

      once : IsDistinct is_addr (a ∷ left)
      once = (apart a left gone, once-left (λ b. not (is_addr b a)) has.addresses has.once)

      whole : suc (length left) ≡ length has.addresses
      whole = length-from_same_keys laws (a ∷ left) has.addresses once has.once
          (λ b. ap (λ t. is_addr b a || t) (among-left b) ∙ each b (is_addr b a) refl)

  -- so the count is known, where there are not too many
  pub written-count : ((n : ℕ) → HasObjects (with_write s a o) n → n < 2 ^ 64) →
      HasObjects (with_write s a o) (count_after count (is_some (s.at a)) (is_some o))
  written-count few = by (is_some (s.at a)) refl (is_some o) refl
    where
      capped : is_some (s.at a) ≡ false → is_some o ≡ true
          → HasObjects (with_write s a o) (min (count + 1) (2 ^ 64 - 1))
      capped was is = subst (HasObjects (with_write s a o))
          (let below = few (count + 1) (one-more was is) in
          let same : count + 1 ≡ min (count + 1) (2 ^ 64 - 1) = omega arith in same) (one-more was is)

      by : (stood : Bool) → is_some (s.at a) ≡ stood → (stands : Bool) → is_some o ≡ stands →
          HasObjects (with_write s a o) (count_after count stood stands)
      by true was true is = as-before (was ∙ sym is)
      by true was false is = one-fewer was is
      by false was true is = capped was is
      by false was false is = as-before (was ∙ sym is)

-- ---- what is kept
-- what stands somewhere has a slot
slotted : (slots : List (Addr × KeptValue)) (a : Addr) → is_some (kept_at slots a).object ≡ true →
    is_member is_addr (map (λ e. e.0) slots) a ≡ true
slotted [] a stands = cc
slotted (e ∷ slots) a stands =
    elim (is_addr a e.0) as (λ t. is_some (unwrap_or (cond t (Some e.1) (found slots a)) empty_kept).object ≡ true →
    (t || is_member is_addr (map (λ x. x.0) slots) a) ≡ true) [
      | true ↦ λ here. refl
      | false ↦ λ behind. slotted slots a behind
    ] stands

lengths : (slots : List (Addr × KeptValue)) → length (map (λ e. e.0) slots) ≡ length slots
lengths [] = refl
lengths (e ∷ slots) = ap suc (lengths slots)

-- so there are no more objects than slots
pub few-objects : (slots : List (Addr × KeptValue)) (n : ℕ) → HasObjects (store_of slots) n → n ≤ length slots
few-objects slots n has =
    let few = length-le_from_is_member laws has.addresses (map (λ e. e.0) slots) has.once
    (λ a among. slotted slots a (sym (has.which a) ∙ among)) in
    omega (arith, few, has.count_is, lengths slots)

-- with no slot nothing stands anywhere
pub no-objects : HasObjects (store_of []) 0
unfolding IsDistinct
no-objects = record { addresses = []; once = tt; which = λ a. refl; count_is = refl }

-- whether something stands is seen of its reference
is-copied : {A B : Type 0} (f : A → B) (o : Option (Bor A)) → is_some (option_map f (option_copied o)) ≡ is_some o
is-copied f None = refl
is-copied f (Some x) = refl

is-mapped : {A B : Type 0} (f : A → B) (o : Option A) → is_some (option_map f o) ≡ is_some o
is-mapped f None = refl
is-mapped f (Some x) = refl

-- what is put at an address, and how many there are then
pub put-count : (old new : List (Addr × KeptValue)) (a : Addr) (o : Option Object) (before after : ℕ) →
    HasObjects (store_of old) before → store_of new ≡ with_write (store_of old) a o → length new < 2 ^ 64 →
    after ≡ count_after before (is_some ((store_of old).at a)) (is_some o) → HasObjects (store_of new) after
put-count old new a o before after has put short is =
    let few : (n : ℕ) → HasObjects (with_write (store_of old) a o) n → n < 2 ^ 64 = λ n many.
    (let most = few-objects new n (subst (λ (s : Store). HasObjects s n) (sym put) many) in omega
    (arith, most, short)) in
    subst (λ (s : Store). HasObjects s after) (sym put)
    (subst (HasObjects (with_write (store_of old) a o)) (sym is) (written-count (store_of old) a o before has few))

pub found-some : {A B : Type 0} (f : A → B) (o : Option (Bor A)) (there : Option B) (seen : Bool) → seen ≡ is_some o →
    option_map f (option_copied o) ≡ there → seen ≡ is_some there
found-some f o there seen is same = is ∙ sym (is-copied f o) ∙ ap is_some same

pub given-some : {A B : Type 0} (f : A → B) (o : Option A) (seen : Bool) → seen ≡ is_some o →
    seen ≡ is_some (option_map f o)
given-some f o seen is = is ∙ sym (is-mapped f o)
