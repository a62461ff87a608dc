-- The slots of a shard as one list, each address once.
use Rattle.std.proofs.Common.{◌≡◌, ◌≢◌, ℕ, zero, suc, ◌+◌, ◌-◌, ◌^◌, ◌<◌}
use Rattle.std.proofs.Common.{◌==◌, Bool, true, false, cond, List, [], ◌∷◌, ◌++◌, map, get_or, min}
use Rattle.std.proofs.Common.{count_by, Option, Some, None, IsSome, option_map, refl, sym, ◌∙◌, ap, subst, arith}
use Rattle.std.proofs.Math.ListN.{get_or-map}
use Rattle.std.proofs.lemmas.Bool.Decides.{nat_tests}
use Rattle.std.proofs.lemmas.List.Sums.{sum_by-append, sum_by-cons}
use Rattle.std.specs.List.{AllByRecursion, IsDistinct}
use Rattle.std.specs.Option.{option_and_then, option_or}
use Rattle.slab.specs.Slab.{Slab, entries, entries_from}
use Rattle.nfs_objects.specs.declared.address.Addr.{Addr}
use Rattle.nfs_objects.specs.declared.address.Addr.TheVariants.{Inode}
use Rattle.nfs_objects.specs.Values.{is_addr}
use Rattle.nfs_engine.specs.declared.slot.Slot.{Slot}
use Rattle.nfs_engine.specs.Found.{found}
use Rattle.nfs_engine.specs.Locked.{IsLocked, is_held}
use Rattle.nfs_engine.specs.Numbers.{IsApart}
use Rattle.nfs_engine.specs.Shards.{SlotValue, key_in, number_at, numbered, shard_value}
use Rattle.nfs_engine.specs.Shards.{slot_value, slots_seen}
use Rattle.nfs_engine.proofs.NumberKeyLemmas.{address_there, is_addr-same, key_there}
use Rattle.nfs_objects.proofs.SeenLemmas.{is_addr-refl}

abbrev addresses : List (Addr × SlotValue) → List Addr
addresses es = map (λ e. e.0) es

-- what is looked for in two lists
found-append : (es fs : List (Addr × SlotValue)) (a : Addr) → found (es ++ fs) a ≡ option_or (found es a)
    (found fs a)
found-append [] fs a = refl
found-append (e ∷ es) fs a =
    elim (is_addr a e.0) as
    (λ b. cond b (Some e.1) (found (es ++ fs) a) ≡ option_or (cond b (Some e.1) (found es a)) (found fs a)) [
      | true ↦ refl
      | false ↦ found-append es fs a
    ]

-- an address that is not found is none of them
not_among : (es : List (Addr × SlotValue)) (a : Addr) → found es a ≡ None → AllByRecursion
    (λ b. is_addr a b ≡ false) (addresses es)
not_among [] a none = tt
not_among (e ∷ es) a none =
    elim (is_addr a e.0) as
    (λ b. is_addr a e.0 ≡ b → cond b (Some e.1) (found es a) ≡ None → AllByRecursion
    (λ b. is_addr a b ≡ false) (addresses (e ∷ es))) [
      | true ↦ λ same f. cc
      | false ↦ λ other f. (other, not_among es a f)
    ] refl none

-- two lists with no address in common
distinct-append : (es fs : List (Addr × SlotValue)) → IsDistinct is_addr (addresses es) → IsDistinct is_addr
    (addresses fs) → AllByRecursion (λ a. found fs a ≡ None) (addresses es) → IsDistinct is_addr
    (addresses (es ++ fs))
unfolding IsDistinct
distinct-append [] fs d e apart = e
distinct-append (x ∷ es) fs d e apart =
    (appended es (λ b. is_addr x.0 b ≡ false) d.0 (not_among fs x.0 apart.0), distinct-append es fs d.1 e apart.1)
  where
    appended : (gs : List (Addr × SlotValue)) (P : Addr → Type 0) → AllByRecursion P (addresses gs)
        → AllByRecursion P (addresses fs) → AllByRecursion P (addresses (gs ++ fs))
    appended [] P p q = q
    appended (g ∷ gs) P p q = (p.0, appended gs P p.1 q)

counted : {X Y : Type 0} (f : X → Y) (p : Y → Bool) (xs : List X) → count_by p (map f xs) ≡ count_by
    (λ x. p (f x)) xs
counted f p [] = refl
counted f p (x ∷ xs) =
    sum_by-cons (λ y. cond (p y) 1 0) (f x) (map f xs)
    ∙ ap (λ n. cond (p (f x)) 1 0 + n) (counted f p xs)
    ∙ sym (sum_by-cons (λ z. cond (p (f z)) 1 0) x xs)

-- how many are held in two lists, where no count passes the greatest number
pub held-both : (xs ys all : List (Addr × Slot)) (x y r : ℕ) → all ≡ xs ++ ys
    → x ≡ min (count_by (λ e. is_held (slot_value e.1)) xs) (2 ^ 64 - 1)
    → y ≡ min (count_by (λ e. is_held (slot_value e.1)) ys) (2 ^ 64 - 1) → r ≡ min (x + y) (2 ^ 64 - 1)
    → r ≡ min (count_by (λ e. is_held (slot_value e.1)) all) (2 ^ 64 - 1)
held-both xs ys all x y r is e f g =
    both (count_by (λ e. is_held (slot_value e.1)) xs) (count_by (λ e. is_held (slot_value e.1)) ys)
    (count_by (λ e. is_held (slot_value e.1)) all) x y r
    (ap (λ es. count_by (λ (e : Addr × Slot). is_held (slot_value e.1)) es) is
    ∙ sum_by-append (λ (e : Addr × Slot). cond (is_held (slot_value e.1)) 1 0) xs ys) e f g
  where
    both : (a b c x y r : ℕ) → c ≡ a + b → x ≡ min a (2 ^ 64 - 1) → y ≡ min b (2 ^ 64 - 1)
        → r ≡ min (x + y) (2 ^ 64 - 1) → r ≡ min c (2 ^ 64 - 1)
    both a b c x y r is e f g = omega (arith, is, e, f, g)

module _ (index : ℕ) (small : index < 16) where
  -- the slot at a key of the slab, with its address
  abbrev named : ℕ × Slot → Addr × SlotValue
  named e = (Inode (number_at index e.0), slot_value e.1)

  abbrev listed : ℕ → List (Option Slot) → List (Addr × SlotValue)
  listed k ns = map named (entries_from k ns)

  apart_keys : (j k : ℕ) → j ≢ k → is_addr (Inode (number_at index j)) (Inode (number_at index k)) ≡ false
  apart_keys j k differ =
      elim (number_at index j == number_at index k) as
      (λ b. (number_at index j == number_at index k) ≡ b → b ≡ false) [
        | true ↦ λ same.
            (let one : number_at index j ≡ number_at index k = grind (arith, nat_tests) in absurd
            (differ (omega (arith, one))))
        | false ↦ λ other. refl
      ] refl

  -- no lower key
  below : (j k : ℕ) (ns : List (Option Slot)) → j < k → found (listed k ns) (Inode (number_at index j)) ≡ None
  below j k [] less = refl
  below j k (None ∷ ns) less = below j (k + 1) ns (omega (arith, less))
  below j k (Some s ∷ ns) less =
      ap (λ b. cond b (Some (slot_value s)) (found (listed (k + 1) ns) (Inode (number_at index j))))
      (apart_keys j k (λ e. below_not less e))
      ∙ below j (k + 1) ns (omega (arith, less))
    where
      below_not : {j k : ℕ} → j < k → j ≡ k → ⊥
      below_not less e = omega (arith, less, e)

  here : (j k : ℕ) (ns : List (Option Slot)) → found (listed k ns) (Inode (number_at index (k + j)))
      ≡ option_map slot_value (get_or ns j None)
  here j k [] = refl
  here zero k (None ∷ ns) = below (k + 0) (k + 1) ns (omega arith)
  here zero k (Some s ∷ ns) =
      ap (λ b. cond b (Some (slot_value s)) (found (listed (k + 1) ns) (Inode (number_at index (k + 0)))))
      (ap (λ n. is_addr (Inode (number_at index n)) (Inode (number_at index k))) (plain k) ∙ is_addr-refl
      (Inode (number_at index k)))
    where
      plain : (k : ℕ) → k + 0 ≡ k
      plain k = omega arith
  here (suc j) k (None ∷ ns) = ap (λ n. found (listed (k + 1) ns) (Inode (number_at index n))) (shift j k) ∙ here j
      (k + 1) ns
    where
      shift : (j k : ℕ) → k + suc j ≡ k + 1 + j
      shift j k = omega arith
  here (suc j) k (Some s ∷ ns) =
      ap (λ b. cond b (Some (slot_value s)) (found (listed (k + 1) ns) (Inode (number_at index (k + suc j)))))
      (apart_keys (k + suc j) k (more j k))
      ∙ ap (λ n. found (listed (k + 1) ns) (Inode (number_at index n))) (shift j k) ∙ here j (k + 1) ns
    where
      more : (j k : ℕ) → k + suc j ≢ k
      more j k e = omega (arith, e)

      shift : (j k : ℕ) → k + suc j ≡ k + 1 + j
      shift j k = omega arith

  -- an address with no key is none of them
  no_key : (a : Addr) (k : ℕ) (ns : List (Option Slot)) → key_in index a ≡ None → found (listed k ns) a ≡ None
  no_key a k [] none = refl
  no_key a k (None ∷ ns) none = no_key a (k + 1) ns none
  no_key a k (Some s ∷ ns) none =
      elim (is_addr a (Inode (number_at index k))) as
      (λ b. is_addr a (Inode (number_at index k)) ≡ b → cond b (Some (slot_value s)) (found (listed (k + 1) ns) a)
      ≡ None) [
        | true ↦ λ same. absurd
            (keyless (key_in index a) k none
            (ap (key_in index) (is_addr-same a (Inode (number_at index k)) same) ∙ key_there index k small))
        | false ↦ λ other. no_key a (k + 1) ns none
      ] refl
    where
      keyless : (o : Option ℕ) (k : ℕ) → o ≡ None → o ≡ Some k → ⊥
      keyless None k e f = cc
      keyless (Some j) k e f = cc

  -- the list has what the slab has
  listed-numbered : (ns : List (Option Slot)) (es : List (Addr × Slot)) (a : Addr) → found (listed 0 ns) a
      ≡ numbered (shard_value index ns es 0) a
  listed-numbered ns es a = by (key_in index a) refl
    where
      abbrev_at : ℕ → Option SlotValue
      abbrev_at k = get_or (map (option_map slot_value) ns) k None

      by : (k : Option ℕ) → key_in index a ≡ k → found (listed 0 ns) a ≡ numbered
          (shard_value index ns es 0) a
      by None none = no_key a 0 ns none ∙ sym (ap (option_and_then abbrev_at) none)
      by (Some k) at =
          ap (found (listed 0 ns)) (address_there index a k at) ∙ from_zero k
          ∙ sym (get_or-map (option_map slot_value) ns k None) ∙ sym (ap (option_and_then abbrev_at) at)
        where
          zero_plus : (k : ℕ) → k ≡ 0 + k
          zero_plus k = omega arith

          from_zero : (k : ℕ) → found (listed 0 ns) (Inode (number_at index k)) ≡ option_map slot_value
              (get_or ns k None)
          from_zero k = ap (λ n. found (listed 0 ns) (Inode (number_at index n))) (zero_plus k) ∙ here k 0 ns

  listed-distinct : (k : ℕ) (ns : List (Option Slot)) → IsDistinct is_addr (addresses (listed k ns))
  unfolding IsDistinct
  listed-distinct k [] = tt
  listed-distinct k (None ∷ ns) = listed-distinct (k + 1) ns
  listed-distinct k
      (Some s ∷ ns) = (
        not_among (listed (k + 1) ns) (Inode (number_at index k)) (below k (k + 1) ns (omega arith)),
        listed-distinct
            (k + 1) ns,
      )

  -- none of them is in a list that has no slot of the slab
  listed-apart : (es : List (Addr × SlotValue)) (k : ℕ) (ns : List (Option Slot))
      → ((j : ℕ) (s : Slot) → get_or ns j None ≡ Some s → found es (Inode (number_at index (k + j))) ≡ None)
      → AllByRecursion (λ a. found es a ≡ None) (addresses (listed k ns))
  listed-apart es k [] apart = tt
  listed-apart es k (None ∷ ns) apart = listed-apart es (k + 1) ns
      (λ j s e. ap (λ n. found es (Inode (number_at index n))) (shift j k) ∙ apart (suc j) s e)
    where
      shift : (j k : ℕ) → k + 1 + j ≡ k + suc j
      shift j k = omega arith
  listed-apart es k (Some s ∷ ns) apart = (
    ap (λ n. found es (Inode (number_at index n))) (plain k) ∙ apart 0 s refl,
    listed-apart es (k + 1) ns
        (λ j t e. ap (λ n. found es (Inode (number_at index n))) (shift j k) ∙ apart (suc j) t e),
  )
    where
      plain : (k : ℕ) → k ≡ k + 0
      plain k = omega arith

      shift : (j k : ℕ) → k + 1 + j ≡ k + suc j
      shift j k = omega arith

  module _ (next : ℕ) (numbers : Slab Slot) (es : List (Addr × Slot))
      (apart : IsApart (shard_value index numbers.slots es next))
      (once : IsDistinct is_addr (map (λ e. e.0) es)) where
    keys_seen : (gs : List (Addr × Slot)) → map (λ e. e.0) gs ≡ addresses (slots_seen gs)
    keys_seen [] = refl
    keys_seen (g ∷ gs) = ap (λ ks. g.0 ∷ ks) (keys_seen gs)

    in_slab : (j : ℕ) (s : Slot) → get_or numbers.slots j None ≡ Some s → found (slots_seen es)
        (Inode (number_at index (0 + j))) ≡ None
    in_slab j s e =
        apart (Inode (number_at index (0 + j)))
        (subst (λ o. IsSome o)
        (sym (ap (option_and_then (λ k. get_or (map (option_map slot_value) numbers.slots) k None))
        (key_there index (0 + j) small)
        ∙ ap (λ k. get_or (map (option_map slot_value) numbers.slots) k None) (plain j) ∙ get_or-map
        (option_map slot_value) numbers.slots j None ∙ ap (option_map slot_value) e)) refl)
      where
        plain : (j : ℕ) → 0 + j ≡ j
        plain j = omega arith

    sums : (a b x y r : ℕ) → x ≡ min a (2 ^ 64 - 1) → y ≡ min b (2 ^ 64 - 1) → r ≡ min (x + y)
        (2 ^ 64 - 1) → r ≡ min (a + b) (2 ^ 64 - 1)
    sums a b x y r e f g = omega (arith, e, f, g)

    pub locked : (x y r : ℕ) → x ≡ min (count_by (λ e. is_held (slot_value e.1)) (entries numbers)) (2 ^ 64 - 1)
        → y ≡ min (count_by (λ e. is_held (slot_value e.1)) es) (2 ^ 64 - 1) → r ≡ min (x + y) (2 ^ 64 - 1)
        → IsLocked (shard_value index numbers.slots es next) r
    locked x y r e f g = record {
      slots = listed 0 numbers.slots ++ slots_seen es;
      once = distinct-append (listed 0 numbers.slots) (slots_seen es) (listed-distinct 0 numbers.slots)
          (subst (IsDistinct is_addr) (keys_seen es) once) (listed-apart (slots_seen es) 0 numbers.slots in_slab);
      all = λ a. found-append (listed 0 numbers.slots) (slots_seen es) a ∙
          ap (λ o. option_or o (found (slots_seen es) a)) (listed-numbered numbers.slots es a);
      held = sums (count_by (λ e. is_held (slot_value e.1)) (entries numbers))
          (count_by (λ e. is_held (slot_value e.1)) es) x y r e f g
          ∙ sym (ap (λ n. min n (2 ^ 64 - 1))
          (sum_by-append (λ e. cond (is_held e.1) 1 0) (listed 0 numbers.slots) (slots_seen es) ∙
          (λ i. counted named (λ e. is_held e.1) (entries numbers) i + counted {Y = Addr × SlotValue}
          (λ (e : Addr × Slot). (e.0, slot_value e.1)) (λ e. is_held e.1) es i)));
    }
