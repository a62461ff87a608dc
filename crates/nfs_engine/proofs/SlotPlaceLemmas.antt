-- A slot of a shard that changed, in the slab or in the map.
use Rattle.std.proofs.Common.{◌≡◌, ◌≢◌, ℕ, ◌<◌, ◌==◌, true, false, cond, List}
use Rattle.std.proofs.Common.{map, get_or, Option, Some, None, IsSome, option_map, refl, sym}
use Rattle.std.proofs.Common.{◌∙◌, ap, subst, arith}
use Rattle.std.proofs.Math.ListN.{get_or-map}
use Rattle.std.proofs.lemmas.Bool.Decides.{nat_tests}
use Rattle.std.specs.Option.{option_and_then, option_or}
use Rattle.slab.specs.Slab.{Slab, Updates, get}
use Rattle.nfs_objects.specs.declared.address.Addr.{Addr}
use Rattle.nfs_objects.specs.declared.address.Addr.TheVariants.{Exports, Inode, Map, Block, Page, Part, Mounts, Usage}
use Rattle.nfs_objects.specs.Values.{is_addr}
use Rattle.nfs_engine.specs.Found.{Changes, found}
use Rattle.nfs_engine.specs.Numbers.{IsApart}
use Rattle.nfs_engine.specs.Shards.{ShardValue, SlotValue, key_in, number_at, numbered, shard_value}
use Rattle.nfs_engine.specs.Shards.{slot_of, slot_value, slots_seen}
use Rattle.nfs_engine.specs.declared.slot.Slot.{Slot}
use Rattle.nfs_engine.proofs.NumberKeyLemmas.{is_addr-same, key_there, number_there}
use Rattle.nfs_objects.specs.declared.address.Addr.TheVariants.{Locks}

-- the slot of one address is this now, and nothing else changed
pub record Becomes (old new : ShardValue) (a : Addr) (o : Option SlotValue) : Type 0 where
  pub slots : Changes (slot_of old) (slot_of new) a o
  pub apart : IsApart new
  pub index : new.index ≡ old.index
  pub next : new.next_generation ≡ old.next_generation

abbrev pub at_key : List (Option Slot) → ℕ → Option SlotValue
at_key ns k = get_or (map (option_map slot_value) ns) k None

-- a key of the slab was changed, and no other
pub keys_changed : (m n : Slab Slot) (key : ℕ) (o : Option Slot) → Updates m n key o → (k : ℕ)
    → at_key n.slots k ≡ cond (key == k) (option_map slot_value o) (at_key m.slots k)
keys_changed m n key o updates k =
    get_or-map (option_map slot_value) n.slots k None
    ∙ elim (key == k) as
    (λ b. (key == k) ≡ b → option_map slot_value (get n k) ≡ cond b (option_map slot_value o)
    (at_key m.slots k)) [
      | true ↦ λ same. (let is : key ≡ k = grind (arith, nat_tests) in
          ap (λ j. option_map slot_value (get n j)) (sym is) ∙ ap (option_map slot_value) updates.changed)
      | false ↦ λ apart. (let other : k ≢ key = (λ is. differ key k apart is) in
          ap (option_map slot_value) (updates.others k other)
          ∙ sym (get_or-map (option_map slot_value) m.slots k None))
    ] refl
  where
    differ : (key k : ℕ) → (key == k) ≡ false → k ≡ key → ⊥
    differ key k apart is = grind (arith, nat_tests)

module _ (index next : ℕ) (small : index < 16) (m n : Slab Slot) (es : List (Addr × Slot)) (key : ℕ)
    (o : Option Slot) (updates : Updates m n key o) where
  abbrev old : ShardValue
  old = shard_value index m.slots es next

  abbrev new : ShardValue
  new = shard_value index n.slots es next

  -- the slot in the slab of an address
  pub numbered_changed : (b : Addr) → numbered new b ≡ cond (is_addr (Inode (number_at index key)) b)
      (option_map slot_value o) (numbered old b)
  numbered_changed Exports = refl
  numbered_changed (Inode p) =
      elim (number_at index key == p) as
      (λ t. (number_at index key == p) ≡ t → numbered new (Inode p) ≡ cond t (option_map slot_value o)
      (numbered old (Inode p))) [
        | true ↦ λ same. (let is : number_at index key ≡ p = grind (arith, nat_tests) in
            let at : key_in index (Inode p) ≡ Some key = ap (λ q. key_in index (Inode q)) (sym is)
            ∙ key_there index key small in
            ap (option_and_then (at_key n.slots)) at ∙ keys_changed m n key o updates key ∙ here key
            (option_map slot_value o) (at_key m.slots key))
        | false ↦ λ apart. by_key apart (key_in index (Inode p)) refl
      ] refl
    where
      here : (k : ℕ) (x y : Option SlotValue) → cond (k == k) x y ≡ x
      here k x y = (let same : (k == k) ≡ true = grind (arith, nat_tests) in ap (λ b. cond b x y) same)

      contrary : (x y : ℕ) → (x == y) ≡ false → x ≡ y → ⊥
      contrary x y apart is = grind (arith, nat_tests)

      other_key : (index key k p : ℕ) → (number_at index key == p) ≡ false → p ≡ number_at index k
          → (key == k) ≡ false
      other_key index key k p apart is =
          elim (key == k) as (λ b. (key == k) ≡ b → b ≡ false) [
            | true ↦ λ same. (let one : key ≡ k = grind (arith, nat_tests) in
                let both : number_at index key ≡ p = omega (arith, one, is) in absurd
                (contrary (number_at index key) p apart both))
            | false ↦ λ e. refl
          ] refl

      by_key : (number_at index key == p) ≡ false → (k : Option ℕ) → key_in index (Inode p) ≡ k
          → numbered new (Inode p) ≡ numbered old (Inode p)
      by_key apart None at = ap (option_and_then (at_key n.slots)) at ∙ sym (ap (option_and_then (at_key m.slots)) at)
      by_key apart (Some k) at =
          (let is : p ≡ number_at index k = number_there index p k at in
          let other : (key == k) ≡ false = other_key index key k p apart is in
          ap (option_and_then (at_key n.slots)) at ∙ keys_changed m n key o updates k
          ∙ ap (λ b. cond b (option_map slot_value o) (at_key m.slots k)) other
          ∙ sym (ap (option_and_then (at_key m.slots)) at))
  numbered_changed (Map m page) = refl
  numbered_changed (Block m i) = refl
  numbered_changed (Page m page) = refl
  numbered_changed (Part m bucket part) = refl
  numbered_changed Mounts = refl
  numbered_changed (Usage e g) = refl
  numbered_changed (Locks b) = refl

  -- a slot of the slab changed, of an address that has none in the map
  pub number_becomes : found (slots_seen es) (Inode (number_at index key)) ≡ None → IsApart old → Becomes old new
      (Inode (number_at index key)) (option_map slot_value o)
  number_becomes free apart = record {
    slots = λ b. ap (λ x. option_or x (found (slots_seen es) b)) (numbered_changed b)
        ∙ elim (is_addr (Inode (number_at index key)) b) as (λ t. is_addr (Inode (number_at index key)) b ≡ t →
        option_or (cond t (option_map slot_value o) (numbered old b)) (found (slots_seen es) b) ≡ cond t
        (option_map slot_value o) (slot_of old b)) [
          | true ↦ λ same. ap (option_or (option_map slot_value o))
              (ap (found (slots_seen es)) (sym (is_addr-same _ b same)) ∙ free) ∙ alone (option_map slot_value o)
          | false ↦ λ other. refl
        ] refl;
    apart = λ b some.
        (elim (is_addr (Inode (number_at index key)) b) as (λ t. is_addr (Inode (number_at index key)) b ≡ t →
        IsSome (cond t (option_map slot_value o) (numbered old b)) → found (slots_seen es) b ≡ None) [
          | true ↦ λ same is. ap (found (slots_seen es)) (sym (is_addr-same _ b same)) ∙ free
          | false ↦ λ other is. apart b is
        ] refl (subst (λ x. IsSome x) (numbered_changed b) some));
    index = refl;
    next = refl;
  }
    where
      alone : (x : Option SlotValue) → option_or x None ≡ x
      alone None = refl
      alone (Some v) = refl

module _ (index next : ℕ) (ns : List (Option Slot)) (es fs : List (Addr × Slot)) (a : Addr)
    (o : Option SlotValue) where
  abbrev before : ShardValue
  before = shard_value index ns es next

  abbrev after : ShardValue
  after = shard_value index ns fs next

  no_some : (x : Option SlotValue) → x ≡ None → IsSome x → ⊥
  no_some None e s = cc
  no_some (Some v) e s = cc

  -- a slot of the map changed, of an address that has none in the slab
  pub other_becomes : Changes (found (slots_seen es)) (found (slots_seen fs)) a o → numbered before a ≡ None
      → IsApart before → Becomes before after a o
  other_becomes changes none apart = record {
    slots = λ b. ap (option_or (numbered before b)) (changes b)
        ∙ elim (is_addr a b) as
        (λ t. is_addr a b ≡ t → option_or (numbered before b) (cond t o (found (slots_seen es) b)) ≡ cond t o
        (slot_of before b)) [
          | true ↦ λ same. ap (λ x. option_or x o) (ap (numbered before) (sym (is_addr-same a b same)) ∙ none)
          | false ↦ λ other. refl
        ] refl;
    apart = λ b some. changes b ∙ elim (is_addr a b) as
        (λ t. is_addr a b ≡ t → cond t o (found (slots_seen es) b) ≡ None) [
          | true ↦ λ same. absurd
              (no_some (numbered before b) (ap (numbered before) (sym (is_addr-same a b same)) ∙ none) some)
          | false ↦ λ other. apart b some
        ] refl;
    index = refl;
    next = refl;
  }
