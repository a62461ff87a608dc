-- What a shard's clauses say of a slot that changed.
use Rattle.std.proofs.Common.{◌≡◌, ◌≢◌, ℕ, ◌<◌, ◌==◌, true, false, cond, Option, Some}
use Rattle.std.proofs.Common.{None, Result, Ok, Err, IsSome, unwrap_or, refl, sym, ◌∙◌, ap, subst}
use Rattle.nfs_objects.specs.declared.address.Addr.{Addr}
use Rattle.nfs_objects.specs.declared.modes.Mode.{Mode}
use Rattle.nfs_objects.specs.declared.object.Object.{Object}
use Rattle.nfs_objects.specs.Values.{is_addr}
use Rattle.nfs_engine.specs.Holders.{HoldersValue, Reholds, hold_of}
use Rattle.nfs_engine.specs.Shards.{Fills, IsHad, IsSlotHad, IsSlotLeft, IsSound, Retakes, SameShard}
use Rattle.nfs_engine.specs.Shards.{ShardValue, SlotValue, empty_slot, hold_at, slot_at, slot_of}
use Rattle.nfs_engine.specs.declared.shard.Had.{Had}
use Rattle.nfs_engine.specs.declared.shard.Had.TheVariants.{Yes, Taken}
use Rattle.nfs_engine.proofs.HolderCountLemmas.{somebody}
use Rattle.nfs_engine.proofs.NumberKeyLemmas.{is_addr-same}
use Rattle.nfs_engine.proofs.SlotPlaceLemmas.{Becomes}

module _ (old new : ShardValue) (a : Addr) (o : Option SlotValue) (turn : Becomes old new a o) where
  abbrev now : SlotValue
  now = unwrap_or o empty_slot

  pub slot_changed : (b : Addr) → slot_at new b ≡ cond (is_addr a b) now (slot_at old b)
  slot_changed b =
      ap (λ (x : Option SlotValue). unwrap_or x empty_slot) (turn.slots b)
      ∙ elim (is_addr a b) as (λ t. unwrap_or (cond t o (slot_of old b)) empty_slot ≡ cond t now (slot_at old b)) [
        | true ↦ refl
        | false ↦ refl
      ]

  -- no slot is left that nothing needs
  pub sound : IsSound old → o ≢ Some empty_slot → IsSound new
  sound was needed = record {
    index = subst (λ k. k < 16) (sym turn.index) was.index;
    apart = turn.apart;
    needed = λ b empty. (elim (is_addr a b) as (λ t. cond t o (slot_of old b) ≡ Some empty_slot → ⊥) [
      | true ↦ λ e. needed e
      | false ↦ λ e. was.needed b e
    ] (sym (turn.slots b) ∙ empty));
  }

  pub retaken : (id : ℕ) (mode : Option Mode) → now.object ≡ (slot_at old a).object
      → Reholds (slot_at old a).holders now.holders id mode → Retakes old new a id mode
  retaken id mode object re = record {
    objects = λ b. ap (λ (s : SlotValue). s.object) (slot_changed b)
        ∙ elim (is_addr a b) as
        (λ t. is_addr a b ≡ t → (cond t now (slot_at old b)).object ≡ (slot_at old b).object) [
          | true ↦ λ e. object ∙ ap (λ c. (slot_at old c).object) (is_addr-same a b e)
          | false ↦ λ e. refl
        ] refl;
    holds = λ b j. ap (λ (s : SlotValue). hold_of s.holders j) (slot_changed b)
        ∙ elim (is_addr a b) as (λ t. is_addr a b ≡ t → hold_of (cond t now (slot_at old b)).holders j
        ≡ cond t (cond (id == j) mode (hold_at old b j)) (hold_at old b j)) [
          | true ↦ λ e. re j ∙ ap (λ c. cond (id == j) mode (hold_at old c j)) (is_addr-same a b e)
          | false ↦ λ e. refl
        ] refl;
    next_generation = turn.next;
    index = turn.index;
  }

  -- the slot has this object, and the same holders
  pub put : (x : Option Object) → now.object ≡ x → now.holders ≡ (slot_at old a).holders → Fills old new a x
  put x object holders = record {
    objects = λ b. ap (λ (s : SlotValue). s.object) (slot_changed b)
        ∙ elim (is_addr a b) as (λ t. (cond t now (slot_at old b)).object ≡ cond t x (slot_at old b).object) [
          | true ↦ object
          | false ↦ refl
        ];
    holds = λ b j. ap (λ (s : SlotValue). hold_of s.holders j) (slot_changed b)
        ∙ elim (is_addr a b) as
        (λ t. is_addr a b ≡ t → hold_of (cond t now (slot_at old b)).holders j ≡ hold_at old b j) [
          | true ↦ λ e. ap (λ (h : HoldersValue). hold_of h j) holders ∙ ap (λ c. hold_at old c j)
              (is_addr-same a b e)
          | false ↦ λ e. refl
        ] refl;
    next_generation = turn.next;
    index = turn.index;
  }

  pub same : now ≡ slot_at old a → SameShard old new
  same is = record {
    slots = λ b. slot_changed b ∙ elim (is_addr a b) as
        (λ t. is_addr a b ≡ t → cond t now (slot_at old b) ≡ slot_at old b) [
          | true ↦ λ e. is ∙ ap (slot_at old) (is_addr-same a b e)
          | false ↦ λ e. refl
        ] refl;
    next_generation = turn.next;
    index = turn.index;
  }

  pub had : {E : Type 0} (mode : Mode) (id : ℕ) (r : Result Had E) → IsSlotHad (slot_at old a) now mode id r
      → IsHad old new a mode id r
  had mode id (Ok (Yes x)) h = (h.0, retaken id (Some mode) h.2 h.1, h.3)
  had mode id (Ok (Taken k)) h = (h.0, same h.1)
  had mode id (Err e) h = (h.0, same h.1)

  pub left : (id : ℕ) → IsSlotLeft (slot_at old a) now id → Retakes old new a id None
  left id h = retaken id None h.object h.holds

-- what is held, or was a needed slot, is not empty after an acquire
pub had_needed : {E : Type 0} (was new : SlotValue) (mode : Mode) (id : ℕ) (r : Result Had E)
    → IsSlotHad was new mode id r → was ≢ empty_slot → new ≢ empty_slot
had_needed was new mode id (Ok (Yes x)) h needed e = somebody was.holders new.holders id mode h.1
    (ap (λ (s : SlotValue). s.holders) e)
had_needed was new mode id (Ok (Taken k)) h needed e = needed (sym h.1 ∙ e)
had_needed was new mode id (Err x) h needed e = needed (sym h.1 ∙ e)

-- what somebody holds has a slot, which is needed
pub held_needed : (new : SlotValue) (j : ℕ) → IsSome (hold_of new.holders j) → new ≢ empty_slot
held_needed new j some e =
    (let none : hold_of new.holders j ≡ None = ap (λ (s : SlotValue). hold_of s.holders j) e in no_some
    (hold_of new.holders j) none some)
  where
    no_some : (x : Option Mode) → x ≡ None → IsSome x → ⊥
    no_some None e s = cc
    no_some (Some v) e s = cc
