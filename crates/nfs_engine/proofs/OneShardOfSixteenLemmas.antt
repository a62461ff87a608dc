-- One shard of sixteen changed: what that is for each slot and each shard.
use Rattle.std.proofs.Common.{◌≡◌, ◌≢◌, ℕ, ◌<◌, ◌==◌, true, false, List}
use Rattle.std.proofs.Common.{get_or, set, length, refl, sym, subst}
use Rattle.std.specs.Cmp.{unsigned_Decides}
use Rattle.std.proofs.lemmas.List.{get_or-set_other, get_or-set_same}
use Rattle.std.proofs.lemmas.Option.{slice_get-get_or}
use Rattle.nfs_objects.specs.declared.address.Addr.{Addr}
use Rattle.nfs_engine.specs.Engine.{no_shard, shard_among, slot_among}
use Rattle.nfs_engine.specs.Shards.{ShardValue, SlotValue, shard_of, slot_at}

-- two numbers are one, or not
pub alike_or : {Z : Type 0} (a b : ℕ) → (a ≡ b → Z) → (a ≢ b → Z) → Z
alike_or {Z = Z} a b same other = elim (a == b) as (λ t. (a == b) ≡ t → Z) [
  | true ↦ λ e. same ((unsigned_Decides a b).0 e)
  | false ↦ λ e. other (λ is. (let both : (a == b) ≡ true = (unsigned_Decides a b).1 is in cc))
] refl

-- a shard that is there, whatever stands for one that is not
pub any_default : (shards : List ShardValue) (i : ℕ) (d : ShardValue) → i < length shards →
    get_or shards i d ≡ shard_among shards i
any_default shards i d within =
    let p = slice_get-get_or shards i d within in
    let q = slice_get-get_or shards i no_shard within in
    cc

module _ (shards : List ShardValue) (i : ℕ) (s : ShardValue) (within : i < length shards) where
  pub here : shard_among (set shards i s) i ≡ s
  here = get_or-set_same shards i s no_shard within

  pub elsewhere : (k : ℕ) → k ≢ i → shard_among (set shards i s) k ≡ shard_among shards k
  elsewhere k apart = get_or-set_other shards i k s no_shard apart

  -- what is true of the shard's slots, before and after, and of each slot that stays
  pub each_slot : (R : Addr → SlotValue → SlotValue → Type 0)
      → ((b : Addr) → shard_of b ≡ i → R b (slot_at (shard_among shards i) b) (slot_at s b))
      → ((b : Addr) → shard_of b ≢ i → (x : SlotValue) → R b x x)
      → (b : Addr) → R b (slot_among shards b) (slot_among (set shards i s) b)
  each_slot R inside outside b = alike_or (shard_of b) i
      (λ is. subst (λ k. R b (slot_at (shard_among shards k) b) (slot_at (shard_among (set shards i s) k) b)) (sym is)
      (subst (λ (x : ShardValue). R b (slot_at (shard_among shards i) b) (slot_at x b)) (sym here) (inside b is)))
      (λ apart. subst (λ (x : ShardValue). R b (slot_among shards b) (slot_at x b))
      (sym (elsewhere (shard_of b) apart))
      (outside b apart (slot_among shards b)))

  -- the same of the shards
  pub each_shard : (R : ShardValue → ShardValue → Type 0) → R (shard_among shards i) s →
      ((x : ShardValue) → R x x)
      → (k : ℕ) → R (shard_among shards k) (shard_among (set shards i s) k)
  each_shard R inside outside k = alike_or k i
      (λ is. subst (λ j. R (shard_among shards j) (shard_among (set shards i s) j)) (sym is)
      (subst (λ (x : ShardValue). R (shard_among shards i) x) (sym here) inside))
      (λ apart. subst (λ (x : ShardValue). R (shard_among shards k) x) (sym (elsewhere k apart))
      (outside (shard_among shards k)))
