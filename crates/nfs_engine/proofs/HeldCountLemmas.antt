-- How many addresses are held, and that none is where none is counted.
use Rattle.std.proofs.Common.{◌≡◌, ℕ, zero, suc, ◌<◌, ◌+◌, ◌%◌, ◌==◌, ◌&&◌, Bool, true, false, cond, min, List, []}
use Rattle.std.proofs.Common.{◌∷◌, ◌++◌, Option, Some, None, unwrap_or, count_by, refl, sym, ◌∙◌, ap, subst, arith}
use Rattle.std.proofs.Common.{take}
use Rattle.std.proofs.Common.{get_or, length, slice_index_or, ◌/◌, ◌-◌, nat_le, ◌^◌}
use Rattle.std.specs.Option.{option_and_then, option_or}
use Rattle.std.proofs.lemmas.List.{take_more}
use Rattle.std.proofs.lemmas.List.Sums.{sum_by-cons}
use Rattle.nfs_objects.specs.Values.{is_addr}
use Rattle.nfs_objects.specs.declared.address.Addr.{Addr}
use Rattle.nfs_objects.specs.declared.address.Addr.TheVariants.{Exports, Inode, Map, Block, Page, Part, Mounts, Usage}
use Rattle.nfs_engine.specs.Engine.{CountsLocked, LockedSum, held_among, no_shard, shard_among}
use Rattle.nfs_engine.specs.Found.{found}
use Rattle.nfs_engine.specs.Holders.{hold_in, hold_of}
use Rattle.nfs_engine.specs.Locked.{IsLocked, is_anybody, is_held}
use Rattle.nfs_engine.specs.Shards.{ShardValue, SlotValue, empty_slot, hold_at, shard_of}
use Rattle.nfs_objects.specs.declared.address.Addr.TheVariants.{Locks}

-- ---- the count of one more shard
pub one_more : (shards : List ShardValue) (total n : ℕ) (s : ShardValue) → LockedSum shards total → IsLocked s n →
    LockedSum (shards ++ s ∷ []) (total + n)
one_more [] total n s sum locked = (n, 0, locked, refl, (let none : total ≡ 0 = sum in omega arith))
one_more (x ∷ shards) total n s sum locked =
    (sum.0, sum.1 + n, sum.2, one_more shards sum.1 n s sum.3 locked, (let is = sum.4 in omega arith))

pub counted_more : (shards : List ShardValue) (i : ℕ) (was : ShardValue) (count n next : ℕ) → i < length shards →
    CountsLocked (take i shards) count → IsLocked (get_or shards i was) n → next ≡ min (count + n) (2 ^ 64 - 1) →
    CountsLocked (take (i + 1) shards) next
counted_more shards i was count n next within c locked more = record {
  total = c.total + n;
  sum = subst (λ (xs : List ShardValue). LockedSum xs (c.total + n)) (sym (take_more shards i was within))
      (one_more (take i shards) c.total n (get_or shards i was) c.sum locked);
  count_is = (let was = c.count_is in omega arith);
}

-- ---- where none is counted
-- nobody holds what nobody is counted to hold
idle : (alone : Option ℕ) (beside : List ℕ) (j : ℕ) → is_anybody alone beside ≡ false → hold_in alone beside j ≡ None
idle (Some h) beside j none = cc
idle None (h ∷ hs) j none = cc
idle None [] j none = refl

found_idle : (slots : List (Addr × SlotValue)) → count_by (λ (e : Addr × SlotValue). is_held e.1) slots ≡ 0 →
    (a : Addr) (j : ℕ) → hold_of (unwrap_or (found slots a) empty_slot).holders j ≡ None
found_idle [] none a j = refl
found_idle (e ∷ slots) none a j =
    let both : cond (is_held e.1) 1 0 + count_by (λ (x : Addr × SlotValue). is_held x.1) slots ≡ 0 =
    sym (sum_by-cons (λ (x : Addr × SlotValue). cond (is_held x.1) 1 0) e slots) ∙ none in
    elim (is_addr a e.0) as (λ t. hold_of (unwrap_or (cond t (Some e.1) (found slots a)) empty_slot).holders j ≡ None) [
      | true ↦ idle e.1.holders.alone e.1.holders.beside j (unheld (is_held e.1)
          (count_by (λ (x : Addr × SlotValue). is_held x.1) slots) both)
      | false ↦ found_idle slots (omega arith) a j
    ]
  where
    unheld : (t : Bool) (n : ℕ) → cond t 1 0 + n ≡ 0 → t ≡ false
    unheld true n is = absurd (omega arith)
    unheld false n is = refl

none_held : (s : ShardValue) → IsLocked s 0 → (a : Addr) (j : ℕ) → hold_at s a j ≡ None
none_held s locked a j = ap (λ (o : Option SlotValue). hold_of (unwrap_or o empty_slot).holders j)
    (sym (locked.all a)) ∙
    found_idle locked.slots (let is = locked.held in omega arith) a j

-- a shard that is not there has no slot
nowhere : (a : Addr) (j : ℕ) → hold_at no_shard a j ≡ None
nowhere Exports j = refl
nowhere (Inode n) j = elim ((n % 16 == 0) && nat_le 16 n) as (λ t.
    hold_of (unwrap_or (option_or (option_and_then (λ key. slice_index_or {A = Option SlotValue} [] key None)
    (cond t (Some (n / 16 - 1)) None)) None) empty_slot).holders j ≡ None) [ true ↦ refl | false ↦ refl ]
nowhere (Map n page) j = refl
nowhere (Block n i) j = refl
nowhere (Page n page) j = refl
nowhere (Part n bucket part) j = refl
nowhere Mounts j = refl
nowhere (Usage e g) j = refl
nowhere (Locks b) j = refl

shards_free : (shards : List ShardValue) → LockedSum shards 0 → (k : ℕ) (a : Addr) (j : ℕ) →
    hold_at (shard_among shards k) a j ≡ None
shards_free [] sum k a j = nowhere a j
shards_free (s ∷ shards) sum zero a j =
    none_held s (subst (λ n. IsLocked s n) (let is = sum.4 in let none : sum.0 ≡ 0 = omega arith in none) sum.2) a j
shards_free (s ∷ shards) sum (suc k) a j =
    shards_free shards (subst (λ n. LockedSum shards n) (let is = sum.4 in let none : sum.1 ≡ 0 = omega arith in none)
    sum.3) k a j

pub nothing_held : (shards : List ShardValue) → CountsLocked shards 0 → (a : Addr) (j : ℕ) →
    held_among shards a j ≡ None
nothing_held shards c a j = shards_free shards
    (subst (λ n. LockedSum shards n) (let is = c.count_is in let none : c.total ≡ 0 = omega arith in none) c.sum)
    (shard_of a) a j
