-- Which writes need a slot, before and after one of them is made.
use Rattle.std.proofs.Common.{◌≡◌, ℕ, ◌+◌, ◌<◌, ◌≤◌, ◌&&◌, not, Bool, true, false, cond, List, [], ◌∷◌, get_or, length}
use Rattle.std.proofs.Common.{map, take, Option, Some, None, is_some, option_map}
use Rattle.std.proofs.Common.{refl, sym, ◌∙◌, ap, subst, arith}
use Rattle.std.proofs.Math.ListN.{get_or-map}
use Rattle.std.proofs.lemmas.List.{length-map}
use Rattle.std.proofs.lemmas.List.Sums.{count_by_more_no, count_by_more_yes, sum_by-cons}
use Rattle.std.specs.Map.{lookup}
use Rattle.nfs_objects.specs.declared.address.Addr.{Addr}
use Rattle.nfs_objects.specs.declared.change.Write.{Write}
use Rattle.nfs_objects.specs.declared.object.Object.{Object}
use Rattle.nfs_objects.specs.Values.{write_value}
use Rattle.nfs_engine.proofs.AddressMapLemmas.{found-lookup, same_address, seen}
use Rattle.nfs_engine.specs.Found.{found}
use Rattle.nfs_engine.specs.Tables.{KeepsSlots, KeptValue, kept_value, needs_slot, slots_needed}
use Rattle.nfs_engine.specs.declared.objects.StoredObject.{StoredObject}

abbrev Slots : Type 0
Slots = List (Addr × KeptValue)

abbrev Writes : Type 0
Writes = List (Addr × Option Object)

-- what the map has at an address is its slot
pub slot-found : (a : Addr) (es : List (Addr × StoredObject)) →
    is_some (lookup (same_address a) es) ≡ is_some (found (seen kept_value es) a)
slot-found a es = same (lookup (same_address a) es) ∙ ap is_some (sym (found-lookup kept_value a es))
  where
    same : (o : Option StoredObject) → is_some o ≡ is_some (option_map kept_value o)
    same None = refl
    same (Some k) = refl

-- ---- one write
fewer : (puts was is : Bool) → (was ≡ true → is ≡ true) → cond (puts && not is) 1 0 ≤ cond (puts && not was) 1 0
fewer false was is keeps = omega arith
fewer true true is keeps = subst (λ b. cond (not b) 1 0 ≤ 0) (sym (keeps refl)) (omega arith)
fewer true false true keeps = omega arith
fewer true false false keeps = omega arith

-- ---- how many do
abbrev one : Slots → Addr × Option Object → ℕ
one slots w = cond (needs_slot slots w) 1 0

pub needed-cons : (slots : Slots) (w : Addr × Option Object) (ws : Writes) →
    slots_needed slots (w ∷ ws) ≡ one slots w + slots_needed slots ws
needed-cons slots w ws = sum_by-cons (one slots) w ws

-- where each slot stays, no other write needs one
pub needed-fewer : (old new : Slots) → KeepsSlots old new → (ws : Writes) →
    slots_needed new ws ≤ slots_needed old ws
needed-fewer old new keeps [] = omega arith
needed-fewer old new keeps (w ∷ ws) =
    let first : one new w ≤ one old w = fewer (is_some w.1) (is_some (found old w.0)) (is_some (found new w.0))
    (keeps w.0) in
    let rest = needed-fewer old new keeps ws in
    omega (arith, first, rest, needed-cons new w ws, needed-cons old w ws)

-- they are counted one after the other
module _ (slots : Slots) (ws : List Write) (i : ℕ) (w : Write) (within : i < length ws) (is : w ≡ get_or ws i w) where
  there : get_or (map write_value ws) i (write_value w) ≡ write_value w
  there = get_or-map write_value ws i w ∙ ap write_value (sym is)

  inside : i < length (map write_value ws)
  inside = let same = length-map ws write_value in omega (arith, within, same)

  pub needed-more : (n : ℕ) → n ≡ slots_needed slots (take i (map write_value ws)) →
      needs_slot slots (write_value w) ≡ true → n + 1 ≡ slots_needed slots (take (i + 1) (map write_value ws))
  needed-more n so_far needs = ap (λ m. m + 1) so_far ∙ sym (count_by_more_yes (needs_slot slots)
      (map write_value ws) i (write_value w) inside (ap (needs_slot slots) there ∙ needs))

  pub needed-same : (n : ℕ) → n ≡ slots_needed slots (take i (map write_value ws)) →
      needs_slot slots (write_value w) ≡ false → n ≡ slots_needed slots (take (i + 1) (map write_value ws))
  needed-same n so_far none = so_far ∙ sym (count_by_more_no (needs_slot slots)
      (map write_value ws) i (write_value w) inside (ap (needs_slot slots) there ∙ none))
