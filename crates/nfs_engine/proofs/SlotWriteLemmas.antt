-- One write of a table of objects that leaves no slot of nothing.
use Rattle.std.proofs.Common.{◌≡◌, ◌&&◌, ◌||◌, Bool, true, false, not, List, [], ◌∷◌, Option, Some, None, IsSome}
use Rattle.std.proofs.Common.{is_some}
use Rattle.std.proofs.Common.{refl, sym, ◌∙◌, ap, subst, unwrap_or, ℕ}
use Rattle.nfs_objects.specs.Store.{Store, with_write}
use Rattle.nfs_objects.specs.Values.{is_addr}
use Rattle.nfs_objects.specs.declared.address.Addr.{Addr}
use Rattle.nfs_objects.specs.declared.object.Object.{Object}
use Rattle.nfs_engine.proofs.TidySlotLemmas.{out-store, out-tidy, puts-store, puts-tidy}
use Rattle.nfs_engine.specs.Found.{found}
use Rattle.nfs_engine.specs.Standing.{HasObjects}
use Rattle.nfs_engine.specs.Tables.{IsTidy, KeptValue, Puts, TakesOutIdle, empty_kept, is_taken, needs_slot, store_of}
use Rattle.nfs_engine.specs.Tables.{takes_from}

abbrev Slots : Type 0
Slots = List (Addr × KeptValue)

-- something is put at an address, or taken away, and then the slot goes if it keeps nothing
module _ (old mid new : Slots) (a : Addr) (o : Option Object) (puts : Puts old mid (a, o))
    (out : TakesOutIdle mid new (a, None)) where
  pub one-store : store_of new ≡ with_write (store_of old) a o
  one-store = out-store mid new (a, None) out ∙ puts-store old mid (a, o) puts

  pub one-count : (n : ℕ) → HasObjects (store_of mid) n → HasObjects (store_of new) n
  one-count n has = subst (λ (s : Store). HasObjects s n) (sym (out-store mid new (a, None) out)) has

  first-of : (t s : Bool) → (t && not s) ≡ true → t ≡ true
  first-of true s both = refl
  first-of false s both = cc

  among : (b : Addr) → takes_from b (a, o) ≡ true → is_taken ((a, None) ∷ []) b ≡ true
  among b takes = ap (λ t. (t && true) || false) (first-of (is_addr a b) (is_some o) takes)

  pub one-tidy : IsTidy old → IsTidy new
  one-tidy tidy b = out-tidy mid new (a, None) out [] (puts-tidy old mid (a, o) puts ((a, None) ∷ []) among
      (λ c apart. tidy c)) b refl

-- nothing needs a slot that is put where something stands
pub needs-none : (slots : Slots) (a : Addr) (o : Option Object) → (IsSome o → IsSome ((store_of slots).at a)) →
    needs_slot slots (a, o) ≡ false
needs-none slots a None stands = refl
needs-none slots a (Some x) stands = by (found slots a) refl
  where
    by : (k : Option KeptValue) → found slots a ≡ k → not (is_some (found slots a)) ≡ false
    by (Some k) is = ap (λ (y : Option KeptValue). not (is_some y)) is
    by None is =
        (let no : false ≡ true = subst (λ (y : Option KeptValue). IsSome (unwrap_or y empty_kept).object) is
        (stands refl) in
        cc)
