-- What is asked for of the entries so far, and of one more.
use Rattle.std.proofs.Common.{◌≡◌, ◌≢◌, ℕ, true, false, ◌||◌, cond, not, List, [], ◌∷◌}
use Rattle.std.proofs.Common.{◌++◌, map, None, IsSome}
use Rattle.std.proofs.Common.{inl, inr, eqb, refl, sym, ◌∙◌, ap, subst, arith}
use Rattle.std.proofs.lemmas.Bool.{not-false, not-true}
use Rattle.std.proofs.lemmas.Bool.Decides.{nat_tests}
use Rattle.std.proofs.lemmas.List.{map-append}
use Rattle.std.specs.Cmp.{unsigned_Decides}
use Rattle.std.specs.List.{AllByRecursion, list_any}
use Rattle.indexmap.specs.IndexSet.{insert_key}
use Rattle.nfs_machine.specs.State.{Entry}
use Rattle.nfs_objects.proofs.SeenLemmas.{all-append, all-map, unknown-unseen}
use Rattle.nfs_objects.specs.Asks.{Asks, EachOnce, IsThere, MayAsk}
use Rattle.nfs_objects.specs.Bound.{WasAsked}
use Rattle.nfs_objects.specs.Values.{DraftValue, is_addr, known_at}
use Rattle.nfs_objects.specs.declared.address.Addr.{Addr}
use Rattle.nfs_objects.specs.declared.address.Addr.TheVariants as addresses
use Rattle.nfs_objects.specs.declared.modes.Mode.{Mode}
use Rattle.nfs_inodes.specs.Gathers.{EachKnown, Gathers, IsKnownOrAsked, MayWish, wish}
use Rattle.nfs_inodes.specs.declared.gather.WantedObjects.{WantedObjects}

-- ---- each address once
once-more : (asked : List (Addr × Mode)) (x : Addr × Mode) → EachOnce asked →
    AllByRecursion (λ (b : Addr × Mode). is_addr b.0 x.0 ≡ false) asked → EachOnce (asked ++ x ∷ [])
once-more [] x once apart = (tt, tt)
once-more (a ∷ asked) x once apart = (
  all-append (λ (b : Addr × Mode). is_addr a.0 b.0 ≡ false) asked x once.0 apart.0,
  once-more asked x once.1 apart.1,
)

was-more : (asked : List (Addr × Mode)) (x a : Addr × Mode) → WasAsked asked a → WasAsked (asked ++ x ∷ []) a
was-more [] x a was = absurd was
was-more (b ∷ asked) x a (inl here) = inl here
was-more (b ∷ asked) x a (inr there) = inr (was-more asked x a there)

was-last : (asked : List (Addr × Mode)) (x : Addr × Mode) → WasAsked (asked ++ x ∷ []) x
was-last [] x = inl refl
was-last (b ∷ asked) x = inr (was-last asked x)

module _ (d : DraftValue) (n : ℕ) where
  was-wished : (numbers : List ℕ) → list_any (eqb n) numbers ≡ true → WasAsked (map (wish d) numbers) (wish d n)
  was-wished [] is = cc
  was-wished (m ∷ numbers) is =
      elim (eqb n m) as (λ b. eqb n m ≡ b → (b || list_any (eqb n) numbers) ≡ true →
      WasAsked (map (wish d) (m ∷ numbers)) (wish d n)) [
        | true ↦ λ same here. inl (ap (wish d) (sym ((unsigned_Decides n m).0 same)))
        | false ↦ λ other there. inr (was-wished numbers there)
      ] refl is

  not-wished : (numbers : List ℕ) → list_any (eqb n) numbers ≡ false →
      AllByRecursion (λ (b : Addr × Mode). is_addr b.0 (addresses.Inode n) ≡ false) (map (wish d) numbers)
  not-wished [] is = tt
  not-wished (m ∷ numbers) is =
      elim (eqb n m) as (λ b. eqb n m ≡ b → (b || list_any (eqb n) numbers) ≡ false →
      AllByRecursion (λ (b : Addr × Mode). is_addr b.0 (addresses.Inode n) ≡ false)
      (map (wish d) (m ∷ numbers))) [
        | true ↦ λ same here. cc
        | false ↦ λ other there. (grind (arith, nat_tests, other), not-wished numbers there)
      ] refl is

-- ---- one more entry
module _ (d : DraftValue) (entries : List Entry) (e : Entry) (n : ℕ) (number : e.number ≡ n) (old new : WantedObjects)
    (gathers : Gathers d entries old) where
  abbrev Goes : List (Addr × Mode) → Entry → Type 0
  Goes asked x = IsKnownOrAsked d asked (addresses.Inode x.number)

  -- nothing is asked for besides
  pub gathers-same : new.numbers.keys ≡ old.numbers.keys → new.asked.items ≡ old.asked.items →
      IsKnownOrAsked d old.asked.items (addresses.Inode n) → Gathers d (entries ++ e ∷ []) new
  gathers-same keys asked goes = record {
    wished = asked ∙ gathers.wished ∙ ap (map (wish d)) (sym keys);
    once = subst EachOnce (sym asked) gathers.once;
    each = subst (AllByRecursion (MayWish d)) (sym asked) gathers.each;
    all = subst (λ w. AllByRecursion (Goes w) (entries ++ e ∷ [])) (sym asked)
        (all-append (Goes old.asked.items) entries e gathers.all
        (subst (λ m. IsKnownOrAsked d old.asked.items (addresses.Inode m)) (sym number) goes));
  }

  -- the number is asked for already
  pub gathers-again : new.numbers.keys ≡ insert_key eqb old.numbers.keys n → new.asked.items ≡ old.asked.items →
      false ≡ not (list_any (eqb n) old.numbers.keys) → Gathers d (entries ++ e ∷ []) new
  gathers-again keys asked added =
      let there = not-false (list_any (eqb n) old.numbers.keys) (sym added) in
      gathers-same (keys ∙ ap (λ b. cond b old.numbers.keys (old.numbers.keys ++ n ∷ [])) there) asked
      (inr (subst (λ w. WasAsked w (wish d n)) (sym gathers.wished) (was-wished d n old.numbers.keys there)))

  -- it is asked for now
  pub gathers-more : new.numbers.keys ≡ insert_key eqb old.numbers.keys n → (w : Addr × Mode) →
      new.asked.items ≡ old.asked.items ++ w ∷ [] → true ≡ not (list_any (eqb n) old.numbers.keys) →
      known_at d (addresses.Inode n) ≡ None → w ≡ wish d n → IsThere d.view (addresses.Inode n) →
      Gathers d (entries ++ e ∷ []) new
  gathers-more inserted w pushed added unknown is lives =
      let fresh = not-true (list_any (eqb n) old.numbers.keys) (sym added) in
      let keys = inserted ∙ ap (λ b. cond b old.numbers.keys (old.numbers.keys ++ n ∷ [])) fresh in
      let asked = pushed ∙ ap (λ v. old.asked.items ++ v ∷ []) is in
      record {
        wished = asked ∙ ap (λ v. v ++ wish d n ∷ []) gathers.wished
            ∙ sym (map-append (wish d) old.numbers.keys (n ∷ [])) ∙ ap (map (wish d)) (sym keys);
        once = subst EachOnce (sym asked) (once-more old.asked.items (wish d n) gathers.once
            (subst (AllByRecursion (λ (b : Addr × Mode). is_addr b.0 (addresses.Inode n) ≡ false))
            (sym gathers.wished) (not-wished d n old.numbers.keys fresh)));
        each = subst (AllByRecursion (MayWish d)) (sym asked) (all-append (MayWish d) old.asked.items (wish d n)
            gathers.each (record {
              unseen = unknown-unseen d (addresses.Inode n) unknown;
              mode = refl;
              lives = lives;
            }));
        all = subst (λ v. AllByRecursion (Goes v) (entries ++ e ∷ [])) (sym asked)
            (all-append (Goes (old.asked.items ++ wish d n ∷ [])) entries e
            (all-map (Goes old.asked.items) (Goes (old.asked.items ++ wish d n ∷ [])) (λ x goes. elim goes [
              | inl known ↦ inl known
              | inr was ↦ inr (was-more old.asked.items (wish d n) (wish d x.number) was)
            ]) entries gathers.all)
            (subst (λ m. IsKnownOrAsked d (old.asked.items ++ wish d n ∷ []) (addresses.Inode m)) (sym number)
            (inr (was-last old.asked.items (wish d n)))));
      }

-- ---- the end
module _ (d : DraftValue) (entries : List Entry) (wishes : WantedObjects) (gathers : Gathers d entries wishes) where
  pub none-lacked : wishes.asked.items ≡ [] → EachKnown d entries
  none-lacked none =
      all-map (λ (e : Entry). IsKnownOrAsked d wishes.asked.items (addresses.Inode e.number))
      (λ (e : Entry). IsSome (known_at d (addresses.Inode e.number)))
      (λ e goes. elim goes [
        | inl known ↦ known
        | inr was ↦ absurd (subst (λ w. WasAsked w (wish d e.number)) none was)
      ]) entries gathers.all

  pub asks-each : (named : List Addr) → wishes.asked.items ≢ [] → Asks d.modes named d.view wishes.asked.items
  asks-each named some = record {
    some = some;
    once = gathers.once;
    each = all-map (MayWish d) (MayAsk d.modes named d.view) (λ a may. record {
      unseen = may.unseen;
      mode = may.mode;
      bounded = inr may.lives;
    }) wishes.asked.items gathers.each;
  }
