-- Calls in progress, where one of them ends or begins.
use Rattle.std.proofs.Common.{◌≡◌, ◌≢◌, ℕ, zero, suc, ◌<◌, ◌==◌, true, false, cond, List}
use Rattle.std.proofs.Common.{[], ◌∷◌, get_or, set, length}
use Rattle.std.proofs.Common.{Option, Some, None, refl, sym, ◌∙◌, ap, arith}
use Rattle.std.specs.Cmp.{unsigned_Decides}
use Rattle.std.proofs.lemmas.List.{get_or-set_other, get_or-set_same}
use Rattle.nfs_engine.proofs.OneShardOfSixteenLemmas.{alike_or}
use Rattle.nfs_engine.specs.Running.{running_at, without_call}
use Rattle.nfs_engine.specs.declared.running.Running.{Running}

-- a place with a call is there
pub within : (living : List (Option Running)) (k : ℕ) (r : Running) → get_or living k None ≡ Some r →
    k < length living
within [] k r is = cc
within (x ∷ xs) zero r is = omega arith
within (x ∷ xs) (suc k) r is = (let less = within xs k r is in omega arith)

pub some_same : (x y : Running) → Some x ≡ Some y → x ≡ y
some_same x y e = cc

module _ (living : List (Option Running)) (key id k : ℕ) (r : Running) (apart : r.id ≢ id) where
  -- another call's place is not the place of this one
  elsewhere : (x : Running) → get_or living key None ≡ Some x → x.id ≡ id → get_or living k None ≡
      Some r → k ≢ key
  elsewhere x there mine is same =
      apart (ap (λ (y : Running). y.id) (some_same r x (sym is ∙ ap (λ j. get_or living j None) same ∙ there))
      ∙ mine)

  -- the other calls stay
  pub stays_running : running_at living k ≡ Some r → running_at (without_call living key id) k ≡ Some r
  stays_running is = elim (get_or living key None) as (λ (x : Option Running). get_or living key None ≡ x →
      get_or (elim x [ None ↦ living | Some running ↦ cond (running.id == id) (set living key None) living ]) k
      None ≡ Some r) [
        | None ↦ λ e. is
        | Some x ↦ λ e. elim (x.id == id) as (λ t. (x.id == id) ≡ t →
            get_or (cond t (set living key None) living) k None ≡ Some r) [
              | true ↦ λ mine. get_or-set_other living key k None None
                  (elsewhere x e ((unsigned_Decides x.id id).0 mine) is) ∙ is
              | false ↦ λ other. is
            ] refl
      ] refl

  -- and no other call comes
  pub was_running : running_at (without_call living key id) k ≡ Some r → running_at living k ≡ Some r
  was_running = elim (get_or living key None) as (λ (x : Option Running). get_or living key None ≡ x →
      get_or (elim x [ None ↦ living | Some running ↦ cond (running.id == id) (set living key None) living ]) k
      None ≡ Some r →
      get_or living k None ≡ Some r) [
        | None ↦ λ e is. is
        | Some x ↦ λ e. elim (x.id == id) as (λ t. get_or (cond t (set living key None) living) k None ≡
            Some r →
            get_or living k None ≡ Some r) [
              | true ↦ λ is. alike_or k key
                  (λ same. (let none = get_or-set_same living key None None (within living key x e) in
                  let here = ap (λ j. get_or (set living key None) j None) same in
                  let no : Some r ≡ None = sym is ∙ here ∙ none in cc))
                  (λ other. sym (get_or-set_other living key k None None other) ∙ is)
              | false ↦ λ is. is
            ]
      ] refl
