-- Lists in which none stands twice.
use Rattle.std.proofs.Common.{◌≡◌, Bool, true, false, cond, List, [], ◌∷◌, ◌++◌, filter, refl}
use Rattle.std.specs.List.{AllByRecursion, IsDistinct}
use Rattle.nfs_machine.proofs.ModesLemmas.{all-joined, all-left}

-- what is left of a list passes the test
pub passes-left : {X : Type 0} (p : X → Bool) (xs : List X) → AllByRecursion (λ x. p x ≡ true) (filter p xs)
passes-left p [] = tt
passes-left p (x ∷ xs) =
    elim (p x) as (λ b. p x ≡ b → AllByRecursion (λ y. p y ≡ true) (cond b (x ∷ filter p xs) (filter p xs))) [
      | true ↦ λ e. (e, passes-left p xs)
      | false ↦ λ e. passes-left p xs
    ] refl

module _ {X : Type 0} (same : X → X → Bool) where
  pub none-once : IsDistinct same []
  unfolding IsDistinct
  none-once = tt

  pub left-once : (p : X → Bool) (xs : List X) → IsDistinct same xs → IsDistinct same (filter p xs)
  unfolding IsDistinct
  left-once p [] once = tt
  left-once p (x ∷ xs) once =
      elim (p x) as (λ b. IsDistinct same (cond b (x ∷ filter p xs) (filter p xs))) [
        | true ↦ (
          all-left (λ y. same x y ≡ false) (λ y. same x y ≡ false) p xs (λ y e h. h) once.0,
          left-once p xs once.1,
        )
        | false ↦ left-once p xs once.1
      ]

  pub more-once : (xs : List X) (y : X) → AllByRecursion (λ x. same x y ≡ false) xs → IsDistinct same xs →
      IsDistinct same (xs ++ y ∷ [])
  unfolding IsDistinct
  more-once [] y others once = (tt, tt)
  more-once (x ∷ xs) y others once = (
    all-joined (λ z. same x z ≡ false) xs (y ∷ []) once.0 (others.0, tt),
    more-once xs y others.1 once.1,
  )

  pub rest-once : (x : X) (xs : List X) → IsDistinct same (x ∷ xs) → IsDistinct same xs
  unfolding IsDistinct
  rest-once x xs once = once.1

  pub joined-once : (xs ys : List X) → IsDistinct same xs → IsDistinct same ys →
      AllByRecursion (λ x. AllByRecursion (λ y. same x y ≡ false) ys) xs → IsDistinct same (xs ++ ys)
  unfolding IsDistinct
  joined-once [] ys once others apart = others
  joined-once (x ∷ xs) ys once others apart = (
    all-joined (λ y. same x y ≡ false) xs ys once.0 apart.0,
    joined-once xs ys once.1 others apart.1,
  )
