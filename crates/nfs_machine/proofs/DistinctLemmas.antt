-- Lists in which nothing stands twice: fewer of it, and one more.
use Rattle.std.proofs.Common.{◌≡◌, Bool, true, false, cond, List, [], ◌∷◌, ◌++◌, filter, refl}
use Rattle.std.specs.List.{AllByRecursion, IsDistinct}
use Rattle.nfs_machine.proofs.ModesLemmas.{all-joined, all-left, all-removed}

-- what is left of a list passes the test
pub passes-left : {X : Type 0} (p : X → Bool) (xs : List X) → AllByRecursion (λ x. p x ≡ true) (filter p xs)
passes-left p [] = tt
passes-left p (x ∷ xs) =
    elim (p x) as (λ b. p x ≡ b → AllByRecursion (λ y. p y ≡ true) (cond b (x ∷ filter p xs) (filter p xs))) [
      | true ↦ λ e. (e, passes-left p xs)
      | false ↦ λ e. passes-left p xs
    ] refl

module _ {X : Type 0} (same : X → X → Bool) where
  abbrev Other : X → X → Type 0
  Other x y = same x y ≡ false

  pub distinct-none : IsDistinct same []
  unfolding IsDistinct
  distinct-none = tt

  pub distinct-left : (p : X → Bool) (xs : List X) → IsDistinct same xs → IsDistinct same (filter p xs)
  unfolding IsDistinct
  distinct-left p [] once = tt
  distinct-left p (x ∷ xs) once =
      elim (p x) as (λ b. IsDistinct same (cond b (x ∷ filter p xs) (filter p xs))) [
        | true ↦ (all-left (Other x) (Other x) p xs (λ y e h. h) once.0, distinct-left p xs once.1)
        | false ↦ distinct-left p xs once.1
      ]

  pub distinct-removed : (xs : List X) (x : X) (ys : List X) → IsDistinct same (xs ++ x ∷ ys) →
      IsDistinct same (xs ++ ys)
  unfolding IsDistinct
  distinct-removed [] x ys once = once.1
  distinct-removed (z ∷ xs) x ys once = (
    all-removed (Other z) (Other z) xs x ys (λ y h. h) once.0,
    distinct-removed xs x ys once.1,
  )

  pub distinct-last : (xs : List X) (y : X) → AllByRecursion (λ x. same x y ≡ false) xs → IsDistinct same xs →
      IsDistinct same (xs ++ y ∷ [])
  unfolding IsDistinct
  distinct-last [] y others once = (tt, tt)
  distinct-last (x ∷ xs) y others once = (
    all-joined (Other x) xs (y ∷ []) once.0 (others.0, tt),
    distinct-last xs y others.1 once.1,
  )
