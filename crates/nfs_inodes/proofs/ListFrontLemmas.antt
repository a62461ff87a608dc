-- Fronts of lists, one element longer.
use Rattle.std.proofs.Common.{◌≡◌, ℕ, zero, suc, ◌+◌, ◌<◌, List, [], ◌∷◌, ◌++◌, length, map, take, get_or}
use Rattle.std.proofs.Common.{arith, ◌∙◌, ap}
use Rattle.std.proofs.Common.{subst, sym}
use Rattle.std.proofs.lemmas.List.{map-append, take_more}
use Rattle.std.specs.List.{AllByRecursion}

-- ---- of a list that is gone over
module _ {X Y : Type 0} (f : X → Y) where
  pub map-more : (xs : List X) (i : ℕ) (x : X) → i < length xs → x ≡ get_or xs i x →
      map f (take (i + 1) xs) ≡ map f (take i xs) ++ f x ∷ []
  map-more xs i x within at =
      ap (map f) (take_more xs i x within) ∙ map-append f (take i xs) (get_or xs i x ∷ [])
      ∙ ap (λ y. map f (take i xs) ++ f y ∷ []) (sym at)

  pub each-mapped : (P : Y → Type 0) (xs : List X) (i : ℕ) (x : X) → AllByRecursion P (map f xs) → i < length xs →
      x ≡ get_or xs i x → P (f x)
  each-mapped P [] i x each within at = absurd (let no = within in omega (arith, no))
  each-mapped P (y ∷ xs) zero x each within at = subst (λ z. P (f z)) (sym at) each.0
  each-mapped P (y ∷ xs) (suc i) x each within at =
      each-mapped P xs i x each.1 (let less = within in omega (arith, less)) at
