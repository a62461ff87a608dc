-- Lists by their places, as the entries of two views are compared; and what is seen where some stand behind others.
use Rattle.std.specs.Prelude.{◌≡◌, ◌+◌, ◌++◌, ℕ, zero, suc, Bool, true, false, List, [], ◌∷◌}
use Rattle.std.specs.Prelude.{Some, None, length, drop, slice_get, refl, not, is_some}
use Rattle.std.proofs.Common.{cond, ◌&&◌, ◌∙◌, ap, arith, sym}
use Rattle.std.specs.Cmp.Lexicographic.{pointwise}
use Rattle.nfs_objects.specs.declared.address.Addr.{Addr}
use Rattle.nfs_objects.specs.Values.{Seen, is_addr, seen_at}

module _ {X : Type 0} where
  -- what stands at a place is the first of the rest from there
  pub rest-from : (xs : List X) (i : ℕ) (x : X) → slice_get xs i ≡ Some x → drop i xs ≡ x ∷ drop (i + 1) xs
  rest-from [] i x is = cc
  rest-from (y ∷ xs) zero x is = ap (λ z. z ∷ xs) (let same : y ≡ x = cc in same)
  rest-from (y ∷ xs) (suc i) x is =
      rest-from xs i x is ∙ ap (λ k. x ∷ drop k (y ∷ xs)) (let e : suc (i + 1) ≡ suc i + 1 = omega arith in e)

  -- so lists are compared place by place
  pub compared-from : (test : X → X → Bool) (xs ys : List X) (i : ℕ) (x y : X) → slice_get xs i ≡ Some x →
      slice_get ys i ≡ Some y
      → pointwise test (drop i xs) (drop i ys) ≡ (test x y && pointwise test (drop (i + 1) xs) (drop (i + 1) ys))
  compared-from test xs ys i x y is are = λ j. pointwise test (rest-from xs i x is j) (rest-from ys i y are j)

  nothing-from : (i : ℕ) → (let none : List X = [] in drop i none ≡ none)
  nothing-from zero = refl
  nothing-from (suc i) = refl

  -- and one that goes on where the other is at its end is another
  pub longer-from : (test : X → X → Bool) (xs ys : List X) (i : ℕ) (x : X) → slice_get xs i ≡ Some x →
      slice_get ys i ≡ None → pointwise test (drop i xs) (drop i ys) ≡ false
  longer-from test [] ys i x is none = cc
  longer-from test (z ∷ xs) [] zero x is none = refl
  longer-from test (z ∷ xs) [] (suc i) x is none =
      ap (pointwise test (drop i xs)) (sym (nothing-from i)) ∙ longer-from test xs [] i x is refl
  longer-from test (z ∷ xs) (y ∷ ys) zero x is none = cc
  longer-from test (z ∷ xs) (y ∷ ys) (suc i) x is none = longer-from test xs ys i x is none

  -- at its end the other one must be at its end too
  pub ended-from : (test : X → X → Bool) (xs ys : List X) →
      pointwise test (drop (length xs) xs) (drop (length xs) ys) ≡ not (is_some (slice_get ys (length xs)))
  ended-from test [] [] = refl
  ended-from test [] (y ∷ ys) = refl
  ended-from test (x ∷ xs) [] =
      ap (pointwise test (drop (length xs) xs)) (sym (nothing-from (length xs))) ∙ ended-from test xs []
  ended-from test (x ∷ xs) (y ∷ ys) = ended-from test xs ys

-- an address that is not seen is not seen in what stands behind
pub unseen-behind : (xs ys : List Seen) (a : Addr) → seen_at (xs ++ ys) a ≡ None → seen_at ys a ≡ None
unseen-behind [] ys a none = none
unseen-behind (x ∷ xs) ys a none =
    elim (is_addr x.address a) as (λ b. cond b (Some x) (seen_at (xs ++ ys) a) ≡ None → seen_at ys a ≡ None) [
      | true ↦ λ here. cc
      | false ↦ λ there. unseen-behind xs ys a there
    ] none
