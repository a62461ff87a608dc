-- Sums along a list, which stop at 2^64 - 1.
use Rattle.std.proofs.Common.{◌≡◌, ℕ, ◌+◌, ◌-◌, ◌^◌, ◌<◌, List, [], ◌∷◌, length, get_or, map, min, sum_by, take}
use Rattle.std.proofs.Common.{◌∙◌, ap, arith, refl, sym}
use Rattle.std.proofs.lemmas.List.Sums.{sum_by-cons, sum_by_more}

-- one element more
pub sum-more : {X : Type 0} (f : X → ℕ) (xs : List X) (i : ℕ) (x : X) (size one : ℕ) → i < length xs →
    x ≡ get_or xs i x → size ≡ min (sum_by f (take i xs)) (2 ^ 64 - 1) → one ≡ min (f x) (2 ^ 64 - 1) →
    min (size + one) (2 ^ 64 - 1) ≡ min (sum_by f (take (i + 1) xs)) (2 ^ 64 - 1)
sum-more f xs i x size one within is so_far its = omega (arith, sum_by_more f xs i x within, ap f is, so_far, its)

-- a sum over what elements are seen as
pub mapped-sum : {X Y : Type 0} (f : Y → ℕ) (g : X → Y) (xs : List X) → sum_by f (map g xs) ≡ sum_by (λ x. f (g x)) xs
mapped-sum f g [] = refl
mapped-sum f g (x ∷ xs) =
    sum_by-cons f (g x) (map g xs) ∙ ap (λ n. f (g x) + n) (mapped-sum f g xs) ∙ sym (sum_by-cons (λ y. f (g y)) x xs)
