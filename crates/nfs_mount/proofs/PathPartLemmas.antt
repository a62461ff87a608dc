-- What a path lacks in its names it lacks in all its pieces: the others are empty.
use Rattle.std.proofs.Common.{◌≡◌, ◌==◌, ℕ, ◌+◌, ◌≤◌, Bool, true, false, not, cond, nat_lt, List, [], ◌∷◌, length}
use Rattle.std.proofs.Common.{arith}
use Rattle.std.proofs.lemmas.Bool.Decides.{nat_tests}
use Rattle.std.proofs.lemmas.Map.Views.{any-filter_same}
use Rattle.std.specs.List.{filter, list_any}
use Rattle.nfs_machine.specs.Paths.{in_front, is_dots, parts, pieces, slash}

-- no name stands in an empty piece
abbrev is_empty : List ℕ → Bool
is_empty text = length text == 0

pub any_dots : (path : List ℕ) → list_any is_dots (parts path) ≡ list_any is_dots (pieces path)
any_dots path = any-filter_same is_dots (λ piece. not (is_empty piece)) true dots (pieces path)
  where
    dots : (piece : List ℕ) → is_dots piece ≡ true → not (is_empty piece) ≡ true
    dots [] e = cc
    dots (b ∷ piece) e = grind (arith, nat_tests)

pub any_long : (path : List ℕ) → list_any (λ part. nat_lt 255 (length part)) (parts path) ≡ list_any
    (λ part. nat_lt 255 (length part)) (pieces path)
any_long path = any-filter_same (λ part. nat_lt 255 (length part)) (λ piece. not (is_empty piece)) true long
    (pieces path)
  where
    long : (piece : List ℕ) → nat_lt 255 (length piece) ≡ true → not (is_empty piece) ≡ true
    long piece e = grind (arith, nat_tests)

-- a path has no more names than bytes
pub length_parts : (path : List ℕ) → length (parts path) ≤ length path
length_parts [] = omega arith
length_parts (b ∷ path) =
    elim (b == slash) as (λ (s : Bool). length
    (filter (λ piece. not (is_empty piece)) (cond s ([] ∷ pieces path) (in_front b (pieces path)))) ≤ length
    (b ∷ path)) [
      | true ↦ omega (arith, length_parts path)
      | false ↦ omega (arith, length_parts path, one_more b (pieces path))
    ]
  where
    one_more : (b : ℕ) (ps : List (List ℕ)) → length (filter (λ piece. not (is_empty piece)) (in_front b ps)) ≤ length
        (filter (λ piece. not (is_empty piece)) ps) + 1
    one_more b [] = omega arith
    one_more b (p ∷ ps) =
        let full : is_empty (b ∷ p) ≡ false = grind (arith, nat_tests) in
        rw full (elim (is_empty p) as (λ (e : Bool). length ((b ∷ p) ∷ filter (λ piece. not (is_empty piece)) ps) ≤
        length (cond (not e) (p ∷ filter (λ piece. not (is_empty piece)) ps)
        (filter (λ piece. not (is_empty piece)) ps)) + 1) [
          | true ↦ omega arith
          | false ↦ omega arith
        ])
