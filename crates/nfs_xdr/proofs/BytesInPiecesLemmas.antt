-- Bytes in pieces: what one more piece, or so many zeros, make of them.
use Rattle.std.proofs.Common.{◌≡◌, ℕ, ◌+◌, ◌-◌, ◌<◌, ◌≤◌, List, [], ◌∷◌, ◌++◌, length, take, get_or, replicate}
use Rattle.std.proofs.Common.{refl, ap, sym, ◌∙◌, arith, append_assoc, drop, min, Bool, true, false}
use Rattle.std.specs.Prelude.{◌==◌, ◌&&◌, nat_eq}
use Rattle.std.specs.Cmp.Lexicographic.{pointwise}
use Rattle.std.specs.List.{concat, list_all, zip}
use Rattle.std.proofs.Math.Bool.{and_assoc}
use Rattle.std.proofs.lemmas.List.{length-drop, length-take-le, replicate-append-replicate, take-append-drop, take_all}
use Rattle.std.proofs.lemmas.List.{take_more}
use Rattle.std.proofs.lemmas.List.Concat.{concat_is}
use Rattle.std.proofs.lemmas.List.Folds.{length-flat_map-take}
use Rattle.bytes.proofs.Chunks.{concat_push}

-- the pieces so far, and the next one
pub next-piece : (pieces : List (List ℕ)) (i : ℕ) (piece : List ℕ) → i < length pieces → piece ≡ get_or pieces i piece →
    concat (take (i + 1) pieces) ≡ concat (take i pieces) ++ piece
next-piece pieces i piece within is =
    ap concat (take_more pieces i piece within) ∙ concat_push (take i pieces) (get_or pieces i piece)
    ∙ ap (λ p. concat (take i pieces) ++ p) (sym is)

-- they are no more than all
pub next-fits : (pieces : List (List ℕ)) (i : ℕ) (piece : List ℕ) → i < length pieces → piece ≡ get_or pieces i piece →
    length (concat (take i pieces)) + length piece ≤ length (concat pieces)
next-fits pieces i piece within is =
    let more = length-flat_map-take (λ p. p) pieces i piece within in
    let front = ap length (concat_is (take i pieces)) in
    let all = ap length (concat_is pieces) in
    let last = ap length is in
    omega (arith, more, front, all, last)

-- some of the zeros that are left were added
pub zeros-more : (now next piece : List ℕ) (left here : ℕ) → here ≤ left → piece ≡ replicate here 0 →
    next ≡ now ++ piece → next ++ replicate (left - here) 0 ≡ now ++ replicate left 0
zeros-more now next piece left here few zeros is =
    let whole : here + (left - here) ≡ left = omega (arith, few) in
    ap (λ xs. xs ++ replicate (left - here) 0) (is ∙ ap (λ p. now ++ p) zeros)
    ∙ append_assoc now (replicate here 0) (replicate (left - here) 0)
    ∙ ap (λ xs. now ++ xs) (replicate-append-replicate here (left - here) 0 ∙ ap (λ n. replicate n 0) whole)

-- as long, and the same pair by pair
same-zipped : (xs ys : List ℕ) → length xs ≡ length ys →
    list_all (λ pair. pair.0 == pair.1) (zip xs ys) ≡ pointwise nat_eq xs ys
same-zipped [] [] long = refl
same-zipped [] (y ∷ ys) long = absurd (omega (arith, long))
same-zipped (x ∷ xs) [] long = absurd (omega (arith, long))
same-zipped (x ∷ xs) (y ∷ ys) long = ap (λ b. nat_eq x y && b) (same-zipped xs ys (omega (arith, long)))

pub same-pieces : (ours theirs : List (List ℕ)) (our their : List ℕ) → concat ours ≡ our → concat theirs ≡ their →
    length our ≡ length their → list_all (λ pair. pair.0 == pair.1) (zip (concat ours) (concat theirs))
    ≡ pointwise nat_eq our their
same-pieces ours theirs our their o t long =
    (λ j. list_all (λ pair. pair.0 == pair.1) (zip (o j) (t j))) ∙ same-zipped our their long

-- whether both agree as far as both go, where each is what is left of a piece, and the pieces behind it
abbrev pub agreed : (our : List ℕ) (ours : List (List ℕ)) (their : List ℕ) (theirs : List (List ℕ)) → Bool
agreed our ours their theirs = list_all (λ pair. pair.0 == pair.1) (zip (our ++ concat ours) (their ++ concat theirs))

-- how many bytes are left, and how many pieces behind the first
abbrev pub left-of : (front : List ℕ) (pieces : List (List ℕ)) → ℕ
left-of front pieces = length (front ++ concat pieces) + length pieces

-- fronts of one length, and what is behind them
fronts-apart : (xs ys behind beyond : List ℕ) → length xs ≡ length ys →
    list_all (λ pair. pair.0 == pair.1) (zip (xs ++ behind) (ys ++ beyond))
    ≡ (pointwise nat_eq xs ys && list_all (λ pair. pair.0 == pair.1) (zip behind beyond))
fronts-apart [] [] behind beyond long = refl
fronts-apart [] (y ∷ ys) behind beyond long = absurd (omega (arith, long))
fronts-apart (x ∷ xs) [] behind beyond long = absurd (omega (arith, long))
fronts-apart (x ∷ xs) (y ∷ ys) behind beyond long =
    ap (λ b. nat_eq x y && b) (fronts-apart xs ys behind beyond (omega (arith, long)))
    ∙ sym (and_assoc (nat_eq x y) (pointwise nat_eq xs ys) (list_all (λ pair. pair.0 == pair.1) (zip behind beyond)))

-- so many bytes of both, and what is behind them
pub front-apart : (our their : List ℕ) (ours theirs : List (List ℕ)) (n : ℕ) → n ≤ length our → n ≤ length their →
    agreed our ours their theirs
    ≡ (pointwise nat_eq (take n our) (take n their) && agreed (drop n our) ours (drop n their) theirs)
front-apart our their ours theirs n within inside =
    let long = length-take-le n our within ∙ sym (length-take-le n their inside) in
    let apart : (xs ys : List ℕ) → xs ++ ys ≡ take n xs ++ (drop n xs ++ ys)
    = λ xs ys. ap (λ zs. zs ++ ys) (sym (take-append-drop n xs)) ∙ append_assoc (take n xs) (drop n xs) ys in
    (λ j. list_all (λ pair. pair.0 == pair.1) (zip (apart our (concat ours) j) (apart their (concat theirs) j)))
    ∙ fronts-apart (take n our) (take n their) (drop n our ++ concat ours) (drop n their ++ concat theirs) long

-- what a slice from a place on has
tail-is : (xs : List ℕ) (n : ℕ) → take (length xs - n) (drop n xs) ≡ drop n xs
tail-is xs n = take_all (length xs - n) (drop n xs) (omega (arith, length-drop n xs))

-- behind fronts that are the same
pub front-gone : (our their : List ℕ) (ours theirs : List (List ℕ)) (n : ℕ) (all : Bool) →
    n ≡ min (length our) (length their) → pointwise nat_eq (take n our) (take n their) ≡ true →
    agreed our ours their theirs ≡ all →
    agreed (take (length our - n) (drop n our)) ours (take (length their - n) (drop n their)) theirs ≡ all
front-gone our their ours theirs n all least same now =
    let apart = front-apart our their ours theirs n (omega (arith, least)) (omega (arith, least)) in
    (λ j. agreed (tail-is our n j) ours (tail-is their n j) theirs)
    ∙ sym (ap (λ b. b && agreed (drop n our) ours (drop n their) theirs) same)
    ∙ sym apart ∙ now

-- fronts that differ
pub fronts-differ : (our their : List ℕ) (ours theirs : List (List ℕ)) (n : ℕ) (all : Bool) →
    n ≡ min (length our) (length their) → pointwise nat_eq (take n our) (take n their) ≡ false →
    agreed our ours their theirs ≡ all → false ≡ all
fronts-differ our their ours theirs n all least other now =
    let apart = front-apart our their ours theirs n (omega (arith, least)) (omega (arith, least)) in
    sym (ap (λ b. b && agreed (drop n our) ours (drop n their) theirs) other) ∙ sym apart ∙ now

zipped-none : (xs : List ℕ) → list_all (λ pair. pair.0 == pair.1) (zip xs []) ≡ true
zipped-none [] = refl
zipped-none (x ∷ xs) = refl

-- where nothing is left of the others, both agree
pub none-left : (our : List ℕ) (ours : List (List ℕ)) (their : List ℕ) (theirs : List (List ℕ)) (all : Bool) →
    length their ≡ 0 → length theirs ≡ 0 → agreed our ours their theirs ≡ all → true ≡ all
none-left our ours (t ∷ ts) theirs all none over now = absurd (omega (arith, none))
none-left our ours [] (p ∷ ps) all none over now = absurd (omega (arith, over))
none-left our ours [] [] all none over now = sym (zipped-none (our ++ concat ours)) ∙ now
