-- What tells the records, each once, begins with them where it is in the order of its numbers.
use Rattle.std.proofs.Common.{◌≡◌, ℕ, zero, suc, ◌+◌, ◌<◌, ◌≤◌, Bool, true, false, cond, leb, List, [], ◌∷◌, length}
use Rattle.std.proofs.Common.{map, Some, None, refl, sym, ◌∙◌, ap, subst, arith}
use Rattle.std.specs.List.{AllByRecursion, sum_by}
use Rattle.std.specs.List.Sorted.{IsNonDecreasingBy}
use Rattle.std.specs.Prelude.{IsPermutation, slice_index_or}
use Rattle.std.proofs.lemmas.Bool.{le-leb, leb-false, leb-true, lt-leb}
use Rattle.std.proofs.lemmas.List.Elements.{All-from_recursion, recursion_from_All}
use Rattle.std.proofs.lemmas.List.Sorted.{All-permutation, IsPermutation-sym, IsPermutation-trans, sum_by-IsPermutation}
use Rattle.std.proofs.lemmas.List.Sums.{sum_by-cons}
use Rattle.std.proofs.lemmas.Option.{slice_get_past}
use Rattle.nfs_machine.specs.Run.{Record}
use Rattle.nfs_pool.specs.Eras.{AreTold, BeginSo, IsTold, TellAll, told_number, told_value}
use Rattle.nfs_pool.specs.declared.comparing.Told.{Told}

-- ---- numbers
-- their numbers do not fall
abbrev Rise : List (ℕ × Record) → Type 0
Rise [] = Unit {0}
Rise (x ∷ xs) = AllByRecursion (λ (y : ℕ × Record). x.0 ≤ y.0) xs × Rise xs

-- they are above this one
abbrev pub Above : ℕ → List (ℕ × Record) → Type 0
Above n xs = AllByRecursion (λ (x : ℕ × Record). n < x.0) xs

-- what these weigh together
abbrev weigh : (ℕ × Record → ℕ) → List (ℕ × Record) → ℕ
weigh f [] = 0
weigh f (x ∷ xs) = f x + weigh f xs

-- 1 where the number is not above this one
abbrev low : ℕ → ℕ × Record → ℕ
low n x = cond (leb x.0 n) 1 0

low-one : (n : ℕ) (x : ℕ × Record) → x.0 ≤ n → low n x ≡ 1
low-one n x h = ap (λ (t : Bool). cond t 1 0) (le-leb x.0 n h)

low-zero : (n : ℕ) (x : ℕ × Record) → n < x.0 → low n x ≡ 0
low-zero n x h = ap (λ (t : Bool). cond t 1 0) (lt-leb x.0 n h)

above-by_low : (n : ℕ) (x : ℕ × Record) → low n x ≡ 0 → n < x.0
above-by_low n x z = elim (leb x.0 n) as (λ t. leb x.0 n ≡ t → n < x.0) [
  | true ↦ λ is. absurd (omega (arith, z, low-one n x (leb-true x.0 n is)))
  | false ↦ λ is. leb-false x.0 n is
] refl

none-low : (n : ℕ) (xs : List (ℕ × Record)) → Above n xs → weigh (low n) xs ≡ 0
none-low n [] all = refl
none-low n (x ∷ xs) all = omega (arith, low-zero n x all.0, none-low n xs all.1)

all-above : (n : ℕ) (xs : List (ℕ × Record)) → weigh (low n) xs ≡ 0 → Above n xs
all-above n [] z = tt
all-above n (x ∷ xs) z = (above-by_low n x (omega (arith, z)), all-above n xs (omega (arith, z)))

above-lower : (m n : ℕ) (xs : List (ℕ × Record)) → m < n →
    AllByRecursion (λ (y : ℕ × Record). n ≤ y.0) xs → Above m xs
above-lower m n [] h all = tt
above-lower m n (x ∷ xs) h all = (omega (arith, h, all.0), above-lower m n xs h all.1)

-- what is told behind a number is above it
pub told-above : (n before : ℕ) (records : List Record) (ys : List (ℕ × Record)) → n ≤ before →
    AreTold before records ys → Above n ys
told-above n before [] [] h are = tt
told-above n before [] (y ∷ ys) h are = absurd are
told-above n before (r ∷ records) [] h are = absurd are
told-above n before (r ∷ records) (y ∷ ys) h are =
    (omega (arith, h, are.0.number_is), told-above n (before + 1) records ys (omega (arith, h)) are.1)

-- ---- the same in another order
-- however they are weighed, these weigh as much as those
abbrev WeighAlike : (xs ys : List (ℕ × Record)) → Type 0
WeighAlike xs ys = (f : ℕ × Record → ℕ) → weigh f xs ≡ weigh f ys

weaker : (P Q : ℕ × Record → Type 0) → ((x : ℕ × Record) → P x → Q x) → (xs : List (ℕ × Record)) →
    AllByRecursion P xs → AllByRecursion Q xs
weaker P Q so [] all = tt
weaker P Q so (x ∷ xs) all = (so x all.0, weaker P Q so xs all.1)

above-both : (P : ℕ × Record → Type 0) (n : ℕ) (xs : List (ℕ × Record)) →
    AllByRecursion (λ (x : ℕ × Record). n < x.0 → P x) xs → Above n xs → AllByRecursion P xs
above-both P n [] all above = tt
above-both P n (x ∷ xs) all above = (all.0 above.0, above-both P n xs all.1 above.1)

-- the first of these tells the first record, and the others are the others
module _ (n : ℕ) (x y : ℕ × Record) (xs ys : List (ℕ × Record)) (is : y.0 ≡ n) (behind : Above n ys)
    (rises : AllByRecursion (λ (z : ℕ × Record). x.0 ≤ z.0) xs) (alike : WeighAlike (x ∷ xs) (y ∷ ys))
    (among : (P : ℕ × Record → Type 0) → AllByRecursion P (y ∷ ys) → AllByRecursion P (x ∷ xs)) where
  one-low : low n x + weigh (low n) xs ≡ 1
  one-low = omega (arith, alike (low n), low-one n y (omega (arith, is)), none-low n ys behind)

  first-low : x.0 ≤ n
  first-low = elim (leb x.0 n) as (λ t. leb x.0 n ≡ t → x.0 ≤ n) [
    | true ↦ λ yes. leb-true x.0 n yes
    | false ↦ λ no. (let high = leb-false x.0 n no in
        absurd (omega (arith, one-low, low-zero n x high, none-low n xs (above-lower n x.0 xs high rises))))
  ] refl

  rest-above : Above n xs
  rest-above = all-above n xs (omega (arith, one-low, low-one n x first-low))

  first-same : x ≡ y
  first-same = (among (λ (z : ℕ × Record). z.0 ≤ n → z ≡ y) (
    λ _. refl,
    weaker (λ (z : ℕ × Record). n < z.0) (λ (z : ℕ × Record). z.0 ≤ n → z ≡ y)
        (λ z high here. absurd (omega (arith, high, here))) ys behind,
  )).0 first-low

  rest-alike : WeighAlike xs ys
  rest-alike f = omega (arith, alike f, ap f first-same)

  rest-among : (P : ℕ × Record → Type 0) → AllByRecursion P ys → AllByRecursion P xs
  rest-among P all = above-both P n xs (among (λ (z : ℕ × Record). n < z.0 → P z) (
    λ high. absurd (omega (arith, high, is)),
    weaker P (λ (z : ℕ × Record). n < z.0 → P z) (λ z holds high. holds) ys all,
  )).1 rest-above

in-order : (before : ℕ) (records : List Record) (ys : List (ℕ × Record)) → AreTold before records ys →
    (xs : List (ℕ × Record)) → Rise xs → WeighAlike xs ys →
    ((P : ℕ × Record → Type 0) → AllByRecursion P ys → AllByRecursion P xs) → AreTold before records xs
in-order before [] [] are [] rise alike among = tt
in-order before [] [] are (x ∷ xs) rise alike among = absurd (omega (arith, alike (λ _. 1)))
in-order before [] (y ∷ ys) are xs rise alike among = absurd are
in-order before (r ∷ records) [] are xs rise alike among = absurd are
in-order before (r ∷ records) (y ∷ ys) are [] rise alike among = absurd (omega (arith, alike (λ _. 1)))
in-order before (r ∷ records) (y ∷ ys) are (x ∷ xs) rise alike among =
    let behind = told-above (before + 1) (before + 1) records ys (omega arith) are.1 in
    let n = before + 1 in
    let same = first-same n x y xs ys are.0.number_is behind rise.0 alike among in (
      subst (λ (t : ℕ × Record). IsTold n r t) (sym same) are.0,
      in-order n records ys are.1 xs rise.1
          (rest-alike n x y xs ys are.0.number_is behind rise.0 alike among)
          (rest-among n x y xs ys are.0.number_is behind rise.0 alike among),
    )

-- ---- each record at its place
some_same : {X : Type 0} (x y : X) → Some x ≡ Some y → x ≡ y
some_same x y same = cc

none_some : {X : Type 0} (x : X) → None ≡ Some x → ⊥
none_some x same = cc

pub begins : (before : ℕ) (records : List Record) (tells : List (ℕ × Record)) → AreTold before records tells →
    BeginSo before records tells
begins before [] tells are place r at =
    absurd (none_some r (sym (slice_get_past [] place (omega arith)) ∙ at))
begins before (r ∷ records) [] are place x at = absurd are
begins before (r ∷ records) (t ∷ tells) are zero x at = record {
  tell = t;
  there = refl;
  told = subst (λ (n : ℕ). IsTold n x t) (omega arith)
      (subst (λ (y : Record). IsTold (before + 1) y t) (some_same r x at) are.0);
}
begins before (r ∷ records) (t ∷ tells) are (suc place) x at =
    let later = begins (before + 1) records tells are.1 place x at in
    record {
      tell = later.tell;
      there = later.there;
      told = subst (λ (n : ℕ). IsTold n x later.tell) (omega arith) later.told;
    }

-- ---- what was sorted
weigh-sum : (f : ℕ × Record → ℕ) (xs : List (ℕ × Record)) → weigh f xs ≡ sum_by f xs
weigh-sum f [] = refl
weigh-sum f (x ∷ xs) = omega (arith, sum_by-cons f x xs, weigh-sum f xs)

not-under : (n : ℕ) (tells : List Told) →
    ((k : ℕ) (d : Told) → k < length tells → n ≤ told_number (slice_index_or tells k d)) →
    AllByRecursion (λ (y : ℕ × Record). n ≤ y.0) (map told_value tells)
not-under n [] all = tt
not-under n (t ∷ tells) all =
    (all 0 t (omega arith), not-under n tells (λ k d h. all (suc k) d (omega (arith, h))))

sorted-rise : (tells : List Told) → IsNonDecreasingBy told_number tells → Rise (map told_value tells)
sorted-rise [] sorted = tt
sorted-rise (t ∷ tells) sorted = (
  not-under t.number tells (λ k d h. sorted 0 (suc k) d (omega arith) (omega (arith, h))),
  sorted-rise tells (λ i j d below within. sorted (suc i) (suc j) d (omega (arith, below)) (omega (arith, within))),
)

-- receipts that tell the records, each once, begin with them when they are sorted
pub begin-sorted : (before : ℕ) (records : List Record) (receipts : List (ℕ × Record)) (tells : List Told) →
    IsPermutation receipts (map told_value tells) → IsNonDecreasingBy told_number tells →
    TellAll before records receipts → BeginSo before records (map told_value tells)
begin-sorted before records receipts tells moved sorted all =
    let xs = map told_value tells in
    let ys = all.tells in
    let permuted : IsPermutation ys xs =
    IsPermutation-trans ys receipts xs (IsPermutation-sym receipts ys all.moved) moved in
    begins before records xs (in-order before records ys all.are xs (sorted-rise tells sorted)
    (λ f. weigh-sum f xs ∙ sum_by-IsPermutation f ys xs permuted ∙ sym (weigh-sum f ys))
    (λ P among. recursion_from_All P xs (All-permutation P ys xs permuted (All-from_recursion P ys among))))
