-- Receipts that are taken out of lists, from the last record's down.
use Rattle.std.proofs.Common.{◌≡◌, ℕ, zero, suc, ◌+◌, ◌<◌, List, [], ◌∷◌, ◌++◌, length, length-append, map, drop}
use Rattle.std.proofs.Common.{get_or, Bool, true, false, Some, slice_get, refl, sym, ◌∙◌, ap, subst, append-nil, arith}
use Rattle.std.specs.Bool.{Decides}
use Rattle.std.specs.List.{AllByRecursion, remove}
use Rattle.std.specs.Prelude.{IsPermutation, slice_set}
use Rattle.std.specs.declared.alloc.Global.{Global}
use Rattle.std.specs.declared.vec.Vec.{Vec}
use Rattle.std.proofs.lemmas.Bool.{false≢true}
use Rattle.std.proofs.lemmas.List.{length-map}
use Rattle.std.proofs.lemmas.List.Elements.{All-from_recursion, recursion_from_All}
use Rattle.std.proofs.lemmas.List.Sorted.{All-permutation, IsPermutation-append_left, IsPermutation-append_right}
use Rattle.std.proofs.lemmas.List.Sorted.{IsPermutation-map, IsPermutation-middle, IsPermutation-remove}
use Rattle.std.proofs.lemmas.List.Sorted.{IsPermutation-refl, IsPermutation-sym, IsPermutation-trans}
use Rattle.std.proofs.lemmas.List.Sorted.{length_permutation}
use Rattle.std.proofs.lemmas.Option.{slice_get_read, slice_get_within}
use Rattle.nfs_machine.specs.Run.{Record}
use Rattle.nfs_engine.specs.declared.journal.Receipt.{Receipt}
use Rattle.nfs_pool.specs.Eras.{AreTold, IsTellIn, IsTold, IsToldAt, NoneTells, TakesTold, TellAll, told, told_in}
use Rattle.nfs_pool.proofs.ReceiptNumberLemmas.{at_map}
use Rattle.nfs_pool.proofs.ReceiptOrderLemmas.{Above, begins, told-above}

some_same : {X : Type 0} (x y : X) → Some x ≡ Some y → x ≡ y
some_same x y same = cc

-- ---- nowhere
module _ (n : ℕ) (r : Record) where
  pub none_append : (xs ys : List (ℕ × Record)) → NoneTells n r xs → NoneTells n r ys → NoneTells n r (xs ++ ys)
  none_append [] ys x y = y
  none_append (t ∷ xs) ys x y = (x.0, none_append xs ys x.1 y)

  none_above : (xs : List (ℕ × Record)) → Above n xs → NoneTells n r xs
  none_above [] above = tt
  none_above (t ∷ xs) above = (λ is. absurd (omega (arith, above.0, is.number_is)), none_above xs above.1)

  -- where no place tells it
  pub none_placed : (xs : List (ℕ × Record)) → ((k : ℕ) → k < length xs → IsToldAt xs k n r → ⊥) → NoneTells n r xs
  none_placed [] never = tt
  none_placed (t ∷ xs) never = (
    λ is. never 0 (omega arith) (record { tell = t; there = refl; told = is }),
    none_placed xs (λ k h at. never (suc k) (omega (arith, h))
        (record { tell = at.tell; there = at.there; told = at.told })),
  )

  not_there : (xs : List (ℕ × Record)) (k : ℕ) (t : ℕ × Record) → NoneTells n r xs → slice_get xs k ≡ Some t →
      IsTold n r t → ⊥
  not_there [] k t none there is = absurd (no_place k t there)
    where
      no_place : (k : ℕ) (t : ℕ × Record) → slice_get [] k ≡ Some t → ⊥
      no_place k t there = cc
  not_there (x ∷ xs) zero t none there is = none.0 (subst (λ y. IsTold n r y) (sym (some_same x t there)) is)
  not_there (x ∷ xs) (suc k) t none there is = not_there xs k t none.1 there is

  none_moved : (xs ys : List (ℕ × Record)) → IsPermutation xs ys → NoneTells n r xs → NoneTells n r ys
  none_moved xs ys moved none =
      let P = λ (t : ℕ × Record). IsTold n r t → ⊥ in
      recursion_from_All P ys (All-permutation P xs ys moved (All-from_recursion P xs none))

-- ---- one list
-- what is told where the receipt at a place of a list is taken out
pub taken_out : (lists : List (Vec Receipt Global)) (index : ℕ) (list left : Vec Receipt Global) (at : ℕ)
    (x : Receipt) → slice_get lists index ≡ Some list → at < length list.items → x ≡ get_or list.items at x →
    left.items ≡ remove list.items at → IsPermutation (told_in lists) (told x ∷ told_in (slice_set lists index left))
taken_out [] index list left at x there within is rest = absurd (no_list index list there)
  where
    no_list : (k : ℕ) (l : Vec Receipt Global) → slice_get [] k ≡ Some l → ⊥
    no_list k l there = cc
taken_out (l ∷ lists) zero list left at x there within is rest =
    let same : l ≡ list = some_same l list there in
    let one : IsPermutation (map told list.items) (told x ∷ map told left.items) =
    subst (λ (rs : List Receipt). IsPermutation (map told list.items) (told x ∷ map told rs)) (sym rest)
    (IsPermutation-map told list.items (x ∷ remove list.items at) (IsPermutation-remove list.items at x within is)) in
    subst (λ (v : Vec Receipt Global). IsPermutation (map told v.items ++ told_in lists)
    (told x ∷ map told left.items ++ told_in lists)) (sym same)
    (IsPermutation-append_left (told_in lists) (map told list.items) (told x ∷ map told left.items) one)
taken_out (l ∷ lists) (suc index) list left at x there within is rest =
    let others = slice_set lists index left in
    IsPermutation-trans (map told l.items ++ told_in lists) (map told l.items ++ told x ∷ told_in others)
    (told x ∷ map told l.items ++ told_in others)
    (IsPermutation-append_right (map told l.items) (told_in lists) (told x ∷ told_in others)
    (taken_out lists index list left at x there within is rest))
    (IsPermutation-middle (map told l.items) (told x) (told_in others))

-- the receipt that tells it is taken out
pub takes_there : (lists : List (Vec Receipt Global)) (index at n : ℕ) (r : Record) → IsTellIn lists index at n r →
    (list left : Vec Receipt Global) (x : Receipt) → list ≡ get_or lists index list → x ≡ get_or list.items at x →
    left.items ≡ remove list.items at → TakesTold n r (told_in lists) (told_in (slice_set lists index left)) true
takes_there lists index at n r is list left x item receipt rest =
    let there : slice_get lists index ≡ Some list =
    slice_get_read lists (length lists) index list refl (slice_get_within lists index is.0 is.1) item in
    let same : is.0 ≡ list = some_same is.0 list (sym is.1 ∙ there) in
    let told_at : IsToldAt (map told list.items) at n r =
    subst (λ (v : Vec Receipt Global). IsToldAt (map told v.items) at n r) same is.2 in
    let within : at < length list.items =
    omega (arith, slice_get_within (map told list.items) at told_at.tell told_at.there, length-map list.items told) in
    let here : told_at.tell ≡ told x =
    some_same told_at.tell (told x)
    (sym told_at.there ∙ at_map told list.items at x (map told list.items) refl within receipt) in (
      told x,
      subst (λ (t : ℕ × Record). IsTold n r t) here told_at.told,
      taken_out lists index list left at x there within receipt rest,
    )

-- ---- all records
-- the records from this place on are told by what was taken out
pub record Taking (before : ℕ) (records : List Record) (all : List (ℕ × Record)) (left : ℕ)
    (rest : List (ℕ × Record)) : Type 0 where
  pub taken : List (ℕ × Record)
  pub moved : IsPermutation all (taken ++ rest)
  pub are : AreTold (before + left) (drop left records) taken

drop_whole : (records : List Record) → drop (length records) records ≡ []
drop_whole [] = refl
drop_whole (r ∷ records) = drop_whole records

drop_at : (records : List Record) (k : ℕ) (r : Record) → slice_get records k ≡ Some r →
    drop k records ≡ r ∷ drop (k + 1) records
drop_at [] k r there = absurd (no_record k r there)
  where
    no_record : (k : ℕ) (r : Record) → slice_get [] k ≡ Some r → ⊥
    no_record k r there = cc
drop_at (x ∷ records) zero r there = ap (λ (y : Record). y ∷ records) (some_same x r there)
drop_at (x ∷ records) (suc k) r there =
    let more : suc (k + 1) ≡ suc k + 1 = omega arith in
    drop_at records k r there ∙ ap (λ (n : ℕ). r ∷ drop n (x ∷ records)) more

module _ (before : ℕ) (records : List Record) (all : List (ℕ × Record)) where
  pub taking_none : Taking before records all (length records) all
  taking_none = record {
    taken = [];
    moved = IsPermutation-refl all;
    are = subst (λ (rs : List Record). AreTold (before + length records) rs []) (sym (drop_whole records)) tt;
  }

  -- one more
  pub taking_next : (left : ℕ) (old new : List (ℕ × Record)) (r : Record) → slice_get records left ≡ Some r →
      Taking before records all (left + 1) old → TakesTold (before + left + 1) r old new true →
      Taking before records all left new
  taking_next left old new r there t takes = record {
    taken = takes.0 ∷ t.taken;
    moved = IsPermutation-trans all (t.taken ++ old) (takes.0 ∷ t.taken ++ new) t.moved
        (IsPermutation-trans (t.taken ++ old) (t.taken ++ takes.0 ∷ new) (takes.0 ∷ t.taken ++ new)
        (IsPermutation-append_right t.taken old (takes.0 ∷ new) takes.2)
        (IsPermutation-middle t.taken takes.0 new));
    are = subst (λ (rs : List Record). AreTold (before + left) rs (takes.0 ∷ t.taken))
        (sym (drop_at records left r there))
        (takes.1, subst (λ (n : ℕ). AreTold n (drop (left + 1) records) t.taken) (omega arith) t.are);
  }

  -- one is told by none
  pub taking_stuck : (left : ℕ) (rest : List (ℕ × Record)) (r : Record) → slice_get records left ≡ Some r →
      Taking before records all (left + 1) rest → NoneTells (before + left + 1) r rest →
      TellAll before records all → ⊥
  taking_stuck left rest r there t none tell =
      let n = before + left + 1 in
      let above = told-above n (before + (left + 1)) (drop (left + 1) records) t.taken (omega arith) t.are in
      let nowhere : NoneTells n r (t.taken ++ rest) = none_append n r t.taken rest (none_above n r t.taken above)
      none in
      let none_told : NoneTells n r tell.tells =
      none_moved n r all tell.tells tell.moved
      (none_moved n r (t.taken ++ rest) all (IsPermutation-sym all (t.taken ++ rest) t.moved) nowhere) in
      let at = begins before records tell.tells tell.are left r there in
      not_there n r tell.tells left at.tell none_told at.there at.told

  nothing_left : (left : List (ℕ × Record)) → length left ≡ 0 → left ≡ []
  nothing_left [] none = refl
  nothing_left (x ∷ left) none = absurd (omega (arith, none))

  are_many : (b : ℕ) (rs : List Record) (ts : List (ℕ × Record)) → AreTold b rs ts → length ts ≡ length rs
  are_many b [] [] are = refl
  are_many b [] (t ∷ ts) are = absurd are
  are_many b (r ∷ rs) [] are = absurd are
  are_many b (r ∷ rs) (t ∷ ts) are = omega (arith, are_many (b + 1) rs ts are.1)

  -- all are taken
  pub taking_all : (rest : List (ℕ × Record)) → length all ≡ length records → Taking before records all 0 rest →
      TellAll before records all
  taking_all rest count t =
      let are : AreTold before records t.taken = subst (λ (n : ℕ). AreTold n records t.taken) (omega arith) t.are in
      let none : rest ≡ [] = nothing_left rest
      (omega (
        arith,
        count,
        are_many before records t.taken are,
        length_permutation all (t.taken ++ rest) t.moved,
        length-append t.taken rest,
      )) in
      record {
        tells = t.taken;
        moved = subst (λ (ts : List (ℕ × Record)). IsPermutation all ts)
            (ap (λ (ts : List (ℕ × Record)). t.taken ++ ts) none ∙ append-nil t.taken) t.moved;
        are = are;
      }
