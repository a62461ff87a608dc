-- Receipts in the order of their numbers, beside the records.
use Rattle.std.proofs.Common.{◌≡◌, ℕ, zero, suc, ◌+◌, ◌<◌, ◌≤◌, ◌&&◌, ◌==◌, Bool, true, false, List, [], ◌∷◌, ◌++◌}
use Rattle.std.proofs.Common.{length, length-append, map, take, get_or, Some, None, option_map, refl, sym, ◌∙◌, ap}
use Rattle.std.proofs.Common.{subst, append_assoc, append-nil, arith}
use Rattle.std.proofs.Common.{slice_get}
use Rattle.std.proofs.Math.Bridge.{le_prop}
use Rattle.std.specs.Bool.{Decides}
use Rattle.std.specs.Cmp.{first_so, second_so, unsigned_Decides}
use Rattle.std.proofs.lemmas.Bool.{and_from, false≢true}
use Rattle.std.specs.Prelude.{IsPermutation}
use Rattle.std.specs.declared.alloc.Global.{Global}
use Rattle.std.specs.declared.vec.Vec.{Vec}
use Rattle.std.proofs.lemmas.List.{length-map, take_more}
use Rattle.std.proofs.lemmas.List.Sorted.{length_permutation}
use Rattle.std.proofs.lemmas.Option.{slice_get-map, slice_get_past, slice_get_read}
use Rattle.nfs_machine.specs.Exports.{ExportValue}
use Rattle.nfs_machine.specs.Run.{Arrival, FromHost, NewExports, Received, Record, moment_in}
use Rattle.nfs_machine.specs.SameExports.{exports_decide, same_exports}
use Rattle.nfs_machine.specs.declared.moment.Moment.{Moment}
use Rattle.nfs_engine.specs.declared.journal.Receipt.{Receipt}
use Rattle.nfs_pool.specs.Eras.{AreTold, BeginSo, IfMissing, IsTold, IsToldAt, StandsAt, TellAll, receipts_count, told}
use Rattle.nfs_pool.specs.Eras.{told_by, told_each, told_in, told_value}
use Rattle.nfs_pool.specs.Seats.{SeatValue}
use Rattle.nfs_pool.specs.declared.comparing.Told.{Told}
use Rattle.nfs_pool.specs.declared.sent.FinishError.{FinishError}
use Rattle.nfs_pool.specs.declared.sent.FinishError.TheVariants.{Memory, Missing}

some_same : {X : Type 0} (x y : X) → Some x ≡ Some y → x ≡ y
some_same x y same = cc

none_some : {X : Type 0} (x : X) → None ≡ Some x → ⊥
none_some x same = cc

-- ---- all places
-- as many, and each tells the record at its place
are-told : (before : ℕ) (records : List Record) (tells : List (ℕ × Record)) → length tells ≡ length records →
    ((place : ℕ) (r : Record) → slice_get records place ≡ Some r → IsToldAt tells place (before + place + 1) r) →
    AreTold before records tells
are-told before [] [] len each = tt
are-told before [] (t ∷ tells) len each = absurd (omega (arith, len))
are-told before (r ∷ records) [] len each = absurd (omega (arith, len))
are-told before (r ∷ records) (t ∷ tells) len each =
    let at = each 0 r refl in
    let here : at.tell ≡ t = some_same at.tell t (sym at.there) in
    let first : IsTold (before + 1) r t =
    subst (λ (n : ℕ). IsTold n r t) (omega arith)
    (subst (λ (x : ℕ × Record). IsTold (before + 0 + 1) r x) here at.told) in
    let behind : (place : ℕ) (x : Record) → slice_get records place ≡ Some x →
    IsToldAt tells place (before + 1 + place + 1) x =
    λ place x is. (let later = each (suc place) x is in
    record {
      tell = later.tell;
      there = later.there;
      told = subst (λ (n : ℕ). IsTold n x later.tell) (omega arith) later.told;
    }) in
    (first, are-told (before + 1) records tells (omega (arith, len)) behind)

pub tell-all : (before : ℕ) (records : List Record) (receipts tells : List (ℕ × Record)) →
    IsPermutation receipts tells → length tells ≡ length records → BeginSo before records tells →
    TellAll before records receipts
tell-all before records receipts tells moved len begin =
    record { tells = tells; moved = moved; are = are-told before records tells len begin }

-- ---- a place
module _ (before : ℕ) (records : List Record) (tells : List (ℕ × Record)) (place : ℕ) where
  -- no record is there
  pub stands_past : slice_get records place ≡ None → StandsAt before records tells place
  stands_past none r at = absurd (none_some r (sym none ∙ at))

  pub stands_if : (e : Record) (b : Bool) → slice_get records place ≡ Some e →
      Decides b (IsToldAt tells place (before + place + 1) e) → Decides b (StandsAt before records tells place)
  stands_if e b here told = (
    λ yes x at. subst (λ (y : Record). IsToldAt tells place (before + place + 1) y) (some_same e x (sym here ∙ at))
        (told.0 yes),
    λ stands. told.1 (stands e here),
  )

-- whether a record is told at a place
module _ (tells : List (ℕ × Record)) (place n : ℕ) (r : Record) where
  pub told_there : (t : ℕ × Record) (b : Bool) → slice_get tells place ≡ Some t → Decides b (IsTold n r t) →
      Decides b (IsToldAt tells place n r)
  told_there t b there told = (
    λ yes. record { tell = t; there = there; told = told.0 yes },
    λ is. told.1 (subst (λ (x : ℕ × Record). IsTold n r x) (some_same is.tell t (sym is.there ∙ there)) is.told),
  )

  pub told_nowhere : slice_get tells place ≡ None → Decides false (IsToldAt tells place n r)
  told_nowhere none = (λ no. absurd (false≢true no), λ is. absurd (none_some is.tell (sym none ∙ is.there)))

-- what stands at a place of a list stands there in what is made of it
pub at_map : {A B : Type 0} (v : A → B) (xs : List A) (place : ℕ) (x : A) (ys : List B) → map v xs ≡ ys →
    place < length xs → x ≡ get_or xs place x → slice_get ys place ≡ Some (v x)
at_map v xs place x ys is within item = subst (λ l. slice_get l place ≡ Some (v x)) is
    (slice_get-map v xs place ∙ ap (option_map v) (slice_get_read xs (length xs) place x refl within item))

pub past_map : {A B : Type 0} (v : A → B) (xs : List A) (place : ℕ) (ys : List B) → map v xs ≡ ys →
    length xs ≤ place → slice_get ys place ≡ None
past_map v xs place ys is past = subst (λ l. slice_get l place ≡ None) is
    (slice_get-map v xs place ∙ ap (option_map v) (slice_get_past xs place past))

-- ---- what receipts tell
pub count-told : (seats : List SeatValue) → length (told_by seats) ≡ receipts_count seats
count-told [] = refl
count-told (s ∷ seats) =
    omega (arith, length-append (map told s.receipts) (told_by seats), length-map s.receipts told, count-told seats)

module _ {X : Type 0} (receipts : X → List Receipt) where
  told_each-append : (xs more : List X) →
      told_each receipts (xs ++ more) ≡ told_each receipts xs ++ told_each receipts more
  told_each-append [] more = refl
  told_each-append (x ∷ xs) more =
      ap (λ (ts : List (ℕ × Record)). map told (receipts x) ++ ts) (told_each-append xs more)
      ∙ sym (append_assoc (map told (receipts x)) (told_each receipts xs) (told_each receipts more))

  -- one more
  pub told_each-more : (xs : List X) (x : X) (list : List Receipt) → list ≡ receipts x →
      told_each receipts (xs ++ x ∷ []) ≡ told_each receipts xs ++ map told list
  told_each-more xs x list same =
      told_each-append xs (x ∷ []) ∙ ap (λ (ts : List (ℕ × Record)). told_each receipts xs ++ ts)
      (append-nil (map told (receipts x)) ∙ ap (map told) (sym same))

  pub told_each-next : (xs : List X) (k : ℕ) (x : X) (list : List Receipt) → k < length xs → x ≡ get_or xs k x →
      list ≡ receipts x → told_each receipts (take k xs) ++ map told list ≡ told_each receipts (take (k + 1) xs)
  told_each-next xs k x list within item same =
      sym (told_each-more (take k xs) x list same)
      ∙ ap (λ (y : X). told_each receipts (take k xs ++ y ∷ [])) item
      ∙ ap (told_each receipts) (sym (take_more xs k x within))

-- what was a seat's is a list's
pub told_in-left : (lists new : List (Vec Receipt Global)) (list : Vec Receipt Global) (s : SeatValue)
    (rest seats : List SeatValue) → list.items ≡ s.receipts → new ≡ lists ++ list ∷ [] → seats ≡ s ∷ rest →
    told_in new ++ told_by rest ≡ told_in lists ++ told_by seats
told_in-left lists new list s rest seats same is left =
    ap (λ (ls : List (Vec Receipt Global)). told_in ls ++ told_by rest) is
    ∙ ap (λ (ts : List (ℕ × Record)). ts ++ told_by rest)
    (told_each-more (λ (l : Vec Receipt Global). l.items) lists list s.receipts (sym same))
    ∙ append_assoc (told_in lists) (map told s.receipts) (told_by rest)
    ∙ ap (λ (ss : List SeatValue). told_in lists ++ told_by ss) (sym left)

-- as many more of lists
pub told_in-more : (lists new : List (Vec Receipt Global)) (list : Vec Receipt Global) (s : SeatValue) →
    list.items ≡ s.receipts → new ≡ lists ++ list ∷ [] →
    length (told_in lists) + length s.receipts ≡ length (told_in new)
told_in-more lists new list s same is =
    let more =
    ap length (ap told_in is
    ∙ told_each-more (λ (l : Vec Receipt Global). l.items) lists list s.receipts (sym same)) in
    omega (arith, more, length-append (told_in lists) (map told s.receipts), length-map s.receipts told)

pub told-count : (seats : List SeatValue) (tells : List Told) → IsPermutation (told_by seats) (map told_value tells) →
    length tells ≡ receipts_count seats
told-count seats tells moved =
    sym (length-map tells told_value) ∙ length_permutation (told_by seats) (map told_value tells) moved
    ∙ count-told seats

-- ---- an era that is not ended
pub if_missing-weaker : (e : FinishError) (P Q : Type 0) → (P → Q) → IfMissing e P → IfMissing e Q
if_missing-weaker Missing P Q so is = so is
if_missing-weaker Memory P Q so is = tt

-- ---- moments
abbrev moment : (seconds nanoseconds : ℕ) → nanoseconds < 1000000000 → Moment
moment s n h = record { seconds = s; nanoseconds = n; in_range = h }

parts_same : (a b : Moment) → a.seconds ≡ b.seconds → a.nanoseconds ≡ b.nanoseconds → a ≡ b
parts_same a b p q =
    subst (λ n. (h : n < 1000000000) → a ≡ moment b.seconds n h) q
    (λ h i. moment (p i) a.nanoseconds (le_prop a.in_range h i)) b.in_range

moment_same : (a b : Moment) → (a.seconds == b.seconds && a.nanoseconds == b.nanoseconds) ≡ true → a ≡ b
moment_same a b same = parts_same a b
    ((unsigned_Decides a.seconds b.seconds).0 (first_so (a.seconds == b.seconds) (a.nanoseconds == b.nanoseconds) same))
    ((unsigned_Decides a.nanoseconds b.nanoseconds).0
    (second_so (a.seconds == b.seconds) (a.nanoseconds == b.nanoseconds) same))

-- two that came in from one host with the same bytes came alike where their moments are one
pub received_same : (a b : Received) (t : Bool) → a.host ≡ b.host → a.bytes ≡ b.bytes →
    t ≡ (a.moment.seconds == b.moment.seconds && a.moment.nanoseconds == b.moment.nanoseconds) → Decides t (a ≡ b)
received_same a b t host bytes is = (
  λ yes. (let moment = moment_same a.moment b.moment (sym is ∙ yes) in
      λ i. record { host = host i; bytes = bytes i; moment = moment i }),
  λ same. is ∙ and_from (a.moment.seconds == b.moment.seconds) (a.moment.nanoseconds == b.moment.nanoseconds)
      ((unsigned_Decides a.moment.seconds b.moment.seconds).1 (ap (λ (r : Received). r.moment.seconds) same))
      ((unsigned_Decides a.moment.nanoseconds b.moment.nanoseconds).1
      (ap (λ (r : Received). r.moment.nanoseconds) same)),
)

no_exports : (a : Received) (exports : List ExportValue) (moment : Moment) → FromHost a ≡ NewExports exports moment → ⊥
no_exports a exports moment same = cc

one_list : (es fs : List ExportValue) (m n : Moment) → NewExports es m ≡ NewExports fs n → es ≡ fs
one_list es fs m n same = cc

pub exports_alike : (es fs : List ExportValue) (m n : Moment) (t : Bool) → same_exports es fs ≡ true →
    t ≡ (m.seconds == n.seconds && m.nanoseconds == n.nanoseconds) → Decides t (NewExports es m ≡ NewExports fs n)
exports_alike es fs m n t lists is = (
  λ yes. (let moment = moment_same m n (sym is ∙ yes) in
      let list = (exports_decide es fs).0 lists in λ i. NewExports (list i) (moment i)),
  λ same. is ∙ and_from (m.seconds == n.seconds) (m.nanoseconds == n.nanoseconds)
      ((unsigned_Decides m.seconds n.seconds).1 (ap (λ (a : Arrival). (moment_in a).seconds) same))
      ((unsigned_Decides m.nanoseconds n.nanoseconds).1 (ap (λ (a : Arrival). (moment_in a).nanoseconds) same)),
)

pub lists_apart : (es fs : List ExportValue) (m n : Moment) → same_exports es fs ≡ false →
    Decides false (NewExports es m ≡ NewExports fs n)
lists_apart es fs m n differ = (
  λ yes. absurd (false≢true yes),
  λ same. sym differ ∙ (exports_decide es fs).1 (one_list es fs m n same),
)

-- ---- places from the first one on
pub one_more : (P : ℕ → Type 0) (n : ℕ) → ((k : ℕ) → k < n → P k) → P n → (k : ℕ) → k < n + 1 → P k
one_more P zero old here zero h = here
one_more P zero old here (suc k) h = absurd (omega (arith, h))
one_more P (suc n) old here zero h = old zero (omega arith)
one_more P (suc n) old here (suc k) h =
    one_more (λ m. P (suc m)) n (λ j g. old (suc j) (omega (arith, g))) here k (omega (arith, h))
