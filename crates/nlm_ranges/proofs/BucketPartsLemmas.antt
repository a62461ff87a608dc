-- The parts of a bucket: what is found in them, and what one of them has more or less.
use Rattle.std.proofs.Common.{◌≡◌, ◌==◌, ◌+◌, ◌≤◌, ℕ, suc, Bool, true, false, cond, not, List, [], ◌∷◌, ◌++◌}
use Rattle.std.proofs.Common.{Option, Some, None, drop, filter, find, length, nat_lt, take}
use Rattle.std.proofs.Common.{arith, refl, sym, ◌∙◌, ap, subst}
use Rattle.std.proofs.lemmas.Bool.{ltb-false}
use Rattle.std.proofs.lemmas.List.{append-nil}
use Rattle.std.proofs.lemmas.List.Concat.{flat_map-append}
use Rattle.std.proofs.lemmas.List.Elements.{filter-append}
use Rattle.std.proofs.lemmas.List.Folds.{find-append}
use Rattle.std.specs.Cmp.{unsigned_Decides}
use Rattle.std.specs.List.{AllByRecursion, IsDistinct, position_or_len}
use Rattle.std.specs.Option.{option_or, unwrap_or}
use Rattle.nfs_machine.proofs.ModesLemmas.{all-joined, all-left, all-mapped}
use Rattle.nlm_ranges.proofs.CallRangeLemmas.{not-zero}
use Rattle.nlm_ranges.proofs.BucketFilesLemmas.{file-put, files-left, find-none, none-behind, others, put, put-inserted}
use Rattle.nlm_ranges.proofs.DistinctLemmas.{joined-once, none-once, rest-once}
use Rattle.nlm_ranges.specs.Buckets.{BucketValue, IsBucket, IsInserted, LockedValue, given_most, same_number}
use Rattle.nlm_ranges.specs.Files.{has_nothing}
use Rattle.nlm_ranges.specs.Parts.{AreParts, IsPart, PartValue, files_at, files_of, part_index, part_of, same_index}
use Rattle.nlm_ranges.specs.Parts.{with_part}

abbrev test : ℕ → LockedValue → Bool
test number f = f.number == number

abbrev has_index : ℕ → PartValue → Bool
has_index index p = p.index == index

abbrev pub taken : Option PartValue → List LockedValue
taken o = elim o [ None ↦ [] | Some p ↦ p.files ]

-- ---- numbers
itself : (n : ℕ) → (n == n) ≡ true
itself n = (unsigned_Decides n n).1 refl

turned : (a b c : ℕ) → a ≡ c → (a == b) ≡ false → (b == c) ≡ false
turned a b c same other =
    elim (b == c) as (λ t. (b == c) ≡ t → t ≡ false) [
      | true ↦ λ is. sym ((unsigned_Decides a b).1 (same ∙ sym ((unsigned_Decides b c).0 is))) ∙ other
      | false ↦ λ e. refl
    ] refl

filled : (f : LockedValue) (fs : List LockedValue) → (length (f ∷ fs) == 0) ≡ false
filled f fs = not-zero (length (f ∷ fs)) (λ none. omega (arith, none))

-- ---- files of another index
abbrev IsOff : ℕ → LockedValue → Type 0
IsOff index f = (part_index f.number == index) ≡ false

abbrev IsOther : ℕ → PartValue → Type 0
IsOther index p = (p.index == index) ≡ false

not-it : (number : ℕ) (f : LockedValue) → IsOff (part_index number) f → (f.number == number) ≡ false
not-it number f off =
    elim (f.number == number) as (λ t. (f.number == number) ≡ t → t ≡ false) [
      | true ↦ λ is. sym ((unsigned_Decides (part_index f.number) (part_index number)).1
          (ap part_index ((unsigned_Decides f.number number).0 is))) ∙ off
      | false ↦ λ e. refl
    ] refl

off-part : (index : ℕ) (p : PartValue) → IsPart p → IsOther index p → AllByRecursion (IsOff index) p.files
off-part index p is other =
    all-mapped (λ (f : LockedValue). part_index f.number ≡ p.index) (IsOff index) p.files
    (λ f own. ap (λ n. n == index) own ∙ other) is.own

off-parts : (index : ℕ) (parts : List PartValue) → AllByRecursion IsPart parts → AllByRecursion (IsOther index) parts →
    AllByRecursion (IsOff index) (files_of parts)
off-parts index [] each away = tt
off-parts index (p ∷ parts) each away =
    all-joined (IsOff index) p.files (files_of parts) (off-part index p each.0 away.0)
    (off-parts index parts each.1 away.1)

off-none : (number : ℕ) (fs : List LockedValue) → AllByRecursion (IsOff (part_index number)) fs →
    find (test number) fs ≡ None
off-none number fs off =
    find-none (test number) fs
    (all-mapped (IsOff (part_index number)) (λ f. test number f ≡ false) fs (not-it number) off)

-- the parts behind one have other indexes
behind-others : (index : ℕ) (p : PartValue) (parts : List PartValue) → p.index ≡ index →
    AllByRecursion (λ q. same_index p q ≡ false) parts → AllByRecursion (IsOther index) parts
behind-others index p parts is away =
    all-mapped (λ q. same_index p q ≡ false) (IsOther index) parts (λ q. turned p.index q.index index is) away

others-first : (index : ℕ) (p : PartValue) (parts : List PartValue) → IsDistinct same_index (p ∷ parts) →
    (p.index == index) ≡ true → AllByRecursion (IsOther index) parts
unfolding IsDistinct
others-first index p parts once is =
    behind-others index p parts ((unsigned_Decides p.index index).0 is) once.0

-- ---- the files at an index
pub at-part : (index : ℕ) (parts : List PartValue) → AllByRecursion IsPart parts →
    IsPart (record { index = index; files = files_at index parts })
at-part index [] each = record { own = tt; once = none-once same_number; some = tt }
at-part index (p ∷ parts) each =
    elim (p.index == index) as (λ t. (p.index == index) ≡ t →
    IsPart (record { index = index; files = taken (cond t (Some p) (find (has_index index) parts)) })) [
      | true ↦ λ is. subst (λ i. IsPart (record { index = i; files = p.files }))
          ((unsigned_Decides p.index index).0 is) each.0
      | false ↦ λ other. at-part index parts each.1
    ] refl

none-at : (index : ℕ) (parts : List PartValue) → AllByRecursion (IsOther index) parts → files_at index parts ≡ []
none-at index parts away = ap taken (find-none (has_index index) parts away)

-- a file is looked for in the part of its index alone
pub find-parts : (number : ℕ) (parts : List PartValue) → IsDistinct same_index parts → AllByRecursion IsPart parts →
    find (test number) (files_of parts) ≡ find (test number) (files_at (part_index number) parts)
find-parts number [] once each = refl
find-parts number (p ∷ parts) once each =
    find-append (test number) p.files (files_of parts)
    ∙ elim (p.index == part_index number) as (λ t. (p.index == part_index number) ≡ t →
    option_or (find (test number) p.files) (find (test number) (files_of parts)) ≡
    find (test number) (taken (cond t (Some p) (find (has_index (part_index number)) parts)))) [
      | true ↦ λ is.
          ap (option_or (find (test number) p.files)) (off-none number (files_of parts)
          (off-parts (part_index number) parts each.1 (others-first (part_index number) p parts once is)))
          ∙ none-behind (find (test number) p.files)
      | false ↦ λ other.
          ap (λ o. option_or o (find (test number) (files_of parts)))
          (off-none number p.files (off-part (part_index number) p each.0 other))
          ∙ find-parts number parts (rest-once same_index p parts once) each.1
    ] refl

-- ---- other files at an index
module _ (index : ℕ) (files : List LockedValue) where
  abbrev anew : PartValue
  anew = record { index = index; files = files }

  one-part : (f : LockedValue) (fs : List LockedValue) →
      part_of index (f ∷ fs) ≡ record { index = index; files = f ∷ fs } ∷ []
  one-part f fs = ap (λ t. cond t [] (record { index = index; files = f ∷ fs } ∷ [])) (filled f fs)

  of-part : files_of (part_of index files) ≡ files
  of-part = by files
    where
      by : (fs : List LockedValue) → files_of (part_of index fs) ≡ fs
      by [] = refl
      by (f ∷ fs) = ap files_of (one-part f fs) ∙ append-nil (f ∷ fs)

  all-part : (P : PartValue → Type 0) → ((length files == 0) ≡ false → P anew) → AllByRecursion P (part_of index files)
  all-part P own =
      elim (length files == 0) as (λ t. (length files == 0) ≡ t → AllByRecursion P (cond t [] (anew ∷ []))) [
        | true ↦ λ e. tt
        | false ↦ λ e. (own e, tt)
      ] refl

  pub all-with : (P : PartValue → Type 0) (parts : List PartValue) → ((length files == 0) ≡ false → P anew) →
      AllByRecursion P parts → AllByRecursion P (with_part index files parts)
  all-with P [] own all = all-part P own
  all-with P (p ∷ parts) own all =
      elim (p.index == index) as (λ t. AllByRecursion P (cond t (part_of index files ++ parts)
      (p ∷ with_part index files parts))) [
        | true ↦ all-joined P (part_of index files) parts (all-part P own) all.1
        | false ↦ (all.0, all-with P parts own all.1)
      ]

  part-once : (parts : List PartValue) → AllByRecursion (IsOther index) parts → IsDistinct same_index parts →
      IsDistinct same_index (part_of index files ++ parts)
  unfolding IsDistinct
  part-once parts away once =
      elim (length files == 0) as (λ t. IsDistinct same_index (cond t [] (anew ∷ []) ++ parts)) [
        | true ↦ once
        | false ↦ (
          all-mapped (IsOther index) (λ q. same_index anew q ≡ false) parts
              (λ q other. turned q.index index q.index refl other) away,
          once,
        )
      ]

  with-once : (parts : List PartValue) → IsDistinct same_index parts →
      IsDistinct same_index (with_part index files parts)
  unfolding IsDistinct
  with-once [] once =
      elim (length files == 0) as (λ t. IsDistinct same_index (cond t [] (anew ∷ []))) [
        | true ↦ tt
        | false ↦ (tt, tt)
      ]
  with-once (p ∷ parts) once =
      elim (p.index == index) as (λ t. (p.index == index) ≡ t → IsDistinct same_index
      (cond t (part_of index files ++ parts) (p ∷ with_part index files parts))) [
        | true ↦ λ is. part-once parts
            (behind-others index p parts ((unsigned_Decides p.index index).0 is) once.0) once.1
        | false ↦ λ other. (
          all-with (λ q. same_index p q ≡ false) parts (λ some. other) once.0,
          with-once parts once.1,
        )
      ] refl

  pub parts-with : (parts : List PartValue) → IsPart anew → AreParts parts → AreParts (with_part index files parts)
  parts-with parts own are = record {
    once = with-once parts are.once;
    each = all-with IsPart parts (λ some. own) are.each;
    filled = all-with (λ (p : PartValue). (length p.files == 0) ≡ false) parts (λ some. some) are.filled;
  }

  -- what stands at an index then
  at-itself : (parts : List PartValue) → AllByRecursion (IsOther index) parts →
      files_at index (part_of index files ++ parts) ≡ files
  at-itself parts away = by files
    where
      by : (fs : List LockedValue) → files_at index (part_of index fs ++ parts) ≡ fs
      by [] = none-at index parts away
      by (f ∷ fs) = ap (λ ps. files_at index (ps ++ parts)) (one-part f fs)
          ∙ ap (λ t. taken (cond t (Some (record { index = index; files = f ∷ fs }))
          (find (has_index index) parts))) (itself index)

  at-other : (i : ℕ) (parts : List PartValue) → (index == i) ≡ false →
      files_at i (part_of index files ++ parts) ≡ files_at i parts
  at-other i parts other = by files
    where
      by : (fs : List LockedValue) → files_at i (part_of index fs ++ parts) ≡ files_at i parts
      by [] = refl
      by (f ∷ fs) = ap (λ ps. files_at i (ps ++ parts)) (one-part f fs)
          ∙ ap (λ t. taken (cond t (Some (record { index = index; files = f ∷ fs }))
          (find (has_index i) parts))) other

  pub with-here : (parts : List PartValue) → IsDistinct same_index parts →
      files_at index (with_part index files parts) ≡ files
  with-here [] once = ap (files_at index) (sym (append-nil (part_of index files))) ∙ at-itself [] tt
  with-here (p ∷ parts) once =
      elim (p.index == index) as (λ t. (p.index == index) ≡ t →
      files_at index (cond t (part_of index files ++ parts) (p ∷ with_part index files parts)) ≡ files) [
        | true ↦ λ is. at-itself parts (others-first index p parts once is)
        | false ↦ λ other.
            ap (λ t. taken (cond t (Some p) (find (has_index index) (with_part index files parts)))) other
            ∙ with-here parts (rest-once same_index p parts once)
      ] refl

  pub with-elsewhere : (i : ℕ) (parts : List PartValue) → (index == i) ≡ false →
      files_at i (with_part index files parts) ≡ files_at i parts
  with-elsewhere i [] away = ap (files_at i) (sym (append-nil (part_of index files))) ∙ at-other i [] away
  with-elsewhere i (p ∷ parts) away =
      elim (p.index == index) as (λ t. (p.index == index) ≡ t →
      files_at i (cond t (part_of index files ++ parts) (p ∷ with_part index files parts)) ≡ files_at i (p ∷ parts)) [
        | true ↦ λ is.
            at-other i parts away
            ∙ sym (ap (λ t. taken (cond t (Some p) (find (has_index i) parts)))
            (ap (λ n. n == i) ((unsigned_Decides p.index index).0 is) ∙ away))
        | false ↦ λ other.
            elim (p.index == i) as (λ t. taken (cond t (Some p) (find (has_index i) (with_part index files parts))) ≡
            taken (cond t (Some p) (find (has_index i) parts))) [
              | true ↦ refl
              | false ↦ with-elsewhere i parts away
            ]
      ] refl

  -- the parts before that with the index, it, and those behind it
  pub with-placed : (parts : List PartValue) (n : ℕ) → n ≡ position_or_len (has_index index) parts →
      with_part index files parts ≡ take n parts ++ (part_of index files ++ drop 1 (drop n parts))
  with-placed [] n is =
      subst (λ k. part_of index files ≡ take k [] ++ (part_of index files ++ drop 1 (drop k []))) (sym is)
      (sym (append-nil (part_of index files)))
  with-placed (p ∷ parts) n is =
      elim (p.index == index) as (λ t. n ≡ cond (not t) (1 + position_or_len (has_index index) parts) 0 →
      cond t (part_of index files ++ parts) (p ∷ with_part index files parts) ≡
      take n (p ∷ parts) ++ (part_of index files ++ drop 1 (drop n (p ∷ parts)))) [
        | true ↦ λ first.
            subst (λ k. part_of index files ++ parts ≡
            take k (p ∷ parts) ++ (part_of index files ++ drop 1 (drop k (p ∷ parts)))) (sym first) refl
        | false ↦ λ later.
            (let more : n ≡ suc (position_or_len (has_index index) parts) = omega (arith, later) in
            subst (λ k. p ∷ with_part index files parts ≡
            take k (p ∷ parts) ++ (part_of index files ++ drop 1 (drop k (p ∷ parts)))) (sym more)
            (ap (λ ps. p ∷ ps) (with-placed parts (position_or_len (has_index index) parts) refl)))
      ] is

-- ---- a file is put or taken
abbrev bucket_of : List LockedValue → BucketValue
bucket_of files = record { given = 0; files = files }

a-bucket : (index : ℕ) (files : List LockedValue) → IsPart (record { index = index; files = files }) →
    IsBucket (bucket_of files)
a-bucket index files is = record { given = omega arith; once = is.once; some = is.some }

abbrev IsOwn : ℕ → LockedValue → Type 0
IsOwn index f = part_index f.number ≡ index

pub part-put : (file : LockedValue) (files : List LockedValue) →
    IsPart (record { index = part_index file.number; files = files }) →
    IsPart (record { index = part_index file.number; files = put file files })
part-put file files is =
    let bucket = file-put (bucket_of files) file (a-bucket (part_index file.number) files is) in
    let left = all-left (IsOwn (part_index file.number)) (IsOwn (part_index file.number)) (others file.number) files
    (λ f stays own. own) is.own in record {
      own = all-joined (IsOwn (part_index file.number)) (filter (others file.number) files)
          (cond (has_nothing file.file) [] (file ∷ [])) left
          (elim (has_nothing file.file) as
          (λ h. AllByRecursion (IsOwn (part_index file.number)) (cond h [] (file ∷ []))) [
            | true ↦ tt
            | false ↦ (refl, tt)
          ]);
      once = bucket.once;
      some = bucket.some;
    }

pub part-left : (index number : ℕ) (files : List LockedValue) → IsPart (record { index = index; files = files }) →
    IsPart (record { index = index; files = filter (others number) files })
part-left index number files is =
    let bucket = files-left (bucket_of files) number (a-bucket index files is) in record {
      own = all-left (IsOwn index) (IsOwn index) (others number) files (λ f stays own. own) is.own;
      once = bucket.once;
      some = bucket.some;
    }

all-stay : {X : Type 0} (p : X → Bool) (xs : List X) → AllByRecursion (λ x. p x ≡ true) xs → filter p xs ≡ xs
all-stay p [] all = refl
all-stay p (x ∷ xs) all =
    ap (λ b. cond b (x ∷ filter p xs) (filter p xs)) all.0 ∙ ap (λ ys. x ∷ ys) (all-stay p xs all.1)

off-stay : (number : ℕ) (fs : List LockedValue) → AllByRecursion (IsOff (part_index number)) fs →
    filter (others number) fs ≡ fs
off-stay number fs off =
    all-stay (others number) fs (all-mapped (IsOff (part_index number)) (λ f. others number f ≡ true) fs
    (λ f h. ap not (not-it number f h)) off)

-- all files but one stay, in their order
pub files-without : (number : ℕ) (parts : List PartValue) (files : List LockedValue) →
    IsDistinct same_index parts → AllByRecursion IsPart parts →
    files ≡ filter (others number) (files_at (part_index number) parts) →
    files_of (with_part (part_index number) files parts) ≡ filter (others number) (files_of parts)
files-without number [] files once each is = of-part (part_index number) files ∙ is
files-without number (p ∷ parts) files once each is =
    let index = part_index number in
    elim (p.index == index) as (λ t. (p.index == index) ≡ t →
    files ≡ filter (others number) (taken (cond t (Some p) (find (has_index index) parts))) →
    files_of (cond t (part_of index files ++ parts) (p ∷ with_part index files parts)) ≡
    filter (others number) (p.files ++ files_of parts)) [
      | true ↦ λ here left.
          flat_map-append (λ (q : PartValue). q.files) (part_of index files) parts
          ∙ (λ i. (of-part index files ∙ left) i ++ sym (off-stay number (files_of parts)
          (off-parts index parts each.1 (others-first index p parts once here))) i)
          ∙ sym (filter-append (others number) p.files (files_of parts))
      | false ↦ λ other left.
          (λ i. sym (off-stay number p.files (off-part index p each.0 other)) i ++
          files-without number parts files (rest-once same_index p parts once) each.1 left i)
          ∙ sym (filter-append (others number) p.files (files_of parts))
    ] refl is

-- ---- what is true of every bucket
apart-files : (f : LockedValue) (fs : List LockedValue) → AllByRecursion (IsOff (part_index f.number)) fs →
    AllByRecursion (λ g. same_number f g ≡ false) fs
apart-files f fs off =
    all-mapped (IsOff (part_index f.number)) (λ g. same_number f g ≡ false) fs
    (λ g h. turned g.number f.number g.number refl (not-it f.number g h)) off

files-once : (parts : List PartValue) → IsDistinct same_index parts → AllByRecursion IsPart parts →
    IsDistinct same_number (files_of parts)
unfolding IsDistinct
files-once [] once each = tt
files-once (p ∷ parts) once each =
    let away = off-parts p.index parts each.1 (behind-others p.index p parts refl once.0) in
    joined-once same_number p.files (files_of parts) each.0.once (files-once parts once.1 each.1)
    (all-mapped (λ (f : LockedValue). part_index f.number ≡ p.index)
    (λ f. AllByRecursion (λ g. same_number f g ≡ false) (files_of parts)) p.files
    (λ f own. apart-files f (files_of parts)
    (subst (λ i. AllByRecursion (IsOff i) (files_of parts)) (sym own) away)) each.0.own)

files-some : (parts : List PartValue) → AllByRecursion IsPart parts →
    AllByRecursion (λ (f : LockedValue). has_nothing f.file ≡ false) (files_of parts)
files-some [] each = tt
files-some (p ∷ parts) each =
    all-joined (λ (f : LockedValue). has_nothing f.file ≡ false) p.files (files_of parts) each.0.some
    (files-some parts each.1)

pub parts-bucket : (given : ℕ) (parts : List PartValue) → given ≤ given_most → AreParts parts →
    IsBucket (record { given = given; files = files_of parts })
parts-bucket given parts most are = record {
  given = most;
  once = files-once parts are.once are.each;
  some = files-some parts are.each;
}

pub no-parts : AreParts []
no-parts = record { once = none-once same_index; each = tt; filled = tt }

-- there are files where there are parts
pub none-listed : (parts : List PartValue) → AllByRecursion (λ (p : PartValue). (length p.files == 0) ≡ false) parts →
    (length (files_of parts) == 0) ≡ (length parts == 0)
none-listed [] all = refl
none-listed (p ∷ parts) all =
    longer p.files (files_of parts) all.0
    ∙ sym (not-zero (length (p ∷ parts)) (λ none. omega (arith, none)))
  where
    longer : (xs ys : List LockedValue) → (length xs == 0) ≡ false → (length (xs ++ ys) == 0) ≡ false
    longer [] ys some = (let no : true ≡ false = some in cc)
    longer (x ∷ xs) ys some = filled x (xs ++ ys)

-- ---- a file in the parts of a bucket
module _ (parts : List PartValue) (file : LockedValue) (are : AreParts parts) where
  abbrev place : ℕ
  place = part_index file.number

  abbrev old : List LockedValue
  old = files_at place parts

  abbrev put_parts : List PartValue
  put_parts = with_part place (put file old) parts

  pub are-put : AreParts put_parts
  are-put = parts-with place (put file old) parts (part-put file old (at-part place parts are.each)) are

  abbrev then : ℕ → Option LockedValue → Option LockedValue
  then q o = cond (file.number == q) (cond (has_nothing file.file) None (Some file)) o

  found-then : (q : ℕ) → find (test q) (files_of put_parts) ≡ then q (find (test q) (files_of parts))
  found-then q =
      find-parts q put_parts are-put.once are-put.each
      ∙ elim (place == part_index q) as (λ t. (place == part_index q) ≡ t →
      find (test q) (files_at (part_index q) put_parts) ≡ then q (find (test q) (files_of parts))) [
        | true ↦ λ same.
            (let is : place ≡ part_index q = (unsigned_Decides place (part_index q)).0 same in
            ap (λ i. find (test q) (files_at i put_parts)) (sym is)
            ∙ ap (find (test q)) (with-here place (put file old) parts are.once)
            ∙ (put-inserted (bucket_of old) file (put file old) refl).files q
            ∙ ap (λ i. then q (find (test q) (files_at i parts))) is
            ∙ ap (then q) (sym (find-parts q parts are.once are.each)))
        | false ↦ λ other.
            ap (find (test q)) (with-elsewhere place (put file old) (part_index q) parts other)
            ∙ sym (find-parts q parts are.once are.each)
            ∙ sym (ap (λ t. cond t (cond (has_nothing file.file) None (Some file))
            (find (test q) (files_of parts))) (not-it q file other))
      ] refl

  pub put-in-parts : (given : ℕ) → IsInserted (record { given = given; files = files_of parts }) file
      (record { given = given; files = files_of put_parts })
  put-in-parts given = record { given = refl; files = found-then }

-- ---- what the functions of a bucket come to
pub place-within : {X : Type 0} (p : X → Bool) (xs : List X) → position_or_len p xs ≤ length xs
place-within p [] = omega arith
place-within p (x ∷ xs) =
    let rest = place-within p xs in
    elim (p x) as (λ t. cond (not t) (1 + position_or_len p xs) 0 ≤ length (x ∷ xs)) [
      | true ↦ omega arith
      | false ↦ omega (arith, rest)
    ]

pub place-of : {X : Type 0} (p : X → Bool) (xs : List X) →
    unwrap_or (cond (nat_lt (position_or_len p xs) (length xs)) (Some (position_or_len p xs)) None) (length xs) ≡
    position_or_len p xs
place-of p xs =
    let n = position_or_len p xs in
    elim (nat_lt n (length xs)) as (λ t. nat_lt n (length xs) ≡ t →
    unwrap_or (cond t (Some n) None) (length xs) ≡ n) [
      | true ↦ λ e. refl
      | false ↦ λ e.
          (let past : length xs ≤ n = ltb-false n (length xs) e in
          let most : n ≤ length xs = place-within p xs in
          omega (arith, past, most))
    ] refl

pub found-at : (number : ℕ) (parts : List PartValue) → AreParts parts → (index : ℕ) (slice : List PartValue)
    (files : List LockedValue) → index ≡ part_index number → slice ≡ parts → files ≡ files_at index slice →
    find (test number) files ≡ find (test number) (files_of parts)
found-at number parts are index slice files index-is whole is =
    ap (find (test number)) (is ∙ (λ i. files_at (index-is i) (whole i)))
    ∙ sym (find-parts number parts are.once are.each)

-- one more is put
pub put-parts : (file : LockedValue) (parts : List PartValue) (n m index : ℕ) (a b : List PartValue)
    (slice left all : List LockedValue) (new : List PartValue) → n ≡ file.number → m ≡ file.number →
    index ≡ part_index n → a ≡ parts → b ≡ parts → slice ≡ files_at index a → left ≡ filter (others m) slice →
    all ≡ left ++ cond (has_nothing file.file) [] (file ∷ []) → new ≡ with_part index all b →
    new ≡ with_part (part_index file.number) (put file (files_at (part_index file.number) parts)) parts
put-parts file parts n m index a b slice left all new n-is m-is index-is a-is b-is slice-is left-is all-is is =
    let own : index ≡ part_index file.number = index-is ∙ ap part_index n-is in
    let old : slice ≡ files_at (part_index file.number) parts = slice-is ∙ (λ i. files_at (own i) (a-is i)) in
    let rest : left ≡ filter (others file.number) (files_at (part_index file.number) parts) =
    left-is ∙ (λ i. filter (others (m-is i)) (old i)) in
    let whole : all ≡ put file (files_at (part_index file.number) parts) =
    all-is ∙ ap (λ l. l ++ cond (has_nothing file.file) [] (file ∷ [])) rest in
    is ∙ (λ i. with_part (own i) (whole i) (b-is i))

-- one is taken
module _ (number : ℕ) (parts : List PartValue) where
  abbrev left_parts : List PartValue
  left_parts =
      with_part (part_index number) (filter (others number) (files_at (part_index number) parts)) parts

  pub are-left : AreParts parts → AreParts left_parts
  are-left are =
      parts-with (part_index number) (filter (others number) (files_at (part_index number) parts)) parts
      (part-left (part_index number) number (files_at (part_index number) parts)
      (at-part (part_index number) parts are.each)) are

  pub left-in-parts : AreParts parts → files_of left_parts ≡ filter (others number) (files_of parts)
  left-in-parts are =
      files-without number parts (filter (others number) (files_at (part_index number) parts)) are.once are.each refl

  pub left-parts : (index : ℕ) (a b : List PartValue) (slice left : List LockedValue) (new : List PartValue) →
      index ≡ part_index number → a ≡ parts → b ≡ parts → slice ≡ files_at index a →
      left ≡ filter (others number) slice → new ≡ with_part index left b → new ≡ left_parts
  left-parts index a b slice left new own a-is b-is slice-is left-is is =
      let old : slice ≡ files_at (part_index number) parts = slice-is ∙ (λ i. files_at (own i) (a-is i)) in
      let rest : left ≡ filter (others number) (files_at (part_index number) parts) =
      left-is ∙ ap (filter (others number)) old in
      is ∙ (λ i. with_part (own i) (rest i) (b-is i))

-- the parts are listed anew
module _ (index : ℕ) (files : List LockedValue) (parts : List PartValue) (n : ℕ)
    (n-is : n ≡ position_or_len (has_index index) parts) (before from : List PartValue)
    (before-is : before ≡ take n parts) (from-is : from ≡ drop n parts) where
  pub placed : (behind new : List PartValue) → behind ≡ drop 1 from →
      new ≡ before ++ (part_of index files ++ behind) → new ≡ with_part index files parts
  placed behind new behind-is is =
      is ∙ (λ i. before-is i ++ (part_of index files ++ (behind-is ∙ ap (drop 1) from-is) i))
      ∙ sym (with-placed index files parts n n-is)
