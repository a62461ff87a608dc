-- The files of a bucket: what is left without one, and one more.
use Rattle.std.proofs.Common.{◌≡◌, ◌==◌, ℕ, Bool, true, false, cond, not, List, [], ◌∷◌, ◌++◌}
use Rattle.std.proofs.Common.{Option, Some, None, arith, filter, find, refl, sym, ◌∙◌, ap, subst}
use Rattle.std.proofs.lemmas.List.{append-nil}
use Rattle.std.proofs.lemmas.List.Folds.{find-append}
use Rattle.std.specs.Cmp.{unsigned_Decides}
use Rattle.std.specs.List.{AllByRecursion}
use Rattle.std.specs.Option.{option_or}
use Rattle.nfs_machine.proofs.ModesLemmas.{all-joined, all-left, all-mapped}
use Rattle.nlm_ranges.proofs.DistinctLemmas.{left-once, more-once, none-once, passes-left}
use Rattle.nlm_ranges.specs.Buckets.{BucketValue, IsBucket, IsInserted, LockedValue, no_bucket, same_number}
use Rattle.nlm_ranges.specs.Buckets.{without_file}
use Rattle.nlm_ranges.specs.Files.{has_nothing}

-- ---- lists
pub find-none : {X : Type 0} (p : X → Bool) (xs : List X) → AllByRecursion (λ x. p x ≡ false) xs → find p xs ≡ None
find-none p [] all = refl
find-none p (x ∷ xs) all = ap (λ b. cond b (Some x) (find p xs)) all.0 ∙ find-none p xs all.1

-- what is found is found among those that stay
pub find-kept : {X : Type 0} (p keep : X → Bool) (xs : List X) → ((x : X) → p x ≡ true → keep x ≡ true) →
    find p (filter keep xs) ≡ find p xs
find-kept p keep [] stays = refl
find-kept p keep (x ∷ xs) stays =
    elim (p x) as (λ b. p x ≡ b → find p (cond (keep x) (x ∷ filter keep xs) (filter keep xs)) ≡
    cond (p x) (Some x) (find p xs)) [
      | true ↦ λ is.
          ap (λ k. find p (cond k (x ∷ filter keep xs) (filter keep xs))) (stays x is)
          ∙ ap (λ b. cond b (Some x) (find p (filter keep xs))) is
          ∙ sym (ap (λ b. cond b (Some x) (find p xs)) is)
      | false ↦ λ is.
          elim (keep x) as (λ k. find p (cond k (x ∷ filter keep xs) (filter keep xs)) ≡ find p (filter keep xs)) [
            | true ↦ ap (λ b. cond b (Some x) (find p (filter keep xs))) is
            | false ↦ refl
          ]
          ∙ find-kept p keep xs stays
          ∙ sym (ap (λ b. cond b (Some x) (find p xs)) is)
    ] refl

pub none-behind : {X : Type 0} (o : Option X) → option_or o None ≡ o
none-behind None = refl
none-behind (Some x) = refl

-- ---- one number
abbrev Other : ℕ → LockedValue → Type 0
Other number f = (f.number == number) ≡ false

abbrev test : ℕ → LockedValue → Bool
test number f = f.number == number

abbrev pub others : ℕ → LockedValue → Bool
others number f = not (f.number == number)

passes : (b : Bool) → not b ≡ true → b ≡ false
passes true e = cc
passes false e = refl

none-left : (number : ℕ) (fs : List LockedValue) → AllByRecursion (Other number) (filter (others number) fs)
none-left number fs =
    all-mapped (λ (f : LockedValue). others number f ≡ true) (Other number) (filter (others number) fs)
    (λ f stays. passes (f.number == number) stays) (passes-left (others number) fs)

-- another number is told apart
apart : (a b c : ℕ) → (a == b) ≡ false → (c == b) ≡ true → not (c == a) ≡ true
apart a b c other is =
    elim (c == a) as (λ t. (c == a) ≡ t → not t ≡ true) [
      | true ↦ λ same.
          let one : c ≡ a = (unsigned_Decides c a).0 same in
          let both : (a == b) ≡ true = subst (λ n. (n == b) ≡ true) one is in
          let no : true ≡ false = sym both ∙ other in cc
      | false ↦ λ e. refl
    ] refl

-- ---- a file that is put
abbrev pub put : LockedValue → List LockedValue → List LockedValue
put file fs = filter (others file.number) fs ++ cond (has_nothing file.file) [] (file ∷ [])

pub put-inserted : (b : BucketValue) (file : LockedValue) (files : List LockedValue) → files ≡ put file b.files →
    IsInserted b file (record b { files = files })
put-inserted b file files is = record {
  given = refl;
  files = λ q. ap (find (test q)) is
      ∙ find-append (test q) (filter (others file.number) b.files) (cond (has_nothing file.file) [] (file ∷ []))
      ∙ elim (file.number == q) as (λ c. (file.number == q) ≡ c →
      option_or (find (test q) (filter (others file.number) b.files))
      (find (test q) (cond (has_nothing file.file) [] (file ∷ []))) ≡
      cond c (cond (has_nothing file.file) None (Some file)) (find (test q) b.files)) [
        | true ↦ λ same.
            ap (λ o. option_or o (find (test q) (cond (has_nothing file.file) [] (file ∷ [])))) (gone q same)
            ∙ here q same
        | false ↦ λ other.
            ap (λ o. option_or (find (test q) (filter (others file.number) b.files)) o) (not-here q other)
            ∙ none-behind (find (test q) (filter (others file.number) b.files))
            ∙ find-kept (test q) (others file.number) b.files (λ f found. apart file.number q f.number other found)
      ] refl;
}
  where
    gone : (q : ℕ) → (file.number == q) ≡ true → find (test q) (filter (others file.number) b.files) ≡ None
    gone q same =
        find-none (test q) (filter (others file.number) b.files)
        (subst (λ n. AllByRecursion (Other n) (filter (others file.number) b.files))
        ((unsigned_Decides file.number q).0 same) (none-left file.number b.files))

    here : (q : ℕ) → (file.number == q) ≡ true →
        find (test q) (cond (has_nothing file.file) [] (file ∷ [])) ≡ cond (has_nothing file.file) None (Some file)
    here q same =
        elim (has_nothing file.file) as (λ h. find (test q) (cond h [] (file ∷ [])) ≡ cond h None (Some file)) [
          | true ↦ refl
          | false ↦ ap (λ c. cond c (Some file) None) same
        ]

    not-here : (q : ℕ) → (file.number == q) ≡ false →
        find (test q) (cond (has_nothing file.file) [] (file ∷ [])) ≡ None
    not-here q other =
        elim (has_nothing file.file) as (λ h. find (test q) (cond h [] (file ∷ [])) ≡ None) [
          | true ↦ refl
          | false ↦ ap (λ c. cond c (Some file) None) other
        ]

-- ---- what is true of every bucket
abbrev HasSome : LockedValue → Type 0
HasSome f = has_nothing f.file ≡ false

pub no-files : IsBucket no_bucket
no-files = record { given = omega arith; once = none-once same_number; some = tt }

pub files-left : (b : BucketValue) (number : ℕ) → IsBucket b → IsBucket (without_file number b)
files-left b number is = record {
  given = is.given;
  once = left-once same_number (others number) b.files is.once;
  some = all-left HasSome HasSome (others number) b.files (λ f e h. h) is.some;
}

pub file-put : (b : BucketValue) (file : LockedValue) → IsBucket b → IsBucket (record b { files = put file b.files })
file-put b file is =
    let left = files-left b file.number is in
    elim (has_nothing file.file) as (λ h. has_nothing file.file ≡ h → IsBucket (record b
    { files = filter (others file.number) b.files ++ cond h [] (file ∷ []) })) [
      | true ↦ λ nothing. subst (λ fs. IsBucket (record b { files = fs }))
          (sym (append-nil (filter (others file.number) b.files))) left
      | false ↦ λ something. record {
        given = is.given;
        once = more-once same_number (filter (others file.number) b.files) file (none-left file.number b.files)
            left.once;
        some = all-joined HasSome (filter (others file.number) b.files) (file ∷ []) left.some (something, tt);
      }
    ] refl
