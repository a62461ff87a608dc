-- Maps from files to their lists: what each file has where one list changes, or all are made anew; sums over them.
use Rattle.std.proofs.Common.{◌≡◌, ◌==◌, ℕ, ◌+◌, ◌≤◌, Bool, true, false, not, cond, List, []}
use Rattle.std.proofs.Common.{◌∷◌, ◌++◌, Option, Some}
use Rattle.std.proofs.Common.{None, filter, map, unwrap_or, is_some, refl, sym, ◌∙◌, ap, subst, arith}
use Rattle.std.proofs.lemmas.List.Sums.{sum_by-cons}
use Rattle.std.specs.Cmp.{nat_cmp_total, unsigned_Decides, unsigned_ties}
use Rattle.std.specs.FinMap.{FinMap, contains_key, empty, entries, get, get-empty, get-entries, get-retain_keys}
use Rattle.std.specs.FinMap.{nat_cmp-IsAntisymmetric, same_map, values}
use Rattle.std.specs.FinMap.Entries.{find}
use Rattle.std.specs.List.{count_by, sum_by}
use Rattle.std.specs.Option.{option_and_then, option_map_or}
use Rattle.std.specs.Ordering.{nat_cmp}
use Rattle.nfs_machine.specs.FileLists.{grants_but, of_file, relisted, relisted_entries, with_list}
use Rattle.nfs_machine.specs.State.{PendingGrant}
use Rattle.nfs_machine.proofs.MapChangeLemmas.{Differs, differs-insert, differs-remove}
use Rattle.nfs_machine.proofs.MapChangeLemmas.{itself}
use Rattle.nfs_machine.proofs.MapChangeLemmas.{sum-differs, weight}
use Rattle.nfs_machine.proofs.MapSumLemmas.{sum-none}

module _ {A : Type 0} where
  -- what stands for a list in a map
  abbrev pub kept : List A → Option (List A)
  kept [] = None
  kept (x ∷ xs) = Some (x ∷ xs)

  pub kept-is : (list : List A) → unwrap_or (kept list) [] ≡ list
  kept-is [] = refl
  kept-is (x ∷ xs) = refl

  pub kept-some : (list : List A) → kept list ≡ Some [] → ⊥
  kept-some [] e = cc
  kept-some (x ∷ xs) e = cc

  -- ---- one list changes
  module _ (lists : FinMap nat_cmp (List A)) (file : ℕ) where
    pub differs-with : (list : List A) → Differs lists (with_list lists file list) file (kept list)
    differs-with [] = differs-remove lists file
    differs-with (x ∷ xs) = differs-insert lists file (x ∷ xs)

    module _ (list : List A) where
      pub of-with : (q : ℕ) → of_file (with_list lists file list) q ≡ cond (q == file) list (of_file lists q)
      of-with q =
          ap (λ o. unwrap_or o []) (differs-with list q)
          ∙ elim (q == file) as
          (λ b. unwrap_or (cond b (kept list) (get lists q)) [] ≡ cond b list (of_file lists q)) [
            | true ↦ kept-is list
            | false ↦ refl
          ]

      pub of-there : of_file (with_list lists file list) file ≡ list
      of-there = of-with file ∙ ap (λ b. cond b list (of_file lists file)) (itself file)

      pub of-other : (q : ℕ) → (q == file) ≡ false → of_file (with_list lists file list) q ≡ of_file lists q
      of-other q other = of-with q ∙ ap (λ b. cond b list (of_file lists q)) other

      -- what is true of each file's list
      pub each-with : (P : ℕ → List A → Type 0) → P file list → ((q : ℕ) → P q (of_file lists q))
          → (q : ℕ) → P q (of_file (with_list lists file list) q)
      each-with P here all q =
          subst (P q) (sym (of-with q))
          (elim (q == file) as (λ b. (q == file) ≡ b → P q (cond b list (of_file lists q))) [
            | true ↦ λ e. subst (λ k. P k list) (sym ((unsigned_Decides q file).0 e)) here
            | false ↦ λ e. all q
          ] refl)

  -- a list that is there already
  pub with-same : (lists : FinMap nat_cmp (List A)) (file : ℕ) (list : List A) → get lists file ≡ kept list
      → with_list lists file list ≡ lists
  with-same lists file list at =
      same_map nat_cmp_total nat_cmp-IsAntisymmetric _ _ (λ q. differs-with lists file list q
      ∙ elim (q == file) as (λ b. (q == file) ≡ b → cond b (kept list) (get lists q) ≡ get lists q) [
        | true ↦ λ e. sym at ∙ ap (get lists) (sym ((unsigned_Decides q file).0 e))
        | false ↦ λ e. refl
      ] refl)

  -- where no list is empty, what a file has stands for it
  pub kept-there : (lists : FinMap nat_cmp (List A)) → ((q : ℕ) → get lists q ≡ Some [] → ⊥) →
      (file : ℕ)
      → get lists file ≡ kept (of_file lists file)
  kept-there lists some file =
      elim (get lists file) as (λ o. get lists file ≡ o → o ≡ kept (unwrap_or o [])) [
        | None ↦ λ at. refl
        | Some list ↦ λ at. of list at
      ] refl
    where
      of : (list : List A) → get lists file ≡ Some list → Some list ≡ kept list
      of [] at = absurd (some file at)
      of (x ∷ xs) at = refl

  -- a file's own list
  pub with-itself : (lists : FinMap nat_cmp (List A)) → ((q : ℕ) → get lists q ≡ Some [] → ⊥) →
      (file : ℕ)
      → with_list lists file (of_file lists file) ≡ lists
  with-itself lists some file = with-same lists file (of_file lists file) (kept-there lists some file)

  -- ---- all lists are made anew
  module _ (anew : ℕ → List A → List A) where
    abbrev pub remade : ℕ → Option (List A) → Option (List A)
    remade q o = option_and_then (λ list. kept (anew q list)) o

    get-entries_anew : (es : List (ℕ × List A)) (q : ℕ) →
        get (relisted_entries anew es) q ≡ remade q (find nat_cmp q es)
    get-entries_anew [] q = get-empty nat_cmp q
    get-entries_anew ((file, list) ∷ es) q =
        differs-with (relisted_entries anew es) file (anew file list) q
        ∙ elim (q == file) as (λ b. (q == file) ≡ b
        → cond b (kept (anew file list)) (get (relisted_entries anew es) q) ≡ remade q
        (cond b (Some list) (find nat_cmp q es))) [
          | true ↦ λ e. ap (λ k. kept (anew k list)) (sym ((unsigned_Decides q file).0 e))
          | false ↦ λ e. get-entries_anew es q
        ] refl
        ∙ ap (λ b. remade q (cond b (Some list) (find nat_cmp q es))) (unsigned_ties q file)

    pub get-relisted : (lists : FinMap nat_cmp (List A)) (q : ℕ) →
        get (relisted anew lists) q ≡ remade q (get lists q)
    get-relisted lists q = get-entries_anew (entries lists) q ∙ ap (remade q) (sym (get-entries lists q))

    -- what is true of no list, and of each that is made anew
    pub each-relisted : (lists : FinMap nat_cmp (List A)) (P : ℕ → List A → Type 0) → ((q : ℕ) → P q [])
        → ((q : ℕ) → P q (of_file lists q) → P q (anew q (of_file lists q))) →
        ((q : ℕ) → P q (of_file lists q))
        → (q : ℕ) → P q (of_file (relisted anew lists) q)
    each-relisted lists P none each all q =
        subst (λ o. P q (unwrap_or o [])) (sym (get-relisted lists q))
        (elim (get lists q) as (λ o. get lists q ≡ o → P q (unwrap_or (remade q o) [])) [
          | None ↦ λ at. none q
          | Some list ↦ λ at.
              let is : of_file lists q ≡ list = ap (λ o. unwrap_or o []) at in
              subst (P q) (sym (kept-is (anew q list))) (subst (λ l. P q (anew q l)) is (each q (all q)))
        ] refl)

  -- ---- sums
  module _ (f : List A → ℕ) (nothing : f [] ≡ 0) where
    abbrev total : FinMap nat_cmp (List A) → ℕ
    total lists = sum_by f (values lists)

    weight-kept : (list : List A) → weight f (kept list) ≡ f list
    weight-kept [] = sym nothing
    weight-kept (x ∷ xs) = refl

    weight-of : (o : Option (List A)) → weight f o ≡ f (unwrap_or o [])
    weight-of None = sym nothing
    weight-of (Some list) = refl

    pub total-with : (lists : FinMap nat_cmp (List A)) (file : ℕ) (list : List A)
        → total (with_list lists file list) + f (of_file lists file) ≡ total lists + f list
    total-with lists file list =
        let s = sum-differs f lists (with_list lists file list) file (kept list) (differs-with lists file list) in
        omega (arith, s, weight-kept list, weight-of (get lists file))

    pub total-entries : (anew : ℕ → List A → List A) →
        ((q : ℕ) (list : List A) → f (anew q list) ≤ f list)
        → (es : List (ℕ × List A)) →
        total (relisted_entries anew es) ≤ sum_by f (map (λ (e : ℕ × List A). e.1) es)
    total-entries anew less [] =
        let none : total empty ≡ 0 = sum-none f empty (λ q v at.
        (let no : None ≡ Some v = sym (get-empty nat_cmp q) ∙ at in cc)) in
        omega (arith, none)
    total-entries anew less ((file, list) ∷ es) =
        let s = total-with (relisted_entries anew es) file (anew file list) in
        let rest = total-entries anew less es in
        omega (arith, s, rest, less file list, sum_by-cons f list (map (λ (e : ℕ × List A). e.1) es))

-- ---- counts
pub count-joined : {X : Type 0} (test : X → Bool) (xs : List X) (x : X) (ys : List X)
    → count_by test (xs ++ x ∷ ys) ≡ count_by test (xs ++ ys) + cond (test x) 1 0
count-joined test [] x ys = (let s = sum_by-cons (λ y. cond {A = ℕ} (test y) 1 0) x ys in omega (arith, s))
count-joined test (z ∷ xs) x ys =
    let rest = count-joined test xs x ys in
    omega (
      arith,
      rest,
      sum_by-cons (λ y. cond {A = ℕ} (test y) 1 0) z (xs ++ x ∷ ys),
      sum_by-cons (λ y. cond {A = ℕ} (test y) 1 0) z (xs ++ ys),
    )

pub count-left : {X : Type 0} (test p : X → Bool) (xs : List X) → count_by test (filter p xs) ≤ count_by test xs
count-left test p [] = omega arith
count-left test p (x ∷ xs) =
    let rest = count-left test p xs in
    elim (p x) as (λ b. count_by test (cond b (x ∷ filter p xs) (filter p xs)) ≤ count_by test (x ∷ xs)) [
      | true ↦ omega (
        arith,
        rest,
        sum_by-cons (λ y. cond {A = ℕ} (test y) 1 0) x xs,
        sum_by-cons (λ y. cond {A = ℕ} (test y) 1 0) x (filter p xs),
      )
      | false ↦ omega (arith, rest, sum_by-cons (λ y. cond {A = ℕ} (test y) 1 0) x xs)
    ]

-- ---- pending grants
pub get-grants_but : (goes : PendingGrant → Bool) (granted : FinMap nat_cmp PendingGrant) (q : ℕ)
    → get (grants_but goes granted) q ≡ cond (not (option_map_or goes (get granted q) false)) (get granted q) None
get-grants_but goes granted q =
    get-retain_keys granted (λ number. not (option_map_or goes (get granted number) false)) q
    (λ x tied. ap (λ k. not (option_map_or goes (get granted k) false)) (sym (nat_cmp-IsAntisymmetric q x tied)))

-- what is left was there, and does not go
pub grants-left : (goes : PendingGrant → Bool) (granted : FinMap nat_cmp PendingGrant) (q : ℕ) (g : PendingGrant)
    → get (grants_but goes granted) q ≡ Some g → (get granted q ≡ Some g) × (goes g ≡ false)
grants-left goes granted q g at =
    of (get granted q) refl (sym (get-grants_but goes granted q) ∙ at)
  where
    of : (o : Option PendingGrant) → get granted q ≡ o → cond (not (option_map_or goes o false)) o None ≡ Some g
        → (get granted q ≡ Some g) × (goes g ≡ false)
    of None is e = cc
    of (Some h) is e =
        elim (goes h) as (λ b. goes h ≡ b → cond (not b) (Some h) None ≡ Some g → (get granted q ≡ Some g) ×
        (goes g ≡ false)) [
          | true ↦ λ t e. cc
          | false ↦ λ t e. (
            is ∙ e,
            (let same : h ≡ g = cc in subst (λ (x : PendingGrant). goes x ≡ false) same t),
          )
        ] refl e

pub has-left : (goes : PendingGrant → Bool) (granted : FinMap nat_cmp PendingGrant) (q : ℕ)
    → cond {A = ℕ} (contains_key (grants_but goes granted) q) 1 0 ≤ cond {A = ℕ} (contains_key granted q) 1 0
has-left goes granted q =
    subst (λ o. cond {A = ℕ} (is_some o) 1 0 ≤ cond {A = ℕ} (contains_key granted q) 1 0)
    (sym (get-grants_but goes granted q))
    (elim (not (option_map_or goes (get granted q) false)) as
    (λ b. cond {A = ℕ} (is_some (cond b (get granted q) None)) 1 0 ≤ cond {A = ℕ}
    (contains_key granted q) 1 0) [
      | true ↦ omega arith
      | false ↦ omega arith
    ])

-- what of a grant is left
abbrev pub left_of : (PendingGrant → Bool) → Option PendingGrant → Option PendingGrant
left_of goes o = cond (not (option_map_or goes o false)) o None

pub grants-none : (goes : PendingGrant → Bool) → grants_but goes empty ≡ empty
grants-none goes =
    same_map nat_cmp_total nat_cmp-IsAntisymmetric _ _ (λ q.
    get-grants_but goes empty q ∙ ap (left_of goes) (get-empty nat_cmp q) ∙ sym (get-empty nat_cmp q))

-- no list where there is none
pub no-list : {A : Type 0} (file : ℕ) → with_list {A = A} empty file [] ≡ empty
no-list file = with-same empty file [] (get-empty nat_cmp file)
