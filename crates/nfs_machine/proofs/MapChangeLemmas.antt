-- A finite map that differs from another at one key: sums over both, and what names in lists of entries that lose one
-- or have no other.
use Rattle.std.proofs.Common.{
  ◌≡◌,
  ◌==◌,
  ℕ,
  ◌+◌,
  ◌<◌,
  ◌≤◌,
  Bool,
  true,
  false,
  cond,
  not,
  List,
  [],
  ◌∷◌,
  Option,
  Some,
  None,
  find,
  refl,
  sym,
  ◌∙◌,
  ap,
  subst,
  arith,
}
use Rattle.std.proofs.lemmas.List.Sums.{sum_by-cons}
use Rattle.std.proofs.lemmas.Cmp.{nat_list_eq_equiv}
use Rattle.std.specs.Cmp.{nat_cmp_total, nat_eq_equiv, unsigned_Decides, unsigned_ties}
use Rattle.std.specs.Cmp.Lexicographic.{bytes_decides}
use Rattle.std.specs.FinMap.{FinMap, get, get-remove, insert, nat_cmp-IsAntisymmetric, remove, same_map, values}
use Rattle.std.specs.List.{AllByRecursion, count_by, filter, sum_by}
use Rattle.std.specs.Ordering.{nat_cmp}
use Rattle.nfs_machine.specs.Bytes.{same_bytes}
use Rattle.nfs_machine.specs.RemoveSteps.{without}
use Rattle.nfs_machine.specs.State.{Entry}
use Rattle.nfs_machine.specs.WellFormed.{CookiesRise, NamesOnce}
use Rattle.nfs_machine.proofs.MapSumLemmas.{get-inserted, sum-insert_new, sum-insert_old}

-- ---- maps
abbrev pub Differs : {X : Type 0} → FinMap nat_cmp X → FinMap nat_cmp X → ℕ → Option X → Type 0
Differs old new k v = (q : ℕ) → get new q ≡ cond (q == k) v (get old q)

pub differs-insert : {X : Type 0} (m : FinMap nat_cmp X) (k : ℕ) (v : X) → Differs m (insert m k v) k (Some v)
differs-insert m k v = get-inserted m k v

pub differs-remove : {X : Type 0} (m : FinMap nat_cmp X) (k : ℕ) → Differs m (remove m k) k None
differs-remove m k q = get-remove nat_cmp_total m k q ∙ ap (λ b. cond b None (get m q)) (sym (unsigned_ties q k))

pub itself : (n : ℕ) → (n == n) ≡ true
itself n = (unsigned_Decides n n).1 refl

pub apart : (n k : ℕ) → (n ≡ k → ⊥) → (n == k) ≡ false
apart n k other =
    elim (n == k) as (λ b. (n == k) ≡ b → b ≡ false) [
      | true ↦ λ e. absurd (other ((unsigned_Decides n k).0 e))
      | false ↦ λ e. refl
    ] refl

pub flipped : (n k : ℕ) → (n == k) ≡ false → (k == n) ≡ false
flipped n k e = nat_eq_equiv.symm k n ∙ e

module _ {X : Type 0} (old new : FinMap nat_cmp X) (k : ℕ) (v : Option X) (differs : Differs old new k v) where
  pub differs-there : get new k ≡ v
  differs-there = differs k ∙ ap (λ b. cond b v (get old k)) (itself k)

  pub differs-other : (q : ℕ) → (q == k) ≡ false → get new q ≡ get old q
  differs-other q other = differs q ∙ ap (λ b. cond b v (get old q)) other

abbrev pub weight : {X : Type 0} → (X → ℕ) → Option X → ℕ
weight f None = 0
weight f (Some x) = f x

module _ {X : Type 0} (f : X → ℕ) where
  abbrev total : FinMap nat_cmp X → ℕ
  total m = sum_by f (values m)

  sum-some : (old new : FinMap nat_cmp X) (k : ℕ) (w : X) → Differs old new k (Some w)
      → total new + weight f (get old k) ≡ total old + f w
  sum-some old new k w differs =
      let is : new ≡ insert old k w = same_map nat_cmp_total nat_cmp-IsAntisymmetric _ _ (λ q. differs q
      ∙ sym (get-inserted old k w q)) in
      let same : total new ≡ total (insert old k w) = ap total is in
      elim (get old k) as (λ o. get old k ≡ o → total new + weight f o ≡ total old + f w) [
        | None ↦ λ e. (let s = sum-insert_new f old k w e in omega (arith, same, s))
        | Some u ↦ λ e. (let s = sum-insert_old f old k u w e in omega (arith, same, s))
      ] refl

  pub sum-differs : (old new : FinMap nat_cmp X) (k : ℕ) (v : Option X) → Differs old new k v
      → total new + weight f (get old k) ≡ total old + weight f v
  sum-differs old new k (Some w) differs = sum-some old new k w differs
  sum-differs old new k None differs =
      elim (get old k) as (λ o. get old k ≡ o → total new + weight f o ≡ total old + 0) [
        | None ↦ λ e. (let same : total new ≡ total old = ap total (same_map nat_cmp_total nat_cmp-IsAntisymmetric _ _
            (λ q. differs q ∙ none e q)) in omega (arith, same))
        | Some u ↦ λ e. (let s = sum-some new old k u (back u e) in
            let gone : weight f (get new k) ≡ 0 = ap (weight f) (differs-there old new k None differs) in
            omega (arith, s, gone))
      ] refl
    where
      none : get old k ≡ None → (q : ℕ) → cond (q == k) None (get old q) ≡ get old q
      none e q = elim (q == k) as (λ b. (q == k) ≡ b → cond b None (get old q) ≡ get old q) [
        | true ↦ λ t. sym (ap (get old) ((unsigned_Decides q k).0 t) ∙ e)
        | false ↦ λ t. refl
      ] refl

      back : (u : X) → get old k ≡ Some u → Differs new old k (Some u)
      back u e q = elim (q == k) as (λ b. (q == k) ≡ b → get old q ≡ cond b (Some u) (get new q)) [
        | true ↦ λ t. ap (get old) ((unsigned_Decides q k).0 t) ∙ e
        | false ↦ λ t. sym (differs-other old new k None differs q t)
      ] refl

  -- each value has its part in the sum
  pub part-of_sum : (m : FinMap nat_cmp X) (k : ℕ) (v : X) → get m k ≡ Some v → f v ≤ total m
  part-of_sum m k v at =
      let s = sum-differs m (remove m k) k None (differs-remove m k) in
      let here : weight f (get m k) ≡ f v = ap (weight f) at in
      omega (arith, s, here)

-- ---- lists of entries
-- what is true of all is true of those that a test leaves
pub all-filter : (P : Entry → Type 0) (p : Entry → Bool) (es : List Entry) → AllByRecursion P es
    → AllByRecursion P (filter p es)
all-filter P p [] all = tt
all-filter P p (e ∷ es) all =
    elim (p e) as (λ b. AllByRecursion P (cond b (e ∷ filter p es) (filter p es))) [
      | true ↦ (all.0, all-filter P p es all.1)
      | false ↦ all-filter P p es all.1
    ]

pub once-filter : (p : Entry → Bool) (es : List Entry) → NamesOnce es → NamesOnce (filter p es)
once-filter p [] once = tt
once-filter p (e ∷ es) once =
    elim (p e) as (λ b. NamesOnce (cond b (e ∷ filter p es) (filter p es))) [
      | true ↦ (all-filter (λ (f : Entry). same_bytes e.name f.name ≡ false) p es once.0, once-filter p es once.1)
      | false ↦ once-filter p es once.1
    ]

pub cookies-below : (low below last : ℕ) (es : List Entry) → low ≤ below → CookiesRise below es last
    → CookiesRise low es last
cookies-below low below last [] less rise = omega (arith, less, rise)
cookies-below low below last (e ∷ es) less
    rise = ((let first : below < e.cookie = rise.0 in omega (arith, less, first)), rise.1)

pub cookies-filter : (p : Entry → Bool) (below last : ℕ) (es : List Entry) → CookiesRise below es last
    → CookiesRise below (filter p es) last
cookies-filter p below last [] rise = rise
cookies-filter p below last (e ∷ es) rise =
    elim (p e) as (λ b. CookiesRise below (cond b (e ∷ filter p es) (filter p es)) last) [
      | true ↦ (rise.0, cookies-filter p e.cookie last es rise.1)
      | false ↦ cookies-below below e.cookie last (filter p es) (let first : below < e.cookie = rise.0 in omega
          (arith, first)) (cookies-filter p e.cookie last es rise.1)
    ]

-- entries of other names stay
others-stay : (name : List ℕ) (es : List Entry) → AllByRecursion (λ (f : Entry). same_bytes name f.name ≡ false) es
    → without es name ≡ es
others-stay name [] other = refl
others-stay name (e ∷ es) other =
    ap (λ b. cond (not b) (e ∷ without es name) (without es name)) away
    ∙ ap (λ rest. e ∷ rest) (others-stay name es other.1)
  where
    away : same_bytes e.name name ≡ false
    away = nat_list_eq_equiv.symm e.name name ∙ other.0

-- without a name that no entry has
pub without-absent : (name : List ℕ) (es : List Entry) → find (λ (e : Entry). same_bytes e.name name) es ≡ None
    → without es name ≡ es
without-absent name [] absent = refl
without-absent name (e ∷ es) absent =
    elim (same_bytes e.name name) as (λ b. cond b (Some e) (find (λ (x : Entry). same_bytes x.name name) es) ≡ None
    → cond (not b) (e ∷ without es name) (without es name) ≡ e ∷ es) [
      | true ↦ λ none. cc
      | false ↦ λ none. ap (λ rest. e ∷ rest) (without-absent name es none)
    ] absent

-- a name that is taken away had one entry
pub count-without : (test : Entry → Bool) (name : List ℕ) (es : List Entry) (e : Entry) → NamesOnce es
    → find (λ (x : Entry). same_bytes x.name name) es ≡ Some e
    → count_by test (without es name) + cond (test e) 1 0 ≡ count_by test es
count-without test name [] e once found = cc
count-without test name (x ∷ es) e once found =
    elim (same_bytes x.name name) as (λ b. same_bytes x.name name ≡ b
    → cond b (Some x) (find (λ (y : Entry). same_bytes y.name name) es) ≡ Some e
    → count_by test (cond (not b) (x ∷ without es name) (without es name)) + cond (test e) 1 0 ≡ count_by test
    (x ∷ es)) [
      | true ↦ λ here is.
          let same : x ≡ e = cc in
          let rest : without es name ≡ es = others-stay name es
          (subst (λ n. AllByRecursion (λ (f : Entry). same_bytes n f.name ≡ false) es)
          ((bytes_decides x.name name).0 here) once.0) in
          let count : count_by test (without es name) ≡ count_by test es = ap (count_by test) rest in
          let own : cond {A = ℕ} (test x) 1 0 ≡ cond (test e) 1 0 = ap (λ (y : Entry). cond {A = ℕ} (test y) 1 0)
          same in
          omega (arith, count, own, sum_by-cons (λ (y : Entry). cond {A = ℕ} (test y) 1 0) x es)
      | false ↦ λ here is.
          let rest = count-without test name es e once.1 is in
          omega (
            arith,
            rest,
            sum_by-cons (λ (y : Entry). cond {A = ℕ} (test y) 1 0) x es,
            sum_by-cons
                (λ (y : Entry). cond {A = ℕ} (test y) 1 0) x (without es name),
          )
    ] refl found

-- where no entry passes a test, each fails it
pub none-passes : (test : Entry → Bool) (es : List Entry) → count_by test es ≡ 0
    → AllByRecursion (λ (e : Entry). test e ≡ false) es
none-passes test [] none = tt
none-passes test (e ∷ es) none =
    elim (test e) as (λ b. test e ≡ b → AllByRecursion (λ (x : Entry). test x ≡ false) (e ∷ es)) [
      | true ↦ λ t. (let one : cond {A = ℕ} (test e) 1 0 ≡ 1 = ap (λ b. cond b 1 0) t in absurd
          (omega (arith, one, none, sum_by-cons (λ (y : Entry). cond {A = ℕ} (test y) 1 0) e es)))
      | false ↦ λ t. (
        t,
        none-passes test es
            (omega (arith, none, sum_by-cons (λ (y : Entry). cond {A = ℕ} (test y) 1 0) e es)),
      )
    ] refl

pub count-filter : (test p : Entry → Bool) (es : List Entry) → count_by test (filter p es) ≤ count_by test es
count-filter test p [] = omega arith
count-filter test p (e ∷ es) =
    let rest = count-filter test p es in
    elim (p e) as (λ b. count_by test (cond b (e ∷ filter p es) (filter p es)) ≤ count_by test (e ∷ es)) [
      | true ↦ omega (
        arith,
        rest,
        sum_by-cons (λ (y : Entry). cond {A = ℕ} (test y) 1 0) e es,
        sum_by-cons
            (λ (y : Entry). cond {A = ℕ} (test y) 1 0) e (filter p es),
      )
      | false ↦ omega (arith, rest, sum_by-cons (λ (y : Entry). cond {A = ℕ} (test y) 1 0) e es)
    ]

-- what is true of all is true of what is found
pub find-all : (P : Entry → Type 0) (test : Entry → Bool) (es : List Entry) (e : Entry) → AllByRecursion P es
    → find test es ≡ Some e → P e
find-all P test [] e all found = cc
find-all P test (x ∷ es) e all found =
    elim (test x) as (λ b. cond b (Some x) (find test es) ≡ Some e → P e) [
      | true ↦ λ is. (let same : x ≡ e = cc in subst P same all.0)
      | false ↦ λ is. find-all P test es e all.1 is
    ] found

-- nothing is found where less is left
pub find-filter : (test p : Entry → Bool) (es : List Entry) → find test es ≡ None → find test (filter p es) ≡ None
find-filter test p [] none = refl
find-filter test p (x ∷ es) none =
    elim (test x) as (λ b. test x ≡ b → cond b (Some x) (find test es) ≡ None
    → find test (cond (p x) (x ∷ filter p es) (filter p es)) ≡ None) [
      | true ↦ λ t is. cc
      | false ↦ λ t is. elim (p x) as (λ b. find test (cond b (x ∷ filter p es) (filter p es)) ≡ None) [
        | true ↦ ap (λ b. cond b (Some x) (find test (filter p es))) t ∙ find-filter test p es is
        | false ↦ find-filter test p es is
      ]
    ] refl none

-- a name that was taken away is not there
pub find-taken : (name : List ℕ) (es : List Entry)
    → find (λ (e : Entry). same_bytes e.name name) (without es name) ≡ None
find-taken name [] = refl
find-taken name (e ∷ es) =
    elim (same_bytes e.name name) as (λ b. same_bytes e.name name ≡ b
    → find (λ (x : Entry). same_bytes x.name name) (cond (not b) (e ∷ without es name) (without es name)) ≡ None) [
      | true ↦ λ t. find-taken name es
      | false ↦ λ t. ap (λ b. cond b (Some e) (find (λ (x : Entry). same_bytes x.name name) (without es name))) t
          ∙ find-taken name es
    ] refl

-- another name is where it was
pub find-other : (other name : List ℕ) (es : List Entry) → same_bytes other name ≡ false
    → find (λ (e : Entry). same_bytes e.name other) (without es name) ≡ find (λ (e : Entry). same_bytes e.name other) es
find-other other name [] apart = refl
find-other other name (e ∷ es) apart =
    elim (same_bytes e.name name) as (λ b. same_bytes e.name name ≡ b
    → find (λ (x : Entry). same_bytes x.name other) (cond (not b) (e ∷ without es name) (without es name)) ≡ find
    (λ (x : Entry). same_bytes x.name other) (e ∷ es)) [
      | true ↦ λ t. find-other other name es apart
          ∙ sym (ap (λ b. cond b (Some e) (find (λ (x : Entry). same_bytes x.name other) es)) (not-other t))
      | false ↦ λ t. ap (cond (same_bytes e.name other) (Some e)) (find-other other name es apart)
    ] refl
  where
    not-other : same_bytes e.name name ≡ true → same_bytes e.name other ≡ false
    not-other t =
        let is : e.name ≡ name = (bytes_decides e.name name).0 t in
        elim (same_bytes e.name other) as (λ b. same_bytes e.name other ≡ b → b ≡ false) [
          | true ↦ λ u. (let both : other ≡ name = sym ((bytes_decides e.name other).0 u)
              ∙ is in let no : true ≡ false = sym ((bytes_decides other name).1 both) ∙ apart in cc)
          | false ↦ λ u. refl
        ] refl
