-- A name that leads to one object in each state of a chain keeps its entry; and of what pages show, its entry alone has
-- it.
use Rattle.std.proofs.Common.{
  ◌≡◌,
  ◌==◌,
  ℕ,
  ◌<◌,
  ◌≤◌,
  Bool,
  true,
  false,
  cond,
  List,
  [],
  ◌∷◌,
  ◌++◌,
  Option,
  Some,
  None,
  option_map,
  refl,
  sym,
  ◌∙◌,
  ap,
  subst,
  arith,
}
use Rattle.std.proofs.lemmas.Bool.{ne_eqb}
use Rattle.std.proofs.lemmas.List.Elements.{Contains-append_right}
use Rattle.std.proofs.lemmas.List.Sums.{sum_by-cons}
use Rattle.std.specs.Cmp.Lexicographic.{bytes_decides}
use Rattle.std.proofs.lemmas.Cmp.{nat_list_eq_equiv}
use Rattle.std.specs.FinMap.{get}
use Rattle.std.specs.List.{AllByRecursion, Contains, count_by}
use Rattle.nfs_machine.specs.Attributes.{entries_of}
use Rattle.nfs_machine.specs.Bytes.{same_bytes}
use Rattle.nfs_machine.specs.Checks.{entry_of}
use Rattle.nfs_machine.specs.Laws.{KeepsCookies}
use Rattle.nfs_machine.specs.Paging.{Rises, next_cookie}
use Rattle.nfs_machine.proofs.VisitLemmas.{IsVisit, ReadsOn, Visit, shown_by}
use Rattle.nfs_machine.specs.Readings.{Throughout, named_in}
use Rattle.nfs_machine.specs.Chains.{Chain, Transition}
use Rattle.nfs_machine.specs.State.{Entry, Living, State}
use Rattle.nfs_machine.specs.Step.{Step}
use Rattle.nfs_machine.specs.WellFormed.{NamesOnce}
use Rattle.nfs_machine.proofs.MapChangeLemmas.{all-filter, itself}
use Rattle.nfs_machine.proofs.StepKeepsLemmas.{steps_keep_cookies}
use Rattle.nfs_machine.proofs.PageByPageLemmas.{first}

-- ---- one entry through steps
-- the entry that a name of a directory has
pub record EntryAt (m : State) (directory : ℕ) (name : List ℕ) (e : Entry) : Type 0 where
  pub object : Living
  pub lives : get m.objects directory ≡ Some object
  pub found : entry_of (entries_of object.content) name ≡ Some e

-- a name that leads to an object has one
pub record Entered (m : State) (directory : ℕ) (name : List ℕ) (target : ℕ) : Type 0 where
  pub entry : Entry
  pub leads : entry.number ≡ target
  pub at : EntryAt m directory name entry

pub entered : (m : State) (directory : ℕ) (name : List ℕ) (target : ℕ) → named_in m directory name ≡ Some target
    → Entered m directory name target
entered m directory name target is = there (get m.objects directory) refl is
  where
    under : (o : Living) → get m.objects directory ≡ Some o → (x : Option Entry)
        → entry_of (entries_of o.content) name ≡ x → option_map (λ (e : Entry). e.number) x ≡ Some target
        → Entered m directory name target
    under o lives None found is = cc
    under o lives (Some e) found is = (let same : e.number ≡ target = cc in record
        { entry = e; leads = same; at = record { object = o; lives = lives; found = found } })

    there : (x : Option Living) → get m.objects directory ≡ x
        → elim x as (λ (_ : Option Living). Option ℕ) [
          | None ↦ None
          | Some o ↦ option_map (λ (e : Entry). e.number)
              (entry_of (entries_of o.content) name)
        ] ≡ Some target → Entered m directory name target
    there None lives is = cc
    there (Some o) lives is = under o lives (entry_of (entries_of o.content) name) refl is

module _ (directory : ℕ) (name : List ℕ) (target : ℕ) where
  abbrev pub LeadsToTarget : State → Type 0
  LeadsToTarget m = named_in m directory name ≡ Some target

  pub first-of : (old : State) (steps : List Transition) (new : State) (chain : Chain old steps new) →
      Throughout LeadsToTarget old steps new chain → LeadsToTarget old
  first-of old [] new chain is = is
  first-of old (t ∷ steps) new chain is = is.0

  module _ (e : Entry) (leads : e.number ≡ target) where
    kept-by : (m new : State) → KeepsCookies m new → EntryAt m directory name e → LeadsToTarget new →
        EntryAt new directory name e
    kept-by m new keeps at is =
        let f = entered new directory name target is in
        let same : f.entry ≡ e = keeps directory at.object f.at.object at.lives f.at.lives name e f.entry at.found
        f.at.found (f.leads ∙ sym leads) in
        subst (EntryAt new directory name) same f.at

    -- over the first step of a chain
    pub kept-over : (old : State) (t : Transition) (mid : State) →
        Step old t.ctx t.call t.reply t.messages mid → (steps : List Transition) (new : State)
        (rest : Chain mid steps new) → Throughout LeadsToTarget mid steps new rest → EntryAt old directory name e →
        EntryAt mid directory name e
    kept-over old t mid step steps new rest is at =
        kept-by old mid (steps_keep_cookies old t.ctx t.call t.reply t.messages mid step) at
        (first-of mid steps new rest is)

-- ---- the entry alone has the name
-- the test of the name and that of the cookie are one
abbrev pub IsOnly : List ℕ → Entry → Entry → Type 0
IsOnly name e x = same_bytes x.name name ≡ (x.cookie == e.cookie)

pub found-above : (b : ℕ) (es : List Entry) (name : List ℕ) (e : Entry) → Rises b es → entry_of es name ≡ Some e
    → b < e.cookie
found-above b [] name e rises found = cc
found-above b (x ∷ es) name e rises found =
    elim (same_bytes x.name name) as (λ t. cond t (Some x) (entry_of es name) ≡ Some e → b < e.cookie) [
      | true ↦ λ is. (let same : x ≡ e = cc in subst (λ (y : Entry). b < y.cookie) same rises.0)
      | false ↦ λ is. (let above = found-above x.cookie es name e rises.1 is in let first_above = rises.0 in omega
          (arith, first_above, above))
    ] found

pub found-name : (es : List Entry) (name : List ℕ) (e : Entry) → entry_of es name ≡ Some e
    → same_bytes e.name name ≡ true
found-name [] name e found = cc
found-name (x ∷ es) name e found =
    elim (same_bytes x.name name) as (λ t. same_bytes x.name name ≡ t → cond t (Some x) (entry_of es name) ≡ Some e
    → same_bytes e.name name ≡ true) [
      | true ↦ λ t is. (let same : x ≡ e = cc in subst (λ (y : Entry). same_bytes y.name name ≡ true) same t)
      | false ↦ λ t is. found-name es name e is
    ] refl found

others : (b : ℕ) (es : List Entry) (e : Entry) → e.cookie ≤ b → Rises b es
    → AllByRecursion (λ (f : Entry). same_bytes e.name f.name ≡ false) es → AllByRecursion (IsOnly e.name e) es
others b [] e less rises apart = tt
others b (x ∷ es) e less rises apart =
    let above = rises.0 in (
      nat_list_eq_equiv.symm x.name e.name ∙ apart.0
          ∙ sym (ne_eqb x.cookie e.cookie (λ same. omega (arith, same, less, above))),
      others x.cookie es e (omega (arith, less, above)) rises.1 apart.1,
    )

pub only : (b : ℕ) (es : List Entry) (name : List ℕ) (e : Entry) → Rises b es → NamesOnce es → entry_of es name ≡ Some e
    → AllByRecursion (IsOnly name e) es
only b [] name e rises once found = tt
only b (x ∷ es) name e rises once found =
    elim (same_bytes x.name name) as (λ t. same_bytes x.name name ≡ t → cond t (Some x) (entry_of es name) ≡ Some e
    → AllByRecursion (IsOnly name e) (x ∷ es)) [
      | true ↦ λ t is.
          let same : x ≡ e = cc in
          subst (λ (y : Entry). AllByRecursion (IsOnly name y) (x ∷ es)) same (
            t ∙ sym (itself x.cookie),
            subst (λ n. AllByRecursion (IsOnly n x) es) ((bytes_decides x.name name).0 t)
                (others x.cookie es x (omega arith) rises.1 once.0),
          )
      | false ↦ λ t is.
          let above = found-above x.cookie es name e rises.1 is in (
            t ∙ sym (ne_eqb x.cookie e.cookie (λ same. omega (arith, same, above))),
            only x.cookie es name e rises.1
                once.1 is,
          )
    ] refl found

pub found-in : (es : List Entry) (name : List ℕ) (e : Entry) → entry_of es name ≡ Some e → Contains es e
found-in [] name e found = cc
found-in (x ∷ es) name e found =
    elim (same_bytes x.name name) as (λ t. cond t (Some x) (entry_of es name) ≡ Some e → Contains (x ∷ es) e) [
      | true ↦ λ is. (let same : x ≡ e = cc in subst (Contains (x ∷ es)) same (first x es))
      | false ↦ λ is. Contains-append_right (x ∷ []) es e (found-in es name e is)
    ] found

-- ---- what is true of all entries is true of those that pages show
all-front : (P : Entry → Type 0) (xs ys : List Entry) → AllByRecursion P (xs ++ ys) → AllByRecursion P xs
all-front P [] ys all = tt
all-front P (x ∷ xs) ys all = (all.0, all-front P xs ys all.1)

all-both : (P : Entry → Type 0) (xs ys : List Entry) → AllByRecursion P xs → AllByRecursion P ys
    → AllByRecursion P (xs ++ ys)
all-both P [] ys all more = more
all-both P (x ∷ xs) ys all more = (all.0, all-both P xs ys all.1 more)

module _ (P : Entry → Type 0) where
  page-all : (c : ℕ) (v : Visit) → IsVisit c v → AllByRecursion P v.entries → AllByRecursion P v.page
  page-all c v is all = all-front P v.page is.0 (subst (AllByRecursion P) is.1.0 (all-filter P _ v.entries all))

  pub shown-all : (c : ℕ) (visits : List Visit) → ReadsOn c visits
      → AllByRecursion (λ (v : Visit). AllByRecursion P v.entries) visits → AllByRecursion P (shown_by visits)
  shown-all c [] on all = tt
  shown-all c (v ∷ []) on all = all-both P v.page [] (page-all c v on.0 all.0) tt
  shown-all c (v ∷ w ∷ visits) on all = all-both P v.page (shown_by (w ∷ visits)) (page-all c v on.0 all.0)
      (shown-all (next_cookie c v.page) (w ∷ visits) on.2 all.1)

pub count-same : (p q : Entry → Bool) (es : List Entry) → AllByRecursion (λ (x : Entry). p x ≡ q x) es
    → count_by p es ≡ count_by q es
count-same p q [] all = refl
count-same p q (x ∷ es) all =
    let rest = count-same p q es all.1 in
    let here : cond {A = ℕ} (p x) 1 0 ≡ cond {A = ℕ} (q x) 1 0 = ap (λ b. cond {A = ℕ} b 1 0) all.0 in
    omega (
      arith,
      rest,
      here,
      sum_by-cons (λ (y : Entry). cond {A = ℕ} (p y) 1 0) x es,
      sum_by-cons
          (λ (y : Entry). cond {A = ℕ} (q y) 1 0) x es,
    )

pub all-map : {A : Type 0} (P Q : A → Type 0) → ((x : A) → P x → Q x) → (xs : List A) → AllByRecursion P xs
    → AllByRecursion Q xs
all-map P Q f [] all = tt
all-map P Q f (x ∷ xs) all = (f x all.0, all-map P Q f xs all.1)
