-- An entry comes to its page, last, or goes from it: the other pages stay.
use Rattle.std.proofs.Common.{◌≡◌, ◌⊎◌, ℕ, ◌/◌, ◌==◌, ◌||◌, Bool, true, false, cond, List, [], ◌∷◌, ◌++◌}
use Rattle.std.proofs.Common.{Some, None, filter, inl, inr, not, refl, sym, ◌∙◌, ◌&&◌, ap, subst}
use Rattle.std.specs.Cmp.Lexicographic.{bytes_decides, nat_list_eq_equiv}
use Rattle.std.specs.List.{AllByRecursion}
use Rattle.std.proofs.lemmas.Bool.{cases_eq, eq-eqb, ne_eqb}
use Rattle.nfs_machine.proofs.MapChangeLemmas.{without-absent}
use Rattle.nfs_machine.specs.Bytes.{same_bytes}
use Rattle.nfs_machine.specs.Checks.{entry_of}
use Rattle.nfs_machine.specs.RemoveSteps.{without}
use Rattle.nfs_machine.specs.State.{Entry}
use Rattle.nfs_machine.specs.WellFormed.{NamesOnce}
use Rattle.nfs_objects.proofs.PagesAndPartsLemmas.{page-without}
use Rattle.nfs_objects.specs.Directories.{has_some, in_page}
use Rattle.nfs_objects.specs.Entries.{without_entry}
use Rattle.nfs_objects.specs.PageRuns.{lists}
use Rattle.nfs_objects.specs.Stands.{stored_page}
use Rattle.nfs_objects.specs.Store.{Store}
use Rattle.nfs_objects.specs.declared.address.Addr.TheVariants as addresses
use Rattle.nfs_objects.specs.declared.page_list.PageRun.{PageRun}
use Rattle.nfs_inodes.specs.Entered.{HasPages}

-- ---- entries of a page
-- with one more behind them
filter-last : (test : Entry → Bool) (es : List Entry) (e : Entry) →
    filter test (es ++ e ∷ []) ≡ filter test es ++ cond (test e) (e ∷ []) []
filter-last test [] e = refl
filter-last test (x ∷ es) e = elim (test x) as (λ b.
    cond b (x ∷ filter test (es ++ e ∷ [])) (filter test (es ++ e ∷ []))
    ≡ cond b (x ∷ filter test es) (filter test es) ++ cond (test e) (e ∷ []) []) [
      | true ↦ ap (λ l. x ∷ l) (filter-last test es e)
      | false ↦ filter-last test es e
    ]

append-none : (es : List Entry) → es ++ [] ≡ es
append-none [] = refl
append-none (x ∷ es) = ap (λ l. x ∷ l) (append-none es)

some-last : (es : List Entry) (e : Entry) → has_some (es ++ e ∷ []) ≡ true
some-last [] e = refl
some-last (x ∷ es) e = refl

-- where none has a name, none has it that passes a test
none-named : (name : List ℕ) (test : Entry → Bool) (es : List Entry) →
    AllByRecursion (λ (f : Entry). same_bytes name f.name ≡ false) es → entry_of (filter test es) name ≡ None
none-named name test [] all = refl
none-named name test (x ∷ es) all =
    elim (test x) as (λ b. entry_of (cond b (x ∷ filter test es) (filter test es)) name ≡ None) [
      | true ↦ ap (λ b. cond b (Some x) (entry_of (filter test es) name)) (nat_list_eq_equiv.symm x.name name ∙ all.0)
          ∙ none-named name test es all.1
      | false ↦ none-named name test es all.1
    ]

-- a name is not among those that pass a test, where what it leads to does not
pub absent-elsewhere : (test : Entry → Bool) (name : List ℕ) (es : List Entry) (e : Entry) → NamesOnce es →
    entry_of es name ≡ Some e → test e ≡ false → entry_of (filter test es) name ≡ None
absent-elsewhere test name [] e once found fails = cc
absent-elsewhere test name (x ∷ es) e once found fails =
    by (same_bytes x.name name) refl (λ is. absent-elsewhere test name es e once.1 is fails)
  where
    by : (b : Bool) → same_bytes x.name name ≡ b →
        (entry_of es name ≡ Some e → entry_of (filter test es) name ≡ None) →
        entry_of (cond (test x) (x ∷ filter test es) (filter test es)) name ≡ None
    by true here rest =
        let is : Some x ≡ Some e = sym (ap (λ b. cond b (Some x) (entry_of es name)) here) ∙ found in
        let same : x ≡ e = cc in
        ap (λ b. entry_of (cond b (x ∷ filter test es) (filter test es)) name) (ap test same ∙ fails)
        ∙ none-named name test es (subst (λ n. AllByRecursion (λ (f : Entry). same_bytes n f.name ≡ false) es)
        ((bytes_decides x.name name).0 here) once.0)
    by false other rest =
        let gone = rest (sym (ap (λ b. cond b (Some x) (entry_of es name)) other) ∙ found) in
        elim (test x) as (λ b. entry_of (cond b (x ∷ filter test es) (filter test es)) name ≡ None) [
          | true ↦ ap (λ b. cond b (Some x) (entry_of (filter test es) name)) other ∙ gone
          | false ↦ gone
        ]

-- all that have a name have this cookie
abbrev NamedAt : List ℕ → (cookie : ℕ) → List Entry → Type 0
NamedAt name cookie = AllByRecursion (λ (f : Entry). same_bytes f.name name ≡ true → f.cookie ≡ cookie)

none-at : (name : List ℕ) (cookie : ℕ) (es : List Entry) →
    AllByRecursion (λ (f : Entry). same_bytes name f.name ≡ false) es → NamedAt name cookie es
none-at name cookie [] all = tt
none-at name cookie (x ∷ es) all = (
  λ is. absurd (let no : true ≡ false = sym is ∙ nat_list_eq_equiv.symm x.name name ∙ all.0 in cc),
  none-at name cookie es all.1,
)

named-at : (name : List ℕ) (es : List Entry) (e : Entry) → NamesOnce es → entry_of es name ≡ Some e →
    NamedAt name e.cookie es
named-at name [] e once found = cc
named-at name (x ∷ es) e once found = by (same_bytes x.name name) refl (λ is. named-at name es e once.1 is)
  where
    by : (b : Bool) → same_bytes x.name name ≡ b → (entry_of es name ≡ Some e → NamedAt name e.cookie es) →
        NamedAt name e.cookie (x ∷ es)
    by true here rest =
        let is : Some x ≡ Some e = sym (ap (λ b. cond b (Some x) (entry_of es name)) here) ∙ found in
        let same : x ≡ e = cc in (
          λ named. ap (λ (y : Entry). y.cookie) same,
          none-at name e.cookie es
              (subst (λ n. AllByRecursion (λ (f : Entry). same_bytes n f.name ≡ false) es)
              ((bytes_decides x.name name).0 here) once.0),
        )
    by false other rest = (
      λ named. absurd (let no : true ≡ false = sym named ∙ other in cc),
      rest (sym (ap (λ b. cond b (Some x) (entry_of es name)) other) ∙ found),
    )

filter-at : (name : List ℕ) (cookie : ℕ) (test : Entry → Bool) (es : List Entry) → NamedAt name cookie es →
    NamedAt name cookie (filter test es)
filter-at name cookie test [] all = tt
filter-at name cookie test (x ∷ es) all =
    elim (test x) as (λ b. NamedAt name cookie (cond b (x ∷ filter test es) (filter test es))) [
      | true ↦ (all.0, filter-at name cookie test es all.1)
      | false ↦ filter-at name cookie test es all.1
    ]

-- then it is enough to look at the names
gone-at : (name : List ℕ) (cookie : ℕ) (es : List Entry) → NamedAt name cookie es →
    without_entry es name cookie ≡ without es name
gone-at name cookie [] all = refl
gone-at name cookie (x ∷ es) all =
    ap (λ b. cond b (x ∷ without_entry es name cookie) (without_entry es name cookie))
    (alike (same_bytes x.name name) all.0)
    ∙ ap (λ l. cond (not (same_bytes x.name name)) (x ∷ l) l) (gone-at name cookie es all.1)
  where
    alike : (b : Bool) → (b ≡ true → x.cookie ≡ cookie) → not ((x.cookie == cookie) && b) ≡ not b
    alike true is = ap (λ t. not (t && true)) (eq-eqb x.cookie cookie (is refl))
    alike false is = elim (x.cookie == cookie) as (λ t. not (t && false) ≡ true) [ true ↦ refl | false ↦ refl ]

-- of those that pass a test, the entry that a name leads to is the one with that name
pub entry-gone : (test : Entry → Bool) (name : List ℕ) (es : List Entry) (e : Entry) → NamesOnce es →
    entry_of es name ≡ Some e → without_entry (filter test es) name e.cookie ≡ without (filter test es) name
entry-gone test name es e once found =
    gone-at name e.cookie (filter test es) (filter-at name e.cookie test es (named-at name es e once found))

module _ (s t : Store) (n : ℕ) (before after : List PageRun) (entries : List Entry) where
  -- ---- an entry comes
  pub pages-gained : (e : Entry) →
      t.at (addresses.Page n (e.cookie / 64)) ≡ stored_page (in_page (e.cookie / 64) entries ++ e ∷ [])
      → ((page : ℕ) → (page ≡ e.cookie / 64 → ⊥) → t.at (addresses.Page n page) ≡ s.at (addresses.Page n page))
      → ((page : ℕ) → lists after page ≡ (lists before page || (page == e.cookie / 64)))
      → HasPages s n before entries → HasPages t n after (entries ++ e ∷ [])
  pages-gained e here others listed has = record {
    listed = λ page. by-listed page (cases_eq page (e.cookie / 64));
    stand = λ page. by-stand page (cases_eq page (e.cookie / 64));
  }
    where
      -- its own page, and another one
      own : (page : ℕ) → page ≡ e.cookie / 64 → in_page page (entries ++ e ∷ []) ≡ in_page page entries ++ e ∷ []
      own page same =
          filter-last (λ (x : Entry). x.cookie / 64 == page) entries e
          ∙ ap (λ b. in_page page entries ++ cond b (e ∷ []) []) (eq-eqb (e.cookie / 64) page (sym same))

      other : (page : ℕ) → (page ≡ e.cookie / 64 → ⊥) → in_page page (entries ++ e ∷ []) ≡ in_page page entries
      other page apart =
          filter-last (λ (x : Entry). x.cookie / 64 == page) entries e
          ∙ ap (λ b. in_page page entries ++ cond b (e ∷ []) []) (ne_eqb (e.cookie / 64) page (λ is. apart (sym is)))
          ∙ append-none (in_page page entries)

      by-listed : (page : ℕ) → (page ≡ e.cookie / 64) ⊎ (page ≡ e.cookie / 64 → ⊥) →
          lists after page ≡ has_some (in_page page (entries ++ e ∷ []))
      by-listed page (inl same) =
          listed page
          ∙ ap (λ b. lists before page || b) (eq-eqb page (e.cookie / 64) same)
          ∙ elim (lists before page) as (λ b. (b || true) ≡ true) [ true ↦ refl | false ↦ refl ]
          ∙ sym (ap has_some (own page same) ∙ some-last (in_page page entries) e)
      by-listed page (inr apart) =
          listed page
          ∙ ap (λ b. lists before page || b) (ne_eqb page (e.cookie / 64) apart)
          ∙ elim (lists before page) as (λ b. (b || false) ≡ b) [ true ↦ refl | false ↦ refl ]
          ∙ has.listed page ∙ ap has_some (sym (other page apart))

      by-stand : (page : ℕ) → (page ≡ e.cookie / 64) ⊎ (page ≡ e.cookie / 64 → ⊥) →
          t.at (addresses.Page n page) ≡ stored_page (in_page page (entries ++ e ∷ []))
      by-stand page (inl same) =
          ap (λ p. t.at (addresses.Page n p)) same ∙ here
          ∙ ap (λ p. stored_page (in_page p entries ++ e ∷ [])) (sym same) ∙ ap stored_page (sym (own page same))
      by-stand page (inr apart) =
          others page apart ∙ has.stand page ∙ ap stored_page (sym (other page apart))

  -- ---- a name goes
  pub pages-lost : (name : List ℕ) (e : Entry) → NamesOnce entries → entry_of entries name ≡ Some e →
      t.at (addresses.Page n (e.cookie / 64)) ≡ stored_page (without (in_page (e.cookie / 64) entries) name)
      → ((page : ℕ) → (page ≡ e.cookie / 64 → ⊥) → t.at (addresses.Page n page) ≡ s.at (addresses.Page n page))
      → lists after (e.cookie / 64) ≡ has_some (without (in_page (e.cookie / 64) entries) name)
      → ((page : ℕ) → (page ≡ e.cookie / 64 → ⊥) → lists after page ≡ lists before page)
      → HasPages s n before entries → HasPages t n after (without entries name)
  pages-lost name e once found here others listed same-listed has = record {
    listed = λ page. by-listed page (cases_eq page (e.cookie / 64));
    stand = λ page. by-stand page (cases_eq page (e.cookie / 64));
  }
    where
      other : (page : ℕ) → (page ≡ e.cookie / 64 → ⊥) → in_page page (without entries name) ≡ in_page page entries
      other page apart =
          page-without page entries name
          ∙ without-absent name (in_page page entries)
          (absent-elsewhere (λ (x : Entry). x.cookie / 64 == page) name entries e once found
          (ne_eqb (e.cookie / 64) page (λ is. apart (sym is))))

      by-listed : (page : ℕ) → (page ≡ e.cookie / 64) ⊎ (page ≡ e.cookie / 64 → ⊥) →
          lists after page ≡ has_some (in_page page (without entries name))
      by-listed page (inl same) =
          ap (lists after) same ∙ listed
          ∙ ap (λ p. has_some (without (in_page p entries) name)) (sym same)
          ∙ ap has_some (sym (page-without page entries name))
      by-listed page (inr apart) = same-listed page apart ∙ has.listed page ∙ ap has_some (sym (other page apart))

      by-stand : (page : ℕ) → (page ≡ e.cookie / 64) ⊎ (page ≡ e.cookie / 64 → ⊥) →
          t.at (addresses.Page n page) ≡ stored_page (in_page page (without entries name))
      by-stand page (inl same) =
          ap (λ p. t.at (addresses.Page n p)) same ∙ here
          ∙ ap (λ p. stored_page (without (in_page p entries) name)) (sym same)
          ∙ ap stored_page (sym (page-without page entries name))
      by-stand page (inr apart) = others page apart ∙ has.stand page ∙ ap stored_page (sym (other page apart))
