-- Entries in pages and parts: what a test of names, one entry more and one name less do to look-ups and to pages, and
-- which names move where a bucket has one part more.
use Rattle.std.proofs.Common.{◌≡◌, ℕ, ◌+◌, ◌/◌, ◌==◌, Bool, true, false, not, cond}
use Rattle.std.proofs.Common.{List, [], ◌∷◌, ◌++◌, Option, Some, None, length, refl, sym, ◌∙◌, ap, arith, filter}
use Rattle.std.specs.Cmp.Lexicographic.{bytes_decides}
use Rattle.nfs_machine.specs.Bytes.{same_bytes}
use Rattle.nfs_machine.specs.Checks.{entry_of}
use Rattle.nfs_machine.specs.RemoveSteps.{without}
use Rattle.nfs_machine.specs.State.{Entry}
use Rattle.std.proofs.lemmas.Bool.{ne_eqb}
use Rattle.nfs_objects.specs.Directories.{has_some, in_page}

-- ---- look-ups
abbrev is_named : List ℕ → Entry → Bool
is_named name e = same_bytes e.name name

-- where entries are kept by a test of their names, a name that passes it leads where it did, and no other leads
-- anywhere
pub find-filter : (p : List ℕ → Bool) (es : List Entry) (name : List ℕ) →
    entry_of (filter (λ (e : Entry). p e.name) es) name ≡ cond (p name) (entry_of es name) None
find-filter p [] name =
    elim (p name) as (λ b. ◌≡◌ {A = Option Entry} None (cond b None None)) [ true ↦ refl | false ↦ refl ]
find-filter p (e ∷ es) name = by (same_bytes e.name name) refl (find-filter p es name)
  where
    kept : List Entry
    kept = filter (λ (x : Entry). p x.name) es

    by : (b : Bool) → same_bytes e.name name ≡ b → entry_of kept name ≡ cond (p name) (entry_of es name) None →
        entry_of (cond (p e.name) (e ∷ kept) kept) name ≡ cond (p name) (entry_of (e ∷ es) name) None
    by true here rest =
        let same : p e.name ≡ p name = ap p ((bytes_decides e.name name).0 here) in
        ap (λ b. entry_of (cond b (e ∷ kept) kept) name) same
        ∙ elim (p name) as (λ b. entry_of kept name ≡ cond b (entry_of es name) None →
        entry_of (cond b (e ∷ kept) kept) name ≡ cond b (entry_of (e ∷ es) name) None) [
          | true ↦ λ r. ap (λ c. cond c (Some e) (entry_of kept name)) here
              ∙ sym (ap (λ c. cond c (Some e) (entry_of es name)) here)
          | false ↦ λ r. r
        ] rest
    by false there rest =
        elim (p e.name) as (λ b. entry_of (cond b (e ∷ kept) kept) name ≡ entry_of kept name) [
          | true ↦ ap (λ c. cond c (Some e) (entry_of kept name)) there
          | false ↦ refl
        ]
        ∙ rest ∙ ap (λ x. cond (p name) x None) (sym (ap (λ c. cond c (Some e) (entry_of es name)) there))

-- of entries behind others, those in front lead first
pub find-append : (xs ys : List Entry) (name : List ℕ) →
    entry_of (xs ++ ys) name ≡ elim (entry_of xs name) [ None ↦ entry_of ys name | Some e ↦ Some e ]
find-append [] ys name = refl
find-append (x ∷ xs) ys name =
    elim (same_bytes x.name name) as (λ b. cond b (Some x) (entry_of (xs ++ ys) name) ≡
    elim (cond b (Some x) (entry_of xs name)) [ None ↦ entry_of ys name | Some e ↦ Some e ]) [
      | true ↦ refl
      | false ↦ find-append xs ys name
    ]

-- ---- pages
-- entries that are kept by two tests are so in either order
pub filter-swap : (p q : Entry → Bool) (es : List Entry) → filter p (filter q es) ≡ filter q (filter p es)
filter-swap p q [] = refl
filter-swap p q (e ∷ es) = by (p e) (q e) refl refl (filter-swap p q es)
  where
    by : (a b : Bool) → p e ≡ a → q e ≡ b → filter p (filter q es) ≡ filter q (filter p es) →
        filter p (cond (q e) (e ∷ filter q es) (filter q es)) ≡ filter q (cond (p e) (e ∷ filter p es) (filter p es))
    by true true x y rest =
        ap (λ b. filter p (cond b (e ∷ filter q es) (filter q es))) y
        ∙ ap (λ b. cond b (e ∷ filter p (filter q es)) (filter p (filter q es))) x
        ∙ ap (λ l. e ∷ l) rest
        ∙ sym (ap (λ b. cond b (e ∷ filter q (filter p es)) (filter q (filter p es))) y)
        ∙ sym (ap (λ b. filter q (cond b (e ∷ filter p es) (filter p es))) x)
    by true false x y rest =
        ap (λ b. filter p (cond b (e ∷ filter q es) (filter q es))) y ∙ rest
        ∙ sym (ap (λ b. cond b (e ∷ filter q (filter p es)) (filter q (filter p es))) y)
        ∙ sym (ap (λ b. filter q (cond b (e ∷ filter p es) (filter p es))) x)
    by false true x y rest =
        ap (λ b. filter p (cond b (e ∷ filter q es) (filter q es))) y
        ∙ ap (λ b. cond b (e ∷ filter p (filter q es)) (filter p (filter q es))) x ∙ rest
        ∙ sym (ap (λ b. filter q (cond b (e ∷ filter p es) (filter p es))) x)
    by false false x y rest =
        ap (λ b. filter p (cond b (e ∷ filter q es) (filter q es))) y ∙ rest
        ∙ sym (ap (λ b. filter q (cond b (e ∷ filter p es) (filter p es))) x)

-- a page without a name is the page of the entries without it
pub page-without : (page : ℕ) (es : List Entry) (name : List ℕ)
    → in_page page (without es name) ≡ without (in_page page es) name
page-without page es name =
    filter-swap (λ (e : Entry). e.cookie / 64 == page) (λ (e : Entry). not (same_bytes e.name name)) es

-- there is none, or there is some
pub none-some : (es : List Entry) → (length es == 0) ≡ not (has_some es)
none-some [] = refl
none-some (e ∷ es) = ne_eqb (length (e ∷ es)) 0 (λ same. omega (arith, same))
