-- Entries of a directory page by page: those before a page and those of it are those before the next one.
use Rattle.std.proofs.Common.{◌≡◌, ◌⊎◌, ℕ, suc, ◌/◌, ◌<◌, ◌≤◌, ◌==◌, Bool, true, false, not, cond, filter, List, []}
use Rattle.std.proofs.Common.{◌∷◌, ◌++◌}
use Rattle.std.proofs.Common.{Option, Some, None, inl, inr, refl, sym, ◌∙◌, ap, arith}
use Rattle.std.proofs.lemmas.Bool.{cases_order, eq-eqb, le-ltb, lt-ltb, ltb-false, ltb-true, ne_eqb, true≢false}
use Rattle.std.specs.List.{AllByRecursion}
use Rattle.std.specs.Prelude.{nat_lt}
use Rattle.nfs_machine.specs.Pages.{behind}
use Rattle.nfs_machine.specs.State.{Entry}
use Rattle.nfs_machine.specs.WellFormed.{CookiesRise}
use Rattle.nfs_objects.proofs.PagePartAddressLemmas.{is_before}
use Rattle.nfs_objects.specs.Directories.{has_some, in_page}
use Rattle.nfs_objects.specs.PageRuns.{IsNextPage, lists}
use Rattle.nfs_objects.specs.declared.page_list.PageRun.{PageRun}

-- the entries in pages before this one; where there is none, all
abbrev pub front : Option ℕ → List Entry → List Entry
front next es = filter (λ (e : Entry). is_before next (e.cookie / 64)) es

pub front-all : (es : List Entry) → front None es ≡ es
front-all [] = refl
front-all (e ∷ es) = ap (λ l. e ∷ l) (front-all es)

filter-same : (p q : Entry → Bool) (es : List Entry) → AllByRecursion (λ (e : Entry). p e ≡ q e) es →
    filter p es ≡ filter q es
filter-same p q [] all = refl
filter-same p q (e ∷ es) all =
    ap (λ b. cond b (e ∷ filter p es) (filter p es)) all.0
    ∙ ap (λ l. cond (q e) (e ∷ l) l) (filter-same p q es all.1)

-- in rising order none behind a cookie lies in a page before its own
none-front : (below last page : ℕ) (es : List Entry) → page ≤ below / 64 → CookiesRise below es last →
    front (Some page) es ≡ []
none-front below last page [] up rise = refl
none-front below last page (e ∷ es) up rise =
    let first = rise.0 in
    ap (λ b. cond b (e ∷ front (Some page) es) (front (Some page) es))
    (le-ltb (e.cookie / 64) page (omega (arith, up, first)))
    ∙ none-front e.cookie last page es (omega (arith, up, first)) rise.1

-- in rising order those up to a page are those before it, and then those of it
up-to : (below last page : ℕ) (es : List Entry) → CookiesRise below es last →
    filter (λ (e : Entry). nat_lt (e.cookie / 64) (suc page)) es ≡ front (Some page) es ++ in_page page es
up-to below last page [] rise = refl
up-to below last page (e ∷ es) rise = by (cases_order at page) (up-to e.cookie last page es rise.1)
  where
    at : ℕ
    at = e.cookie / 64

    these : List Entry
    these = filter (λ (x : Entry). nat_lt (x.cookie / 64) (suc page)) es

    by : (at ≡ page) ⊎ ((at < page) ⊎ (page < at)) → these ≡ front (Some page) es ++ in_page page es →
        cond (nat_lt at (suc page)) (e ∷ these) these
        ≡ cond (nat_lt at page) (e ∷ front (Some page) es) (front (Some page) es)
        ++ cond (at == page) (e ∷ in_page page es) (in_page page es)
    by (inl same) rest =
        let none : front (Some page) es ≡ [] = none-front e.cookie last page es (omega (arith, same)) rise.1 in
        ap (λ b. cond b (e ∷ these) these) (lt-ltb at (suc page) (omega (arith, same)))
        ∙ ap (λ l. e ∷ l) (rest ∙ ap (λ l. l ++ in_page page es) none)
        ∙ sym (ap (λ b. cond b (e ∷ front (Some page) es) (front (Some page) es)
        ++ cond (at == page) (e ∷ in_page page es) (in_page page es)) (le-ltb at page (omega (arith, same)))
        ∙ ap (λ b. front (Some page) es ++ cond b (e ∷ in_page page es) (in_page page es)) (eq-eqb at page same)
        ∙ ap (λ l. l ++ e ∷ in_page page es) none)
    by (inr (inl less)) rest =
        ap (λ b. cond b (e ∷ these) these) (lt-ltb at (suc page) (omega (arith, less)))
        ∙ ap (λ l. e ∷ l) rest
        ∙ sym (ap (λ b. cond b (e ∷ front (Some page) es) (front (Some page) es)
        ++ cond (at == page) (e ∷ in_page page es) (in_page page es)) (lt-ltb at page less)
        ∙ ap (λ b. (e ∷ front (Some page) es) ++ cond b (e ∷ in_page page es) (in_page page es))
        (ne_eqb at page (λ same. omega (arith, less, same))))
    by (inr (inr more)) rest =
        ap (λ b. cond b (e ∷ these) these) (le-ltb at (suc page) (omega (arith, more)))
        ∙ rest
        ∙ sym (ap (λ b. cond b (e ∷ front (Some page) es) (front (Some page) es)
        ++ cond (at == page) (e ∷ in_page page es) (in_page page es)) (le-ltb at page (omega (arith, more)))
        ∙ ap (λ b. front (Some page) es ++ cond b (e ∷ in_page page es) (in_page page es))
        (ne_eqb at page (λ same. omega (arith, more, same))))

-- a page lies before the next one
abbrev pub IsBehind : (page : ℕ) → (next : Option ℕ) → Type 0
IsBehind page None = Unit {0}
IsBehind page (Some next) = page < next

before-next : (page q : ℕ) (next : Option ℕ) → IsBehind page next → q ≤ page → is_before next q ≡ true
before-next page q None less up = refl
before-next page q (Some next) less up = lt-ltb q next (omega (arith, less, up))

-- a page has an entry where one has its number
pub page-has : (e : Entry) (es : List Entry) → has_some (in_page (e.cookie / 64) (e ∷ es)) ≡ true
page-has e es =
    let at = e.cookie / 64 in
    ap (λ b. has_some (cond b (e ∷ in_page at es) (in_page at es))) (eq-eqb at at refl)

-- with one entry less no page has one more
pub page-less : (e : Entry) (es : List Entry) (q : ℕ) → has_some (in_page q (e ∷ es)) ≡ false →
    has_some (in_page q es) ≡ false
page-less e es q =
    elim (e.cookie / 64 == q) as (λ b. has_some (cond b (e ∷ in_page q es) (in_page q es)) ≡ false →
    has_some (in_page q es) ≡ false) [ true ↦ λ some. cc | false ↦ λ some. some ]

-- where no page between the two has an entry, those before the next one are those up to the page
tests-agree : (page : ℕ) (next : Option ℕ) (es : List Entry) → IsBehind page next →
    ((q : ℕ) → page < q → is_before next q ≡ true → has_some (in_page q es) ≡ false) →
    AllByRecursion (λ (e : Entry). is_before next (e.cookie / 64) ≡ nat_lt (e.cookie / 64) (suc page)) es
tests-agree page next [] less none = tt
tests-agree page next (e ∷ es) less none = (
  by (cases_order at page),
  tests-agree page next es less (λ q more before. page-less e es q (none q more before)),
)
  where
    at : ℕ
    at = e.cookie / 64

    over : page < at → (b : Bool) → is_before next at ≡ b → b ≡ false
    over more true is = absurd (true≢false (sym (page-has e es) ∙ none at more is))
    over more false is = refl

    by : (at ≡ page) ⊎ ((at < page) ⊎ (page < at)) → is_before next at ≡ nat_lt at (suc page)
    by (inl same) =
        before-next page at next less (omega (arith, same)) ∙ sym (lt-ltb at (suc page) (omega (arith, same)))
    by (inr (inl under)) =
        before-next page at next less (omega (arith, under)) ∙ sym (lt-ltb at (suc page) (omega (arith, under)))
    by (inr (inr more)) =
        over more (is_before next at) refl ∙ sym (le-ltb at (suc page) (omega (arith, more)))

-- those before the next page are those before this one, and then those of it
pub front-more : (below last page : ℕ) (next : Option ℕ) (es : List Entry) → CookiesRise below es last →
    IsBehind page next →
    ((q : ℕ) → page < q → is_before next q ≡ true → has_some (in_page q es) ≡ false) →
    front next es ≡ front (Some page) es ++ in_page page es
front-more below last page next es rise less none =
    filter-same (λ (e : Entry). is_before next (e.cookie / 64)) (λ (e : Entry). nat_lt (e.cookie / 64) (suc page)) es
    (tests-agree page next es less none)
    ∙ up-to below last page es rise

-- ---- from one page to the next
pub next-behind : (pages : List PageRun) (page : ℕ) (next : Option ℕ) → IsNextPage pages (suc page) next →
    IsBehind page next
next-behind pages page None is = tt
next-behind pages page (Some next) is = (let up = is.0 in omega (arith, up))

-- no page between has an entry
pub none-between : (pages : List PageRun) (from : ℕ) (next : Option ℕ) (es : List Entry) → IsNextPage pages from next →
    ((page : ℕ) → lists pages page ≡ has_some (in_page page es)) →
    (q : ℕ) → from ≤ q → is_before next q ≡ true → has_some (in_page q es) ≡ false
none-between pages from None es is listed q up before = sym (listed q) ∙ is q up
none-between pages from (Some next) es is listed q up before =
    sym (listed q) ∙ is.2 q up (ltb-true q next before)

-- before the first page from that of a cookie on lies none that is behind the cookie
pub front-first : (cookie : ℕ) (next : Option ℕ) (es : List Entry) →
    ((q : ℕ) → cookie / 64 ≤ q → is_before next q ≡ true → has_some (in_page q es) ≡ false) →
    behind cookie (front next es) ≡ []
front-first cookie next [] none = refl
front-first cookie next (e ∷ es) none =
    by (is_before next at) refl (nat_lt cookie e.cookie) refl
    (front-first cookie next es (λ q up before. page-less e es q (none q up before)))
  where
    at : ℕ
    at = e.cookie / 64

    by : (b : Bool) → is_before next at ≡ b → (t : Bool) → nat_lt cookie e.cookie ≡ t →
        behind cookie (front next es) ≡ [] →
        behind cookie (cond (is_before next at) (e ∷ front next es) (front next es)) ≡ []
    by false out t is rest = ap (λ b. behind cookie (cond b (e ∷ front next es) (front next es))) out ∙ rest
    by true before true more rest = absurd (
        let less : cookie < e.cookie = ltb-true cookie e.cookie more in
        true≢false (sym (page-has e es) ∙ none at (omega (arith, less)) before))
    by true before false under rest =
        ap (λ b. behind cookie (cond b (e ∷ front next es) (front next es))) before
        ∙ ap (λ t. cond t (e ∷ behind cookie (front next es)) (behind cookie (front next es))) under ∙ rest

-- what does not lie before a page
abbrev pub back : Option ℕ → List Entry → List Entry
back next es = filter (λ (e : Entry). not (is_before next (e.cookie / 64))) es

-- in rising order those before a page come first
pub front-back : (below last : ℕ) (next : Option ℕ) (es : List Entry) → CookiesRise below es last →
    es ≡ front next es ++ back next es
front-back below last next [] rise = refl
front-back below last next (e ∷ es) rise = by (is_before next at) refl (front-back e.cookie last next es rise.1)
  where
    at : ℕ
    at = e.cookie / 64

    past : (next : Option ℕ) → is_before next at ≡ false → front next es ≡ []
    past None out = cc
    past (Some page) out =
        none-front e.cookie last page es (let le = ltb-false at page out in omega (arith, le)) rise.1

    by : (b : Bool) → is_before next at ≡ b → es ≡ front next es ++ back next es →
        e ∷ es ≡ cond (is_before next at) (e ∷ front next es) (front next es)
        ++ cond (not (is_before next at)) (e ∷ back next es) (back next es)
    by true before rest =
        ap (λ l. e ∷ l) rest
        ∙ sym (ap (λ b. cond b (e ∷ front next es) (front next es)
        ++ cond (not b) (e ∷ back next es) (back next es)) before)
    by false out rest =
        let none : front next es ≡ [] = past next out in
        ap (λ l. e ∷ l) (rest ∙ ap (λ l. l ++ back next es) none)
        ∙ sym (ap (λ b. cond b (e ∷ front next es) (front next es)
        ++ cond (not b) (e ∷ back next es) (back next es)) out
        ∙ ap (λ l. l ++ e ∷ back next es) none)
