-- A directory that is read page by page shows each entry that stayed, once.
use Rattle.std.proofs.Common.{
  ◌≡◌,
  ◌==◌,
  ℕ,
  suc,
  ◌+◌,
  ◌<◌,
  ◌≤◌,
  true,
  false,
  cond,
  List,
  [],
  ◌∷◌,
  ◌++◌,
  nat_lt,
  ◌⊎◌,
  inl,
  inr,
  refl,
  sym,
  ◌∙◌,
  ap,
  subst,
  arith,
}
use Rattle.std.proofs.lemmas.Bool.{both_ways, leb-true, le-leb, ne_eqb}
use Rattle.std.proofs.lemmas.List.Elements.{
  Contains-append_cases,
  Contains-append_left,
  Contains-append_right,
  Contains-push_cases,
}
use Rattle.std.proofs.lemmas.List.Sums.{sum_by-cons}
use Rattle.std.specs.Cmp.{unsigned_Decides}
use Rattle.std.specs.List.{Contains, count_by}
use Rattle.nfs_machine.specs.Pages.{behind}
use Rattle.nfs_machine.specs.Paging.{Rises, next_cookie}
use Rattle.nfs_machine.proofs.VisitLemmas.{InOrder, PagesAreWhole, ReadsOn, IsAtEach, Visit, shown_by}
use Rattle.nfs_machine.specs.State.{Entry}
use Rattle.nfs_machine.proofs.ChecksPassedLemmas.{are_none, no-entry}

-- ---- cookies that rise
rises-lower : (a b : ℕ) (es : List Entry) → a ≤ b → Rises b es → Rises a es
rises-lower a b [] le h = tt
rises-lower a b (e ∷ es) le h = (omega (arith, le, h), h.1)

kept : (b c : ℕ) (es : List Entry) → Rises b es → Rises b (behind c es)
kept b c [] h = tt
kept b c (e ∷ es) h =
    elim (nat_lt c e.cookie) as (λ t. Rises b (cond t (e ∷ behind c es) (behind c es))) [
      | true ↦ (h.0, kept e.cookie c es h.1)
      | false ↦ kept b c es (rises-lower b e.cookie es (omega (arith, h)) h.1)
    ]

behind-rises : (b c : ℕ) (es : List Entry) → Rises b es → Rises c (behind c es)
behind-rises b c [] h = tt
behind-rises b c (e ∷ es) h =
    elim (nat_lt c e.cookie) as (λ t. nat_lt c e.cookie ≡ t → Rises c (cond t (e ∷ behind c es) (behind c es))) [
      | true ↦ λ is. (let above = leb-true (suc c) e.cookie is in (omega (arith, above), kept e.cookie c es h.1))
      | false ↦ λ is. behind-rises e.cookie c es h.1
    ] refl

rises-front : (b : ℕ) (xs ys : List Entry) → Rises b (xs ++ ys) → Rises b xs
rises-front b [] ys h = tt
rises-front b (x ∷ xs) ys h = (h.0, rises-front x.cookie xs ys h.1)

rises-rest : (b : ℕ) (xs ys : List Entry) → Rises b (xs ++ ys) → Rises (next_cookie b xs) ys
rises-rest b [] ys h = h
rises-rest b (x ∷ xs) ys h = rises-rest x.cookie xs ys h.1

rises-both : (b : ℕ) (xs ys : List Entry) → Rises b xs → Rises (next_cookie b xs) ys → Rises b (xs ++ ys)
rises-both b [] ys h k = k
rises-both b (x ∷ xs) ys h k = (h.0, rises-both x.cookie xs ys h.1 k)

-- ---- entries of lists
cases : (x : Entry) (xs : List Entry) (e : Entry) → Contains (x ∷ xs) e → (x ≡ e) ⊎ Contains xs e
cases x xs e h =
    elim (Contains-append_cases (x ∷ []) xs e h) [
      | inl one ↦ elim (Contains-push_cases [] x e one) [
        | inl none ↦ absurd (let below = none.1 in omega (arith, below))
        | inr same ↦ inl same
      ]
      | inr more ↦ inr more
    ]

nowhere : (e : Entry) → Contains [] e → ⊥
nowhere e h = let below = h.1 in omega (arith, below)

above-all : (b : ℕ) (es : List Entry) (e : Entry) → Rises b es → Contains es e → b < e.cookie
above-all b [] e h at = absurd (nowhere e at)
above-all b (x ∷ es) e h at =
    elim (cases x es e at) [
      | inl same ↦ subst (λ (y : Entry). b < y.cookie) same h.0
      | inr more ↦ (let later = above-all x.cookie es e h.1 more in omega (arith, later, h))
    ]

pub first : (x : Entry) (xs : List Entry) → Contains (x ∷ xs) x
first x xs = (0, omega arith, refl)

-- what has a greater cookie is behind it
left : (c : ℕ) (es : List Entry) (e : Entry) → c < e.cookie → Contains es e → Contains (behind c es) e
left c [] e lt at = absurd (nowhere e at)
left c (x ∷ es) e lt at =
    elim (nat_lt c x.cookie) as (λ t. nat_lt c x.cookie ≡ t → Contains (cond t (x ∷ behind c es) (behind c es)) e) [
      | true ↦ λ is. elim (cases x es e at) [
        | inl same ↦ subst (λ (y : Entry). Contains (x ∷ behind c es) y) same (first x (behind c es))
        | inr more ↦ Contains-append_right (x ∷ []) (behind c es) e (left c es e lt more)
      ]
      | false ↦ λ is. elim (cases x es e at) [
        | inl same ↦ (let passes = le-leb (suc c) x.cookie (subst (λ (y : Entry). suc c ≤ y.cookie) (sym same)
            (omega (arith, lt))) in absurd (both_ways (nat_lt c x.cookie) is passes))
        | inr more ↦ left c es e lt more
      ]
    ] refl

-- ---- pages
pages-rise : (c : ℕ) (visits : List Visit) → InOrder visits → ReadsOn c visits → Rises c (shown_by visits)
pages-rise c [] order on = tt
pages-rise c (v ∷ []) order on =
    let whole = subst (Rises c) on.0.1.0 (behind-rises 0 c v.entries order.0) in
    rises-both c v.page [] (rises-front c v.page on.0.0 whole) tt
pages-rise c (v ∷ w ∷ visits) order on =
    let whole = subst (Rises c) on.0.1.0 (behind-rises 0 c v.entries order.0) in
    rises-both c v.page (shown_by (w ∷ visits)) (rises-front c v.page on.0.0 whole)
    (pages-rise (next_cookie c v.page) (w ∷ visits) order.1 on.2)

none-left : (es : List Entry) (e : Entry) → are_none es ≡ true → Contains es e → ⊥
none-left es e is at = nowhere e (subst (λ l. Contains l e) (no-entry es is) at)

shows : (c : ℕ) (visits : List Visit) (e : Entry) → InOrder visits → ReadsOn c visits → IsAtEach visits e → c < e.cookie
    → Contains (shown_by visits) e
shows c [] e order on stays lt = absurd on
shows c (v ∷ []) e order on stays lt =
    let here = subst (λ es. Contains es e) on.0.1.0 (left c v.entries e lt stays.0) in
    elim (Contains-append_cases v.page on.0.0 e here) [
      | inl in_page ↦ Contains-append_left v.page [] e in_page
      | inr in_rest ↦ absurd (none-left on.0.0 e (sym on.0.3 ∙ on.1) in_rest)
    ]
shows c (v ∷ w ∷ visits) e order on stays lt =
    let here = subst (λ es. Contains es e) on.0.1.0 (left c v.entries e lt stays.0) in
    let whole = subst (Rises c) on.0.1.0 (behind-rises 0 c v.entries order.0) in
    elim (Contains-append_cases v.page on.0.0 e here) [
      | inl in_page ↦ Contains-append_left v.page (shown_by (w ∷ visits)) e in_page
      | inr in_rest ↦ Contains-append_right v.page (shown_by (w ∷ visits)) e
          (shows (next_cookie c v.page) (w ∷ visits) e order.1 on.2 stays.1 (above-all (next_cookie c v.page) on.0.0 e
          (rises-rest c v.page on.0.0 whole) in_rest))
    ]

-- ---- once
abbrev cookies : ℕ → List Entry → ℕ
cookies k es = count_by (λ (x : Entry). x.cookie == k) es

counted : (k : ℕ) (x : Entry) (es : List Entry) → cookies k (x ∷ es) ≡ cond (x.cookie == k) 1 0 + cookies k es
counted k x es = sum_by-cons (λ (y : Entry). cond {A = ℕ} (y.cookie == k) 1 0) x es

none-below : (k b : ℕ) (es : List Entry) → k ≤ b → Rises b es → cookies k es ≡ 0
none-below k b [] le h = refl
none-below k b (x ∷ es) le h =
    let apart = ne_eqb x.cookie k (λ same. omega (arith, same, h, le)) in
    let zero_here : cond {A = ℕ} (x.cookie == k) 1 0 ≡ 0 = ap (λ t. cond t 1 0) apart in
    omega (arith, counted k x es, zero_here, none-below k x.cookie es (omega (arith, le, h)) h.1)

one : (b : ℕ) (es : List Entry) (e : Entry) → Rises b es → Contains es e → cookies e.cookie es ≡ 1
one b [] e h at = absurd (nowhere e at)
one b (x ∷ es) e h at =
    elim (cases x es e at) [
      | inl same ↦ (
          let cookie = ap (λ (y : Entry). y.cookie) same in
          let here : cond {A = ℕ} (x.cookie == e.cookie) 1 0 ≡ 1 = ap (λ t. cond t 1 0)
          ((unsigned_Decides x.cookie e.cookie).1 cookie) in
          omega (arith, counted e.cookie x es, here, none-below e.cookie x.cookie es (omega (arith, cookie)) h.1)
          )
      | inr more ↦ (
          let later = above-all x.cookie es e h.1 more in
          let apart = ne_eqb x.cookie e.cookie (λ same. omega (arith, same, later)) in
          let zero_here : cond {A = ℕ} (x.cookie == e.cookie) 1 0 ≡ 0 = ap (λ t. cond t 1 0) apart in
          omega (arith, counted e.cookie x es, zero_here, one x.cookie es e h.1 more)
          )
    ]

pub whole : PagesAreWhole
whole [] order on = absurd on
whole (v ∷ visits) order on =
    let rises = pages-rise 0 (v ∷ visits) order on in
    let shown : (e : Entry) → IsAtEach (v ∷ visits) e → Contains (shown_by (v ∷ visits)) e =
    λ e stays. shows 0 (v ∷ visits) e order on stays (above-all 0 v.entries e order.0 stays.0) in
    record { rises = rises; shows = shown; once = λ e stays. one 0 (shown_by (v ∷ visits)) e rises (shown e stays) }
