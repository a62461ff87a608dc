-- Runs of pages that rise: where a page is in them, and what a page more and a page less make of them.
use Rattle.std.proofs.Common.{◌≡◌, ◌⊎◌, ℕ, zero, suc, ◌+◌, ◌-◌, ◌<◌, ◌≤◌, ◌^◌, ◌==◌, ◌&&◌, ◌||◌, Bool, true, false, not}
use Rattle.std.proofs.Common.{cond}
use Rattle.std.proofs.Common.{List, [], ◌∷◌, ◌++◌, length, take, drop, get_or, refl, sym, ◌∙◌, ap, subst, arith, inl}
use Rattle.std.proofs.Common.{inr}
use Rattle.std.proofs.Common.{Option, Some, None, ltb, ◌≢◌, IfSome, slice_get}
use Rattle.std.proofs.lemmas.Bool.{and_left, and_right, cases_order, eqb-true, eq-eqb, le-leb, lt-leb, ltb-true}
use Rattle.std.proofs.lemmas.Bool.{ltb-false, ne_eqb, or_from}
use Rattle.std.proofs.lemmas.Bool.{or_parts, or_right, true≢false}
use Rattle.std.proofs.Common.{append_assoc, take-append-drop}
use Rattle.std.proofs.Math.Bool.{or-false}
use Rattle.std.proofs.Math.Seq.{drop-cons}
use Rattle.std.proofs.Common.{max}
use Rattle.std.specs.Prelude.{nat_le, nat_lt}
use Rattle.std.specs.List.{AllByRecursion, AllWithin}
use Rattle.std.specs.List.Sorted.{IsNonDecreasingBy}
use Rattle.nfs_objects.specs.PageRuns.{EndsRun, IsNextPage, IsWithRun, RunsRise, TellsEmpty, in_run, lists, rest_of}
use Rattle.nfs_objects.specs.declared.page_list.PageRun.{PageRun}

-- all end before a page, and none of them does
abbrev pub EndBefore : (page : ℕ) → List PageRun → Type 0
EndBefore page runs = AllByRecursion (λ (run : PageRun). run.last < page) runs

abbrev pub Reach : (page : ℕ) → List PageRun → Type 0
Reach page runs = AllByRecursion (λ (run : PageRun). page ≤ run.last) runs

-- all begin behind a page
abbrev pub BeginBehind : (page : ℕ) → List PageRun → Type 0
BeginBehind page runs = AllByRecursion (λ (run : PageRun). page < run.first) runs

-- ---- tests
le-is : (a b : ℕ) → a ≤ b → nat_le a b ≡ true
le-is a b le = le-leb a b le

lt-not : (a b : ℕ) → b < a → nat_le a b ≡ false
lt-not a b less = lt-leb a b less

pub run-has : (page : ℕ) (run : PageRun) → run.first ≤ page → page ≤ run.last → in_run page run ≡ true
run-has page run from to = ap (λ b. b && nat_le page run.last) (le-is run.first page from) ∙ le-is page run.last to

run-before : (page : ℕ) (run : PageRun) → run.last < page → in_run page run ≡ false
run-before page run less = and_right (nat_le run.first page) (nat_le page run.last) (lt-not page run.last less)

run-behind : (page : ℕ) (run : PageRun) → page < run.first → in_run page run ≡ false
run-behind page run less = and_left (nat_le run.first page) (nat_le page run.last) (lt-not run.first page less)

-- ---- where a page is
pub none-before : (page from : ℕ) (runs : List PageRun) → EndBefore from runs → from ≤ page → lists runs page ≡ false
none-before page from [] ends up = refl
none-before page from (run ∷ runs) ends up =
    or_from (in_run page run) (lists runs page) (run-before page run (omega (arith, up, ends.0)))
    (none-before page from runs ends.1 up)

pub none-behind : (page from : ℕ) (runs : List PageRun) → BeginBehind from runs → page ≤ from → lists runs page ≡ false
none-behind page from [] begin down = refl
none-behind page from (run ∷ runs) begin down =
    or_from (in_run page run) (lists runs page) (run-behind page run (omega (arith, down, begin.0)))
    (none-behind page from runs begin.1 down)

-- ends of runs that rise do not fall
over : (runs : List PageRun) (x j : ℕ) (d : PageRun) → BeginBehind x runs → RunsRise runs → j < length runs →
    x ≤ (get_or runs j d).last
over [] x j d begin rise within = absurd (omega (arith, within))
over (run ∷ runs) x zero d begin rise within = omega (arith, begin.0, rise.0)
over (run ∷ runs) x (suc j) d begin rise within = over runs x j d begin.1 rise.3 (omega (arith, within))

pub ends-rise : (runs : List PageRun) → RunsRise runs → IsNonDecreasingBy (λ (run : PageRun). run.last) runs
ends-rise [] rise i j d le within = absurd (omega (arith, within))
ends-rise (run ∷ runs) rise zero zero d le within = omega arith
ends-rise (run ∷ runs) rise zero (suc j) d le within =
    omega (arith, over runs (run.last + 1) j d rise.2 rise.3 (omega (arith, within)))
ends-rise (run ∷ runs) rise (suc i) zero d le within = absurd (omega (arith, le))
ends-rise (run ∷ runs) rise (suc i) (suc j) d le within =
    ends-rise runs rise.3 i j d (omega (arith, le)) (omega (arith, within))

-- the runs in front of a place, and from it on
module _ (page : ℕ) where
  abbrev Ends : PageRun → Type 0
  Ends run = ltb run.last page ≡ true

  abbrev Reaches : PageRun → Type 0
  Reaches run = ltb run.last page ≡ false

  behind-first : (P : PageRun → Type 0) (run : PageRun) (runs : List PageRun) (low first high : ℕ) →
      ((k : ℕ) → low ≤ k → first ≤ suc k) → AllWithin P (run ∷ runs) first (suc high) → AllWithin P runs low high
  behind-first P run runs low first high lower all k d from below = all (suc k) d (lower k from) (omega (arith, below))

  pub fronts-end : (runs : List PageRun) (i : ℕ) → AllWithin Ends runs 0 i → EndBefore page (take i runs)
  fronts-end [] zero all = tt
  fronts-end [] (suc i) all = tt
  fronts-end (run ∷ runs) zero all = tt
  fronts-end (run ∷ runs) (suc i) all = (
    ltb-true run.last page (all 0 run (omega arith) (omega arith)),
    fronts-end runs i (behind-first Ends run runs 0 0 i (λ k from. omega arith) all),
  )

  pub others-reach : (runs : List PageRun) (i : ℕ) → AllWithin Reaches runs i (length runs) → Reach page (drop i runs)
  others-reach [] zero all = tt
  others-reach [] (suc i) all = tt
  others-reach (run ∷ runs) zero all = (
    ltb-false run.last page (all 0 run (omega arith) (omega arith)),
    others-reach runs zero (behind-first Reaches run runs 0 0 (length runs) (λ k from. omega arith) all),
  )
  others-reach (run ∷ runs) (suc i) all =
      others-reach runs i (behind-first Reaches run runs i (suc i) (length runs) (λ k from. omega (arith, from)) all)

-- ---- the next page
-- the greater of two numbers
abbrev Greatest : (a b n : ℕ) → Type 0
Greatest a b n = (a ≤ n) × (b ≤ n) × ((q : ℕ) → b ≤ q → q < n → q < a)

greatest : (a b : ℕ) → Greatest a b (max a b)
greatest a b = (omega arith, omega arith, λ q from less. omega (arith, from, less))

lists-append : (xs ys : List PageRun) (page : ℕ) → lists (xs ++ ys) page ≡ (lists xs page || lists ys page)
lists-append [] ys page = refl
lists-append (x ∷ xs) ys page =
    ap (λ b. in_run page x || b) (lists-append xs ys page)
    ∙ elim (in_run page x) as (λ b. (b || (lists xs page || lists ys page)) ≡ ((b || lists xs page) || lists ys page)) [
      | true ↦ refl
      | false ↦ refl
    ]

lists-parts : (place page : ℕ) (runs : List PageRun) →
    lists runs page ≡ (lists (take place runs) page || lists (drop place runs) page)
lists-parts place page runs =
    ap (λ r. lists r page) (sym (take-append-drop place runs))
    ∙ lists-append (take place runs) (drop place runs) page

rise-from : (place : ℕ) (runs : List PageRun) → RunsRise runs → RunsRise (drop place runs)
rise-from zero [] rise = tt
rise-from (suc place) [] rise = tt
rise-from zero (run ∷ runs) rise = rise
rise-from (suc place) (run ∷ runs) rise = rise-from place runs rise.3

drop-past : (place : ℕ) (runs : List PageRun) → length runs ≤ place → ◌≡◌ {A = List PageRun} (drop place runs) []
drop-past zero [] past = refl
drop-past (suc place) [] past = refl
drop-past zero (run ∷ runs) past = absurd (omega (arith, past))
drop-past (suc place) (run ∷ runs) past = drop-past place runs (omega (arith, past))

module _ (runs : List PageRun) (page place : ℕ) (before : EndBefore page (take place runs)) where
  -- from the page on only runs from the place on are left
  from-place : (q : ℕ) → page ≤ q → lists runs q ≡ lists (drop place runs) q
  from-place q from =
      lists-parts place q runs
      ∙ ap (λ b. b || lists (drop place runs) q) (none-before q page (take place runs) before from)

  pub no-next : length runs ≤ place → IsNextPage runs page None
  no-next past = λ q from. from-place q from ∙ ap (λ rest. lists rest q) (drop-past place runs past)

  pub next-in : (run : PageRun) (n : ℕ) → RunsRise runs → place < length runs → run ≡ get_or runs place run →
      Reach page (drop place runs) → n ≡ max run.first page → IsNextPage runs page (Some n)
  next-in run n rise within is reach same = (
    most.1,
    from-place n most.1 ∙ ap (λ rest. lists rest n) rest
        ∙ ap (λ b. b || lists others n) (run-has n run most.0 (subst (λ x. x ≤ run.last) (sym same) (end most0))),
    λ q from less. from-place q from ∙ ap (λ rest. lists rest q) rest
        ∙ or_from (in_run q run) (lists others q) (run-behind q run (most.2 q from less))
        (none-behind q (run.last + 1) others rising.2 (omega (arith, rising.0, most.2 q from less))),
  )
    where
      others : List PageRun
      others = drop (suc place) runs

      rest : drop place runs ≡ run ∷ others
      rest = drop-cons runs place run within ∙ ap (λ (r : PageRun). r ∷ others) (sym is)

      most0 : Greatest run.first page (max run.first page)
      most0 = greatest run.first page

      most : Greatest run.first page n
      most = subst (Greatest run.first page) (sym same) most0

      rising : RunsRise (run ∷ others)
      rising = subst RunsRise rest (rise-from place runs rise)

      reaches : Reach page (run ∷ others)
      reaches = subst (Reach page) rest reach

      -- the greater of its first page and the page is not behind its last one
      end : Greatest run.first page (max run.first page) → max run.first page ≤ run.last
      end most = by (cases_order run.last (max run.first page))
        where
          by : (run.last ≡ max run.first page) ⊎ ((run.last < max run.first page)
              ⊎ (max run.first page < run.last)) → max run.first page ≤ run.last
          by (inl same) = omega (arith, same)
          by (inr (inl less)) = absurd (omega (arith, most.2 run.last reaches.0 less, rising.0))
          by (inr (inr more)) = omega (arith, more)

-- ---- where the run of a page ends
module _ (runs : List PageRun) (page place : ℕ) where
  pub ends-last : length runs ≤ place → EndsRun page (drop place runs) page (drop place runs)
  ends-last past = subst (λ (l : List PageRun). EndsRun page l page l) (sym (drop-past place runs past))
      (inr (tt, refl, refl))

  pub ends-apart : (run : PageRun) → place < length runs → run ≡ get_or runs place run → (run.first ≡ page + 1 → ⊥) →
      EndsRun page (drop place runs) page (drop place runs)
  ends-apart run within is apart =
      subst (λ (l : List PageRun). EndsRun page l page l)
      (sym (drop-cons runs place run within ∙ ap (λ (r : PageRun). r ∷ drop (suc place) runs) (sym is)))
      (inr (apart, refl, refl))

  pub ends-joined : (run : PageRun) → place < length runs → run ≡ get_or runs place run → run.first ≡ page + 1 →
      EndsRun page (drop place runs) run.last (drop (place + 1) runs)
  ends-joined run within is next =
      let same : suc place ≡ place + 1 = omega arith in
      inl (run, drop-cons runs place run within ∙ (λ i. sym is i ∷ drop (same i) runs), next, refl)

-- ---- a page more, and a page less
-- others in the place of the last runs rise, where they rise, and begin where those did
pub rise-in : (P : PageRun → Type 0) (front old new : List PageRun) → AllByRecursion P front
    → ((run : PageRun) → P run → BeginBehind (run.last + 1) old → BeginBehind (run.last + 1) new)
    → RunsRise new → RunsRise (front ++ old) → RunsRise (front ++ new)
rise-in P [] old new all up rise was = rise
rise-in P (run ∷ front) old new all up rise was =
    (was.0, was.1, begin front was.2, rise-in P front old new all.1 up rise was.3)
  where
    begin : (others : List PageRun) → BeginBehind (run.last + 1) (others ++ old) →
        BeginBehind (run.last + 1) (others ++ new)
    begin [] behind = up run all.0 behind
    begin (other ∷ others) behind = (behind.0, begin others behind.1)

-- one page more among the last runs is one page more among all
pub listed-more : (front old new : List PageRun) (page p : ℕ) → lists new p ≡ (lists old p || (p == page)) →
    lists (front ++ new) p ≡ (lists (front ++ old) p || (p == page))
listed-more [] old new page p is = is
listed-more (run ∷ front) old new page p is =
    ap (λ b. in_run p run || b) (listed-more front old new page p is)
    ∙ elim (in_run p run) as (λ b. (b || (lists (front ++ old) p || (p == page)))
    ≡ ((b || lists (front ++ old) p) || (p == page))) [ true ↦ refl | false ↦ refl ]

-- one page less so, where the runs in front end before it
pub listed-less : (front old new : List PageRun) (page p : ℕ) → EndBefore page front →
    lists new p ≡ (lists old p && not (p == page))
    → lists (front ++ new) p ≡ (lists (front ++ old) p && not (p == page))
listed-less [] old new page p ends is = is
listed-less (run ∷ front) old new page p ends is =
    ap (λ b. in_run p run || b) (listed-less front old new page p ends.1 is) ∙ by (cases_order p page)
  where
    rest : Bool
    rest = lists (front ++ old) p

    by : (p ≡ page) ⊎ ((p < page) ⊎ (page < p)) →
        (in_run p run || (rest && not (p == page))) ≡ ((in_run p run || rest) && not (p == page))
    by (inl same) = ap (λ b. b || (rest && not (p == page))) out ∙ sym (ap (λ b. (b || rest) && not (p == page)) out)
      where
        out : in_run p run ≡ false
        out = run-before p run (omega (arith, same, ends.0))
    by (inr other) =
        let apart : (p == page) ≡ false = ne_eqb p page (λ same. elim other [
          | inl less ↦ omega (arith, less, same)
          | inr more ↦ omega (arith, more, same)
        ]) in
        ap (λ b. in_run p run || (rest && not b)) apart
        ∙ elim (in_run p run) as (λ b. (b || (rest && true)) ≡ ((b || rest) && true)) [
          | true ↦ refl
          | false ↦ refl
        ]
        ∙ sym (ap (λ b. (in_run p run || rest) && not b) apart)

-- ---- what comes and goes
rise-behind : (front rest : List PageRun) → RunsRise (front ++ rest) → RunsRise rest
rise-behind [] rest rise = rise
rise-behind (run ∷ front) rest rise = rise-behind front rest rise.3

behind-less : (x y : ℕ) (runs : List PageRun) → y ≤ x → BeginBehind x runs → BeginBehind y runs
behind-less x y [] less begin = tt
behind-less x y (run ∷ runs) less begin = (omega (arith, less, begin.0), behind-less x y runs less begin.1)

any-front : (runs : List PageRun) → AllByRecursion (λ (run : PageRun). Unit {0}) runs
any-front [] = tt
any-front (run ∷ runs) = (tt, any-front runs)

-- runs that reach a page and do not list it begin behind it
not-listed : (page : ℕ) (rest : List PageRun) → RunsRise rest → Reach page rest → lists rest page ≡ false
    → BeginBehind page rest
not-listed page [] rise reach out = tt
not-listed page (run ∷ rest) rise reach out =
    (by (cases_order page run.first), behind-less (run.last + 1) page rest (omega (arith, reach.0)) rise.2)
  where
    by : (page ≡ run.first) ⊎ ((page < run.first) ⊎ (run.first < page)) → page < run.first
    by (inr (inl less)) = less
    by (inl same) = absurd (true≢false (sym (run-has page run (omega (arith, same)) reach.0)
        ∙ (or_parts (in_run page run) (lists rest page) out).0))
    by (inr (inr more)) = absurd (true≢false (sym (run-has page run (omega (arith, more)) reach.0)
        ∙ (or_parts (in_run page run) (lists rest page) out).0))

-- a run of one page has that
own-page : (page p : ℕ) → in_run p (record { first = page; last = page }) ≡ (p == page)
own-page page p = by (cases_order p page)
  where
    own : PageRun
    own = record { first = page; last = page }

    by : (p ≡ page) ⊎ ((p < page) ⊎ (page < p)) → in_run p own ≡ (p == page)
    by (inl same) = run-has p own (omega (arith, same)) (omega (arith, same)) ∙ sym (eq-eqb p page same)
    by (inr (inl less)) = run-behind p own less ∙ sym (ne_eqb p page (λ same. omega (arith, less, same)))
    by (inr (inr more)) = run-before p own more ∙ sym (ne_eqb p page (λ same. omega (arith, more, same)))

-- a run that goes on with another has what both have
both-have : (run more : PageRun) (p : ℕ) → run.first ≤ run.last → more.first ≤ more.last → run.last + 1 ≡ more.first →
    in_run p (record { first = run.first; last = more.last }) ≡ (in_run p run || in_run p more)
both-have run more p some there next = by (cases_order p more.first)
  where
    long : PageRun
    long = record { first = run.first; last = more.last }

    upper : more.first ≤ p → in_run p long ≡ (in_run p run || in_run p more)
    upper up =
        (λ i. le-is run.first p (omega (arith, some, next, up)) i && nat_le p more.last)
        ∙ sym ((λ i. run-before p run (omega (arith, up, next)) i || (le-is more.first p up i && nat_le p more.last)))

    by : (p ≡ more.first) ⊎ ((p < more.first) ⊎ (more.first < p)) → in_run p long ≡ (in_run p run || in_run p more)
    by (inl same) = upper (omega (arith, same))
    by (inr (inr up)) = upper (omega (arith, up))
    by (inr (inl less)) =
        ap (λ b. nat_le run.first p && b)
        (le-is p more.last (omega (arith, less, there)) ∙ sym (le-is p run.last (omega (arith, less, next))))
        ∙ sym (ap (λ b. in_run p run || b) (run-behind p more less) ∙ or-false (in_run p run))

-- these rise, and list a page besides
abbrev IsAdded : (page : ℕ) → (old new : List PageRun) → Type 0
IsAdded page old new = RunsRise new × ((p : ℕ) → lists new p ≡ (lists old p || (p == page)))

swap : (a b : Bool) → (a || b) ≡ (b || a)
swap true true = refl
swap true false = refl
swap false true = refl
swap false false = refl

or-over : (a b c : Bool) → (a || (b || c)) ≡ ((a || b) || c)
or-over true b c = refl
or-over false b c = refl

-- a page before others, which may begin right behind it
ended-added : (page last : ℕ) (behind rest : List PageRun) → RunsRise behind → BeginBehind page behind → page < 2 ^ 64 →
    EndsRun page behind last rest → IsAdded page behind (record { first = page; last = last } ∷ rest) × (page ≤ last)
ended-added page last behind rest rise begin fits (inl (run, whole, next, same)) =
    let here : RunsRise (run ∷ rest) = subst RunsRise whole rise in
    subst (λ (l : List PageRun). IsAdded page l (record { first = page; last = last } ∷ rest) × (page ≤ last))
    (sym whole)
    (subst (λ (n : ℕ). IsAdded page (run ∷ rest) (record { first = page; last = n } ∷ rest) × (page ≤ n)) (sym same)
    (((omega (arith, next, here.0), here.1, here.2, here.3), λ p. list p here), omega (arith, next, here.0)))
  where
    own : PageRun
    own = record { first = page; last = page }

    list : (p : ℕ) → RunsRise (run ∷ rest) →
        lists (record { first = page; last = run.last } ∷ rest) p ≡ (lists (run ∷ rest) p || (p == page))
    list p here =
        ap (λ b. b || lists rest p) (both-have own run p (omega arith) here.0 (sym next))
        ∙ ap (λ b. (b || in_run p run) || lists rest p) (own-page page p)
        ∙ sym (or-over (p == page) (in_run p run) (lists rest p)) ∙ swap (p == page) (in_run p run || lists rest p)
ended-added page last behind rest rise begin fits (inr (apart, same, is)) =
    subst (λ (l : List PageRun). IsAdded page behind (record { first = page; last = last } ∷ l) × (page ≤ last))
    (sym same)
    (subst (λ (n : ℕ). IsAdded page behind (record { first = page; last = n } ∷ behind) × (page ≤ n)) (sym is) (
      (
        (omega arith, fits, further behind rise begin apart, rise),
        λ p. ap (λ b. b || lists behind p) (own-page page p) ∙ swap (p == page) (lists behind p),
      ),
      omega arith,
    ))
  where
    further : (runs : List PageRun) → RunsRise runs → BeginBehind page runs →
        IfSome (slice_get runs 0) (λ run. run.first ≢ page + 1) → BeginBehind (page + 1) runs
    further [] rises begins other = tt
    further (run ∷ runs) rises begins other = (
      by (cases_order run.first (page + 1)),
      behind-less (run.last + 1) (page + 1) runs (omega (arith, begins.0, rises.0)) rises.2,
    )
      where
        by : (run.first ≡ page + 1) ⊎ ((run.first < page + 1) ⊎ (page + 1 < run.first)) → page + 1 < run.first
        by (inl same) = absurd (other same)
        by (inr (inl less)) = absurd (omega (arith, less, begins.0))
        by (inr (inr more)) = more

rise-front : (front rest : List PageRun) → RunsRise (front ++ rest) → RunsRise front
rise-front [] rest rise = tt
rise-front (run ∷ front) rest rise = (rise.0, rise.1, begin front rise.2, rise-front front rest rise.3)
  where
    begin : (others : List PageRun) → BeginBehind (run.last + 1) (others ++ rest) → BeginBehind (run.last + 1) others
    begin [] behind = tt
    begin (other ∷ others) behind = (behind.0, begin others behind.1)

-- where the last run does not end right before a page, all end further before it
abbrev EndFurther : (page : ℕ) → List PageRun → Type 0
EndFurther page runs = AllByRecursion (λ (run : PageRun). run.last + 1 < page) runs

further-before : (page : ℕ) (runs : List PageRun) → RunsRise runs → EndBefore page runs →
    IfSome (slice_get runs (length runs - 1)) (λ run. run.last + 1 ≢ page) → EndFurther page runs
further-before page [] rise ends apart = tt
further-before page (run ∷ []) rise ends apart = (by (cases_order (run.last + 1) page), tt)
  where
    by : (run.last + 1 ≡ page) ⊎ ((run.last + 1 < page) ⊎ (page < run.last + 1)) → run.last + 1 < page
    by (inl same) = absurd (apart same)
    by (inr (inl less)) = less
    by (inr (inr more)) = absurd (omega (arith, more, ends.0))
further-before page (run ∷ (next ∷ runs)) rise ends apart =
    (omega (arith, rise.2.0, rise.3.0, ends.1.0), further-before page (next ∷ runs) rise.3 ends.1 last)
  where
    n : ℕ
    n = length runs

    one : suc (suc n) - 1 ≡ suc n
    one = omega arith

    none : n ≡ suc n - 1
    none = omega arith

    behind : IfSome (slice_get (run ∷ (next ∷ runs)) (suc n)) (λ r. r.last + 1 ≢ page)
    behind = subst (λ k. IfSome (slice_get (run ∷ (next ∷ runs)) k) (λ r. r.last + 1 ≢ page)) one apart

    last : IfSome (slice_get (next ∷ runs) (suc n - 1)) (λ r. r.last + 1 ≢ page)
    last = subst (λ k. IfSome (slice_get (next ∷ runs) k) (λ r. r.last + 1 ≢ page)) none behind

-- a run of a page and what is behind it, behind those that end before it
module _ (page : ℕ) (front behind rest : List PageRun) (own : PageRun) (first : own.first ≡ page)
    (some : page ≤ own.last)
    (rise : RunsRise (front ++ behind)) (ends : EndBefore page front) (added : IsAdded page behind (own ∷ rest)) where
  own-added : EndFurther page front → IsAdded page (front ++ behind) (front ++ own ∷ rest)
  own-added further = (
    rise-in (λ (run : PageRun). run.last + 1 < page) front behind (own ∷ rest) further
        (λ run less begin. (
          omega (arith, less, first),
          behind-less (own.last + 1) (run.last + 1) rest (omega (arith, less, some)) added.0.2,
        )) added.0 rise,
    λ p. listed-more front behind (own ∷ rest) page p (added.1 p),
  )

longer-added : (page : ℕ) (front behind rest : List PageRun) (run own : PageRun) → own.first ≡ page → page ≤ own.last
    → RunsRise (front ++ run ∷ behind) → run.last + 1 ≡ page → IsAdded page behind (own ∷ rest)
    → IsAdded page (front ++ run ∷ behind) (front ++ record { first = run.first; last = own.last } ∷ rest)
longer-added page front behind rest run own first some rise next added = (
  rise-in (λ (run : PageRun). Unit {0}) front (run ∷ behind) (long ∷ rest) (any-front front)
      (λ x none begin. (
        begin.0,
        behind-less (own.last + 1) (x.last + 1) rest
            (omega (arith, begin.0, here.0, next, some)) added.0.2,
      ))
      (omega (arith, here.0, next, some), added.0.1, added.0.2, added.0.3) rise,
  λ p. listed-more front (run ∷ behind) (long ∷ rest) page p
      (ap (λ b. b || lists rest p) (both-have run own p here.0 (omega (arith, first, some)) (next ∙ sym first))
      ∙ sym (or-over (in_run p run) (in_run p own) (lists rest p)) ∙ ap (λ b. in_run p run || b) (added.1 p)
      ∙ or-over (in_run p run) (lists behind p) (p == page)),
)
  where
    long : PageRun
    long = record { first = run.first; last = own.last }

    here : RunsRise (run ∷ behind)
    here = rise-behind front (run ∷ behind) rise

-- a page more: it comes behind the runs that end before it
pub page-added : (page place last : ℕ) (runs new rest : List PageRun) → RunsRise runs → EndBefore page (take place runs)
    → Reach page (drop place runs) → lists runs page ≡ false → page < 2 ^ 64 → EndsRun page (drop place runs) last rest
    → IsWithRun (record { first = page; last = last }) (take place runs) new
    → RunsRise (new ++ rest) × ((p : ℕ) → lists (new ++ rest) p ≡ (lists runs p || (p == page)))
page-added page place last runs new rest rise ends reach out fits end come = by come
  where
    front : List PageRun
    front = take place runs

    behind : List PageRun
    behind = drop place runs

    own : PageRun
    own = record { first = page; last = last }

    whole : front ++ behind ≡ runs
    whole = take-append-drop place runs

    rising : RunsRise (front ++ behind)
    rising = subst RunsRise (sym whole) rise

    added : IsAdded page behind (own ∷ rest) × (page ≤ last)
    added = ended-added page last behind rest (rise-behind front behind rising)
        (not-listed page behind (rise-behind front behind rising) reach
        (or_parts (lists front page) (lists behind page) (sym (lists-parts place page runs) ∙ out)).1) fits end

    by : IsWithRun own front new → IsAdded page runs (new ++ rest)
    by (inr (apart, is)) =
        subst (λ old. IsAdded page old (new ++ rest)) whole (subst (λ l. IsAdded page (front ++ behind) l)
        (sym (ap (λ l. l ++ rest) is ∙ append_assoc front (own ∷ []) rest))
        (own-added page front behind rest own refl added.1 rising ends added.0
        (further-before page front (rise-front front behind rising) ends apart)))
    by (inl it) =
        let run = it.1 in
        let split : front ++ behind ≡ it.0 ++ run ∷ behind =
        ap (λ l. l ++ behind) it.2 ∙ append_assoc it.0 (run ∷ []) behind in
        subst (λ old. IsAdded page old (new ++ rest)) (sym split ∙ whole)
        (subst (λ l. IsAdded page (it.0 ++ run ∷ behind) l)
        (sym (ap (λ l. l ++ rest) it.4 ∙ append_assoc it.0 (record { first = run.first; last = last } ∷ []) rest))
        (longer-added page it.0 behind rest run own refl added.1 (subst RunsRise split rising) it.3 added.0))

-- a page less: of its run the pages before it and behind it are left
module _ (page : ℕ) (run : PageRun) (others : List PageRun) (rise : RunsRise (run ∷ others)) (from : run.first ≤ page)
    (to : page ≤ run.last) where
  abbrev low : PageRun
  low = record { first = run.first; last = page - 1 }

  abbrev high : PageRun
  high = record { first = page + 1; last = run.last }

  abbrev rests : (a b : Bool) → List PageRun
  rests a b = cond a (low ∷ []) [] ++ cond b (high ∷ []) []

  rest-rises : (a b : Bool) → nat_lt run.first page ≡ a → nat_lt page run.last ≡ b → RunsRise (rests a b ++ others)
  rest-rises true true x y =
      let less = ltb-true run.first page x in
      let more = ltb-true page run.last y in (
        omega (arith, less),
        omega (arith, to, rise.1),
        (omega (arith, less), behind-less (run.last + 1) (page - 1 + 1) others (omega (arith, to, less)) rise.2),
        (omega (arith, more), rise.1, rise.2, rise.3),
      )
  rest-rises true false x y =
      let less = ltb-true run.first page x in (
        omega (arith, less),
        omega (arith, to, rise.1),
        behind-less (run.last + 1) (page - 1 + 1) others (omega (arith, to, less)) rise.2,
        rise.3,
      )
  rest-rises false true x y = (omega (arith, ltb-true page run.last y), rise.1, rise.2, rise.3)
  rest-rises false false x y = rise.3

  rest-begins : (at : ℕ) (a b : Bool) → BeginBehind at (run ∷ others) → BeginBehind at (rests a b ++ others)
  rest-begins at true true begin = (begin.0, (omega (arith, begin.0, from), begin.1))
  rest-begins at true false begin = (begin.0, begin.1)
  rest-begins at false true begin = (omega (arith, begin.0, from), begin.1)
  rest-begins at false false begin = begin.1

  -- of the pages before, and of those behind
  low-has : (p : ℕ) (a : Bool) → nat_lt run.first page ≡ a → p < page → lists (cond a (low ∷ []) []) p ≡ in_run p run
  low-has p true x less =
      let up = ltb-true run.first page x in
      or-false (in_run p low) ∙ ap (λ b. nat_le run.first p && b)
      (le-is p (page - 1) (omega (arith, less, up)) ∙ sym (le-is p run.last (omega (arith, less, to))))
  low-has p false x less = sym (run-behind p run (omega (arith, less, ltb-false run.first page x)))

  low-lacks : (p : ℕ) (a : Bool) → nat_lt run.first page ≡ a → page ≤ p → lists (cond a (low ∷ []) []) p ≡ false
  low-lacks p true x more =
      or_from (in_run p low) false (run-before p low (omega (arith, more, ltb-true run.first page x))) refl
  low-lacks p false x more = refl

  high-has : (p : ℕ) (b : Bool) → nat_lt page run.last ≡ b → page < p → lists (cond b (high ∷ []) []) p ≡ in_run p run
  high-has p true y more =
      or-false (in_run p high) ∙ ap (λ b. b && nat_le p run.last)
      (le-is (page + 1) p (omega (arith, more)) ∙ sym (le-is run.first p (omega (arith, more, from))))
  high-has p false y more = sym (run-before p run (omega (arith, more, ltb-false page run.last y)))

  high-lacks : (p : ℕ) (b : Bool) → p ≤ page → lists (cond b (high ∷ []) []) p ≡ false
  high-lacks p true less = or_from (in_run p high) false (run-behind p high (omega (arith, less))) refl
  high-lacks p false less = refl

  rest-listed : (p : ℕ) (a b : Bool) → nat_lt run.first page ≡ a → nat_lt page run.last ≡ b →
      lists (rests a b ++ others) p ≡ (lists (run ∷ others) p && not (p == page))
  rest-listed p a b x y =
      lists-append (rests a b) others p
      ∙ ap (λ t. t || lists others p) (lists-append (cond a (low ∷ []) []) (cond b (high ∷ []) []) p)
      ∙ by (cases_order p page)
    where
      lows : Bool
      lows = lists (cond a (low ∷ []) []) p

      highs : Bool
      highs = lists (cond b (high ∷ []) []) p

      same-both : (s t u : Bool) → s ≡ u → t ≡ false → ((s || t) || lists others p) ≡ (u || lists others p)
      same-both s t u e f = ap (λ v. (v || t) || lists others p) e ∙ ap (λ v. (u || v) || lists others p) f
          ∙ ap (λ v. v || lists others p) (or-false u)

      kept : (p == page) ≡ false
          → (in_run p run || lists others p) ≡ ((in_run p run || lists others p) && not (p == page))
      kept apart = sym (ap (λ v. (in_run p run || lists others p) && not v) apart
          ∙ elim (in_run p run || lists others p) as (λ v. (v && true) ≡ v) [ true ↦ refl | false ↦ refl ])

      by : (p ≡ page) ⊎ ((p < page) ⊎ (page < p)) →
          ((lows || highs) || lists others p) ≡ ((in_run p run || lists others p) && not (p == page))
      by (inl same) =
          or_from (lows || highs) (lists others p) (or_from lows highs (low-lacks p a x (omega (arith, same)))
          (high-lacks p b (omega (arith, same)))) (none-behind p (run.last + 1) others rise.2 (omega (arith, same, to)))
          ∙ sym (and_right (in_run p run || lists others p) (not (p == page)) (ap not (eq-eqb p page same)))
      by (inr (inl less)) =
          same-both lows highs (in_run p run) (low-has p a x less) (high-lacks p b (omega (arith, less)))
          ∙ kept (ne_eqb p page (λ same. omega (arith, less, same)))
      by (inr (inr more)) =
          ap (λ v. (v || highs) || lists others p) (low-lacks p a x (omega (arith, more)))
          ∙ ap (λ v. v || lists others p) (high-has p b y more)
          ∙ kept (ne_eqb p page (λ same. omega (arith, more, same)))

pub page-taken : (page : ℕ) (front others : List PageRun) (run : PageRun) → RunsRise (front ++ run ∷ others)
    → EndBefore page front → run.first ≤ page → page ≤ run.last
    → RunsRise ((front ++ rest_of page run) ++ others) × ((p : ℕ) →
    lists ((front ++ rest_of page run) ++ others) p ≡ (lists (front ++ run ∷ others) p && not (p == page)))
page-taken page front others run rise ends from to =
    subst (λ l. RunsRise l × ((p : ℕ) → lists l p ≡ (lists (front ++ run ∷ others) p && not (p == page))))
    (sym (append_assoc front (rest_of page run) others)) (
      rise-in (λ (run : PageRun). Unit {0}) front (run ∷ others) left (any-front front)
          (λ x none begin. rest-begins page run others here from to (x.last + 1) a b begin)
          (rest-rises page run others here from to a b refl refl) rise,
      λ p. listed-less front (run ∷ others) left page p ends (rest-listed page run others here from to p a b refl refl),
    )
  where
    a : Bool
    a = nat_lt run.first page

    b : Bool
    b = nat_lt page run.last

    left : List PageRun
    left = rest_of page run ++ others

    here : RunsRise (run ∷ others)
    here = rise-behind front (run ∷ others) rise

-- no page is greater than those that a number of 64 bits tells
pub none-past : (runs : List PageRun) (page : ℕ) → RunsRise runs → 2 ^ 64 ≤ page → lists runs page ≡ false
none-past [] page rise past = refl
none-past (run ∷ runs) page rise past =
    or_from (in_run page run) (lists runs page) (run-before page run (omega (arith, past, rise.1)))
    (none-past runs page rise.3 past)

-- a page that is not listed is not there, so without it they are the same
pub not-there : (page : ℕ) (runs : List PageRun) → lists runs page ≡ false → (p : ℕ) →
    lists runs p ≡ (lists runs p && not (p == page))
not-there page runs out p = by (cases_order p page)
  where
    stays : (p == page) ≡ false → lists runs p ≡ (lists runs p && not (p == page))
    stays apart = sym (ap (λ b. lists runs p && not b) apart
        ∙ elim (lists runs p) as (λ b. (b && true) ≡ b) [ true ↦ refl | false ↦ refl ])

    by : (p ≡ page) ⊎ ((p < page) ⊎ (page < p)) → lists runs p ≡ (lists runs p && not (p == page))
    by (inl same) =
        let none : lists runs p ≡ false = ap (lists runs) same ∙ out in
        none ∙ sym (ap (λ b. b && not (p == page)) none)
    by (inr (inl less)) = stays (ne_eqb p page (λ same. omega (arith, less, same)))
    by (inr (inr more)) = stays (ne_eqb p page (λ same. omega (arith, more, same)))

module _ (page place : ℕ) (runs : List PageRun) (run : PageRun) (rise : RunsRise runs) (within : place < length runs)
    (is : run ≡ get_or runs place run) (ends : EndBefore page (take place runs))
    (reach : Reach page (drop place runs)) where
  rest-is : drop place runs ≡ run ∷ drop (suc place) runs
  rest-is = drop-cons runs place run within ∙ ap (λ (r : PageRun). r ∷ drop (suc place) runs) (sym is)

  pub run-reaches : page ≤ run.last
  run-reaches = (subst (Reach page) rest-is reach).0

  -- a page before its run is not there
  pub before-run : page < run.first → lists runs page ≡ false
  before-run less =
      let at = next-in runs page place ends run (max run.first page) rise within is reach refl in
      at.2 page (omega arith) (omega (arith, less, (greatest run.first page).0))

  split-is : runs ≡ take place runs ++ run ∷ drop (suc place) runs
  split-is = sym (take-append-drop place runs) ∙ ap (λ l. take place runs ++ l) rest-is

  -- without the page are those in front of its run, what is left of that, and those behind it
  pub page-left : run.first ≤ page →
      RunsRise ((take place runs ++ rest_of page run) ++ drop (place + 1) runs) × ((p : ℕ) →
      lists ((take place runs ++ rest_of page run) ++ drop (place + 1) runs) p ≡ (lists runs p && not (p == page)))
  page-left from =
      let taken = page-taken page (take place runs) (drop (suc place) runs) run (subst RunsRise split-is rise) ends from
      run-reaches in
      let same : suc place ≡ place + 1 = omega arith in
      let next : drop (suc place) runs ≡ drop (place + 1) runs = ap (λ n. drop n runs) same in
      subst (λ l. RunsRise ((take place runs ++ rest_of page run) ++ l) × ((p : ℕ) →
      lists ((take place runs ++ rest_of page run) ++ l) p ≡ (lists runs p && not (p == page)))) next
      (taken.0, λ p. taken.1 p ∙ ap (λ l. lists l p && not (p == page)) (sym split-is))

-- runs that rise list a page, if there is any
pub some-page : (runs : List PageRun) (empty : Bool) → RunsRise runs → empty ≡ (length runs == 0)
    → TellsEmpty runs empty
some-page [] true rise is = λ page. refl
some-page [] false rise is = cc
some-page (run ∷ runs) true rise is = absurd (omega (arith, eqb-true (length (run ∷ runs)) 0 (sym is)))
some-page (run ∷ runs) false rise is =
    (run.first, ap (λ b. b || lists runs run.first) (run-has run.first run (omega arith) rise.0))
