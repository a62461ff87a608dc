-- Which pages of a directory are there, as runs of pages that follow each other.
use Rattle.std.specs.Prelude.{◌≡◌, ◌≢◌, ◌⊎◌, ◌<◌, ◌≤◌, ◌+◌, ◌-◌, ◌^◌, ◌&&◌, ℕ, Bool, IfSome}
use Rattle.std.specs.Prelude.{true, false, List, [], ◌∷◌, ◌++◌, length, slice_get}
use Rattle.std.specs.Prelude.{Option, Some, None, if◌then◌else◌, nat_le, nat_lt}
use Rattle.std.specs.List.{AllByRecursion, list_any}
use Rattle.nfs_objects.specs.declared.page_list.PageRun.{PageRun}

-- whether a page is listed: it is in one of the runs
abbrev pub in_run : (page : ℕ) → PageRun → Bool
in_run page run = nat_le run.first page && nat_le page run.last

abbrev pub lists : List PageRun → (page : ℕ) → Bool
lists runs page = list_any (in_run page) runs

-- this is the first page from one on that is listed; without such a page, None
abbrev pub IsNextPage : List PageRun → (from : ℕ) → Option ℕ → Type 0
IsNextPage runs from None = (page : ℕ) → from ≤ page → lists runs page ≡ false
IsNextPage runs from (Some next) = (from ≤ next) × (lists runs next ≡ true) ×
    ((page : ℕ) → from ≤ page → page < next → lists runs page ≡ false)

-- whether no page is listed at all
abbrev pub TellsEmpty : List PageRun → (empty : Bool) → Type 0
TellsEmpty runs true = (page : ℕ) → lists runs page ≡ false
TellsEmpty runs false = (page : ℕ) × (lists runs page ≡ true)

-- runs rise, with a page between them that is not listed, and none is empty
abbrev pub RunsRise : List PageRun → Type 0
RunsRise [] = Unit {0}
RunsRise (run ∷ runs) = (run.first ≤ run.last) × (run.last < 2 ^ 64) ×
    AllByRecursion (λ (behind : PageRun). run.last + 1 < behind.first) runs × RunsRise runs

-- The runs that a page and all behind it make: the first one begins right behind the page, and its end is told with
-- those behind it; or it does not, and the page ends its run.
abbrev pub EndsRun : (page : ℕ) → (behind : List PageRun) → (last : ℕ) → (rest : List PageRun) → Type 0
EndsRun page behind last rest =
    ((run : PageRun) × (behind ≡ run ∷ rest) × (run.first ≡ page + 1) × (last ≡ run.last)) ⊎
    (IfSome (slice_get behind 0) (λ run. run.first ≢ page + 1) × (rest ≡ behind) × (last ≡ page))

-- the runs with one behind them: the last one ends right before it and goes on with it, or it is a run of its own
abbrev pub IsWithRun : PageRun → (old new : List PageRun) → Type 0
IsWithRun more old new =
    ((front : List PageRun) × (run : PageRun) × (old ≡ front ++ run ∷ []) × (run.last + 1 ≡ more.first) ×
    (new ≡ front ++ record { first = run.first; last = more.last } ∷ [])) ⊎
    (IfSome (slice_get old (length old - 1)) (λ run. run.last + 1 ≢ more.first) × (new ≡ old ++ more ∷ []))

-- what is left of a run without a page of it
abbrev pub rest_of : (page : ℕ) → PageRun → List PageRun
rest_of page run =
    (if nat_lt run.first page then record { first = run.first; last = page - 1 } ∷ [] else []) ++
    (if nat_lt page run.last then record { first = page + 1; last = run.last } ∷ [] else [])
