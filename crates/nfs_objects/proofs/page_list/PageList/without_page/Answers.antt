use Rattle.std.proofs.Common.{◌≡◌, ◌∙◌, ◌==◌, ◌&&◌, ◌+◌, ◌++◌, ◌<◌, ◌≤◌, ℕ, Err, IfOk, MatchResult, Ok, Result, ap}
use Rattle.std.proofs.Common.{arith, drop, false, get_or, length, not, subst, sym, take}
use Rattle.std.proofs.lemmas.Grind.{common_steps}
use Rattle.nfs_objects.proofs.PageRunLemmas.{before-run, no-next, not-there, page-left, run-has, run-reaches}
use Rattle.nfs_objects.proofs.page_list.PageList.without_page.Goals as goal
use Rattle.nfs_objects.specs.PageRuns.{RunsRise, lists, rest_of}

pub push_rest-requires : goal.push_rest-requires
push_rest-requires c =
    let run = c.in-Some.run'.now in
    let found = c.in-Some.ensures.lookup.3 in
    let within = subst (λ l. c.place_of-place.result < length l) c.runs-old.ensures.value found.0 in
    let is = subst (λ l. run ≡ get_or l c.place_of-place.result run) c.runs-old.ensures.value (found.1 run) in
    run-has c.args.page run c.if-page-run.false (run-reaches c.args.page c.place_of-place.result c.args.self.now run
    c.runs-old.ensures.rise within is c.place_of-place.ensures.before c.place_of-place.ensures.behind)

pub invariant_of-result : goal.invariant_of-result
invariant_of-result c =
    let place = c.place_of-place.result in
    let run = c.in-Some.run'.now in
    let found = c.in-Some.ensures.lookup.3 in
    let within = subst (λ l. place < length l) c.runs-old.ensures.value found.0 in
    let is = subst (λ l. run ≡ get_or l place run) c.runs-old.ensures.value (found.1 run) in
    let whole : c.in_ok-new.field-0.value.items ≡ (take place c.args.self.now ++ rest_of c.args.page run) ++ drop
    (place + 1) c.args.self.now =
    grind (arith, common_steps) in
    subst RunsRise (sym whole) (page-left c.args.page place c.args.self.now run c.runs-old.ensures.rise within is
    c.place_of-place.ensures.before c.place_of-place.ensures.behind c.if-page-run.false).0

pub returns : goal.returns
returns c =
    let place = c.place_of-place.result in
    let run = c.in-Some.run'.now in
    let found = c.in-Some.ensures.lookup.3 in
    let within = subst (λ l. place < length l) c.runs-old.ensures.value found.0 in
    let is = subst (λ l. run ≡ get_or l place run) c.runs-old.ensures.value (found.1 run) in
    let whole : c.in_ok-new.field-0.value.items ≡ (take place c.args.self.now ++ rest_of c.args.page run) ++ drop
    (place + 1) c.args.self.now =
    grind (arith, common_steps) in
    subst (λ l. (p : ℕ) → lists l p ≡ (lists c.args.self.now p && not (p == c.args.page))) (sym whole)
    (page-left c.args.page place c.args.self.now run c.runs-old.ensures.rise within is
    c.place_of-place.ensures.before c.place_of-place.ensures.behind c.if-page-run.false).1

told : {X E : Type 0} (r : Result X E) (P Q : X → Type 0) (S : E → Type 0) → ((x : X) → P x → Q x) → MatchResult r P S →
    IfOk r Q
told (Ok x) P Q S f is = f x is
told (Err e) P Q S f is = tt

-- a copy, where the page is not there
pub returns-in_default : goal.returns-in_default
returns-in_default c =
    let page = c.args.page in
    let out : lists c.args.self.now page ≡ false =
    no-next c.args.self.now page c.place_of-place.result c.place_of-place.ensures.before
    (subst (λ l. length l ≤ c.place_of-place.result) c.runs-old.ensures.value c.in_default.ensures.lookup.3)
    page (omega arith) in
    told c.clone.result _ (λ pages. (p : ℕ) → lists pages p ≡ (lists c.args.self.now p && not (p == page))) _
    (λ pages same p. ap (λ l. lists l p) same ∙ not-there page c.args.self.now out p) c.clone.ensures.cases

pub returns-then-page-run : goal.returns-then-page-run
returns-then-page-run c =
    let page = c.args.page in
    let place = c.place_of-place.result in
    let run = c.in-Some.run'.now in
    let found = c.in-Some.ensures.lookup.3 in
    let within = subst (λ l. place < length l) c.runs-old.ensures.value found.0 in
    let is = subst (λ l. run ≡ get_or l place run) c.runs-old.ensures.value (found.1 run) in
    let out : lists c.args.self.now page ≡ false =
    before-run page place c.args.self.now run c.runs-old.ensures.rise within is c.place_of-place.ensures.before
    c.place_of-place.ensures.behind c.if-page-run.true in
    told c.clone-then-page-run.result _
    (λ pages. (p : ℕ) → lists pages p ≡ (lists c.args.self.now p && not (p == page))) _
    (λ pages same p. ap (λ l. lists l p) same ∙ not-there page c.args.self.now out p)
    c.clone-then-page-run.ensures.cases
