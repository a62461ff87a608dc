use Rattle.std.proofs.Common.{◌≡◌, ◌==◌, ◌||◌, ◌++◌, ℕ, arith, drop, false, rules, subst, sym, take}
use Rattle.std.proofs.lemmas.Grind.{common_steps}
use Rattle.nfs_objects.proofs.PageRunLemmas.{page-added}
use Rattle.nfs_objects.proofs.page_list.PageList.with_page.Goals as goal
use Rattle.nfs_objects.specs.PageRuns.{EndsRun, IsWithRun, RunsRise, lists}

pub invariant_of-result : goal.invariant_of-result
invariant_of-result c =
    let place = c.place_of-place.result in
    let new = c.push_run.new.runs.items in
    let front : c.extend_from_slice.new.self.items ≡ take place c.args.self.now = grind (arith, common_steps) in
    let whole : c.in_ok-new.field-0.value.items ≡ new ++ drop c.run_from-last.result.1 c.args.self.now =
    grind (arith, common_steps) in
    let come = subst (λ l. IsWithRun (record { first = c.args.page; last = c.run_from-last.result.0 }) l new) front
    c.in_ok-push_run.ensures in
    let out : lists c.args.self.now c.args.page ≡ false = search rules in
    subst RunsRise (sym whole) (page-added c.args.page place c.run_from-last.result.0 c.args.self.now new
    (drop c.run_from-last.result.1 c.args.self.now) c.runs-old.ensures.rise
    c.place_of-place.ensures.before c.place_of-place.ensures.behind out (omega (arith, c.ranges.page.fits))
    (subst (λ l. EndsRun c.args.page (drop place l) c.run_from-last.result.0 (drop c.run_from-last.result.1 l))
    c.runs-old.ensures.value c.run_from-last.ensures.ends) come).0

pub returns : goal.returns
returns c =
    let place = c.place_of-place.result in
    let new = c.push_run.new.runs.items in
    let front : c.extend_from_slice.new.self.items ≡ take place c.args.self.now = grind (arith, common_steps) in
    let whole : c.in_ok-new.field-0.value.items ≡ new ++ drop c.run_from-last.result.1 c.args.self.now =
    grind (arith, common_steps) in
    let come = subst (λ l. IsWithRun (record { first = c.args.page; last = c.run_from-last.result.0 }) l new) front
    c.in_ok-push_run.ensures in
    let out : lists c.args.self.now c.args.page ≡ false = search rules in
    subst (λ l. (p : ℕ) → lists l p ≡ (lists c.args.self.now p || (p == c.args.page))) (sym whole)
    (page-added c.args.page place c.run_from-last.result.0 c.args.self.now new
    (drop c.run_from-last.result.1 c.args.self.now) c.runs-old.ensures.rise
    c.place_of-place.ensures.before c.place_of-place.ensures.behind out (omega (arith, c.ranges.page.fits))
    (subst (λ l. EndsRun c.args.page (drop place l) c.run_from-last.result.0 (drop c.run_from-last.result.1 l))
    c.runs-old.ensures.value c.run_from-last.ensures.ends) come).1
