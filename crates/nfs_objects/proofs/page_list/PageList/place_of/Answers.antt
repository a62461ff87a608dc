use Rattle.std.proofs.Common.{drop, ltb, rules, subst, sym, take}
use Rattle.std.proofs.lemmas.Fn.{always_returns_same}
use Rattle.std.proofs.lemmas.List.Sorted.{IsPartitionedBy-ltb}
use Rattle.nfs_objects.proofs.PageRunLemmas.{EndBefore, Reach, ends-rise, fronts-end, others-reach}
use Rattle.nfs_objects.proofs.page_list.PageList.place_of.Goals as goal
use Rattle.nfs_objects.specs.PageRuns.{RunsRise}
use Rattle.nfs_objects.specs.declared.page_list.PageRun.{PageRun}

pub returns-clause-before : goal.returns-clause-before
returns-clause-before c =
    let runs = c.runs.result.now in
    let point = c.partition_point.ensures.partitioned (λ (run : PageRun). ltb run.last c.args.page)
    (always_returns_same _ _ _ (λ a r q k. search rules))
    (IsPartitionedBy-ltb (λ (run : PageRun). run.last) runs c.args.page
    (ends-rise runs (subst RunsRise (sym c.runs.ensures.value) c.runs.ensures.rise))) in
    subst (λ l. EndBefore c.args.page (take c.partition_point.result l)) c.runs.ensures.value
    (fronts-end c.args.page runs c.partition_point.result point.0)

pub returns-clause-behind : goal.returns-clause-behind
returns-clause-behind c =
    let runs = c.runs.result.now in
    let point = c.partition_point.ensures.partitioned (λ (run : PageRun). ltb run.last c.args.page)
    (always_returns_same _ _ _ (λ a r q k. search rules))
    (IsPartitionedBy-ltb (λ (run : PageRun). run.last) runs c.args.page
    (ends-rise runs (subst RunsRise (sym c.runs.ensures.value) c.runs.ensures.rise))) in
    subst (λ l. Reach c.args.page (drop c.partition_point.result l)) c.runs.ensures.value
    (others-reach c.args.page runs c.partition_point.result point.1)
