use Rattle.std.proofs.Common.{◌≡◌, ◌<◌, ◌≤◌, get_or, length, subst, sym}
use Rattle.nfs_objects.proofs.PageRunLemmas.{next-in, no-next}
use Rattle.nfs_objects.proofs.page_list.PageList.next_from.Goals as goal
use Rattle.nfs_objects.specs.PageRuns.{IsNextPage}

pub returns-in_err-run : goal.returns-in_err-run
returns-in_err-run c =
    subst (λ r. IsNextPage c.args.self.now c.args.page r) (sym c.from_residual.ensures)
    (no-next c.args.self.now c.args.page c.place_of.result c.place_of.ensures.before
    (subst (λ l. length l ≤ c.place_of.result) c.runs.ensures.value c.in_err-run.ensures.lookup.3))

pub returns : goal.returns
returns c =
    let run = c.in_ok-run.run'.now in
    let found = c.in_ok-run.ensures.lookup.3 in
    next-in c.args.self.now c.args.page c.place_of.result c.place_of.ensures.before run c.max.result
    c.runs.ensures.rise
    (subst (λ l. c.place_of.result < length l) c.runs.ensures.value found.0)
    (subst (λ l. run ≡ get_or l c.place_of.result run) c.runs.ensures.value (found.1 run))
    c.place_of.ensures.behind c.max.ensures
