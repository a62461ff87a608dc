use Rattle.std.proofs.Common.{arith, suc, subst, sym}
use Rattle.nfs_objects.proofs.PageRunLemmas.{none-past}
use Rattle.nfs_objects.proofs.page_list.PageList.next_behind.Goals as goal
use Rattle.nfs_objects.specs.PageRuns.{IsNextPage, RunsRise}

pub returns-in_err-checked_add : goal.returns-in_err-checked_add
returns-in_err-checked_add c =
    subst (λ r. IsNextPage c.args.self.now (suc c.args.page) r) (sym c.from_residual.ensures)
    (λ page from. none-past c.args.self.now page (subst RunsRise c.self.view_is c.self.invariant)
    (omega (arith, from, c.in_err-checked_add.ensures)))
