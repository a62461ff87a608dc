use Rattle.std.proofs.Common.{rules}
use Rattle.nfs_objects.specs.SameLaws.{runs_decide, told_so}
use Rattle.nfs_objects.proofs.page_list.PageListPartialEq.eq.Goals as goal

pub returns-clause-same : goal.returns-clause-same
returns-clause-same c = told_so runs_decide _ _ _ (search rules)
