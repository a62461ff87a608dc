use Rattle.std.proofs.Common.{rules}
use Rattle.nfs_objects.specs.SameLaws.{told_so, view_decides}
use Rattle.nfs_objects.proofs.view.ViewPartialEq.eq.Goals as goal

pub returns-then-eq-clause-same : goal.returns-then-eq-clause-same
returns-then-eq-clause-same c = told_so view_decides _ _ _ (search rules)

pub returns-else-eq-clause-same : goal.returns-else-eq-clause-same
returns-else-eq-clause-same c = told_so view_decides _ _ _ (search rules)
