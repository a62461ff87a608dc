use Rattle.std.proofs.Common.{rules}
use Rattle.nfs_objects.specs.SameLaws.{held_decides, same_as}
use Rattle.nfs_objects.proofs.view.EntryPartialEq.eq.Goals as goal

pub returns-then-eq-clause-same : goal.returns-then-eq-clause-same
returns-then-eq-clause-same c = same_as (held_decides _ _) (search rules)
