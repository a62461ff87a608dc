use Rattle.std.proofs.Common.{rules}
use Rattle.nfs_objects.specs.SameLaws.{mounts_decide, told_so}
use Rattle.nfs_objects.proofs.mounts.MountTablePartialEq.eq.Goals as goal

pub returns-clause-same : goal.returns-clause-same
returns-clause-same c = told_so mounts_decide _ _ _ (search rules)
