use Rattle.std.proofs.Common.{rules}
use Rattle.nfs_objects.specs.SameLaws.{living_decides, told_so}
use Rattle.nfs_objects.proofs.exports.LivingExportPartialEq.eq.Goals as goal

pub returns-then-self-other-3-clause-same : goal.returns-then-self-other-3-clause-same
returns-then-self-other-3-clause-same c = told_so living_decides _ _ _ (search rules)
