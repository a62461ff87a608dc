use Rattle.std.proofs.Common.{rules}
use Rattle.nfs_objects.specs.SameLaws.{exports_decide, told_so}
use Rattle.nfs_objects.proofs.exports.ExportTablePartialEq.eq.Goals as goal

pub returns-then-self-other-clause-same : goal.returns-then-self-other-clause-same
returns-then-self-other-clause-same c = told_so exports_decide _ _ _ (search rules)
