use Rattle.std.proofs.Common.{rules}
use Rattle.nfs_machine.specs.SameExports.{export_told}
use Rattle.nfs_machine.proofs.exports.ExportPartialEq.eq.Goals as goal

pub returns-then-self-other-clause-same : goal.returns-then-self-other-clause-same
returns-then-self-other-clause-same c = export_told _ _ _ (search rules)
