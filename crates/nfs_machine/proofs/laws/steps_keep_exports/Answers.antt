use Rattle.nfs_machine.proofs.StepKeepsLemmas.{steps_keep_exports}
use Rattle.nfs_machine.proofs.laws.steps_keep_exports.Goals as goal

pub returns : goal.returns
returns c = steps_keep_exports
