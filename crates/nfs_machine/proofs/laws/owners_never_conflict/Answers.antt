use Rattle.nfs_machine.proofs.StepKeepsLemmas.{chains_keep_apart, steps_keep_apart}
use Rattle.nfs_machine.proofs.OpeningStateLemmas.{nothing_conflicts}
use Rattle.nfs_machine.proofs.laws.owners_never_conflict.Goals as goal

pub returns-clause-steps : goal.returns-clause-steps
returns-clause-steps c = steps_keep_apart

pub returns-clause-chains : goal.returns-clause-chains
returns-clause-chains c = chains_keep_apart

pub returns-clause-opening : goal.returns-clause-opening
returns-clause-opening c = nothing_conflicts
