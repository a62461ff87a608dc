use Rattle.nfs_machine.proofs.StepKeepsLemmas.{chains_keep_form, steps_keep_form}
use Rattle.nfs_machine.proofs.OpeningStateLemmas.{opening_formed}
use Rattle.nfs_machine.proofs.laws.states_stay_well_formed.Goals as goal

pub returns-clause-steps : goal.returns-clause-steps
returns-clause-steps c = steps_keep_form

pub returns-clause-chains : goal.returns-clause-chains
returns-clause-chains c = chains_keep_form

pub returns-clause-opening : goal.returns-clause-opening
returns-clause-opening c = opening_formed
