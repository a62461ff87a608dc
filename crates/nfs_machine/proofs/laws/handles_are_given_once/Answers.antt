use Rattle.nfs_machine.proofs.StepKeepsLemmas.{never_given_again, steps_give_once}
use Rattle.nfs_machine.proofs.laws.handles_are_given_once.Goals as goal

pub returns-clause-steps : goal.returns-clause-steps
returns-clause-steps c = steps_give_once

pub returns-clause-chains : goal.returns-clause-chains
returns-clause-chains c = never_given_again
