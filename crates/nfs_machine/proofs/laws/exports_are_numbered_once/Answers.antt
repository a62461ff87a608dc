use Rattle.nfs_machine.proofs.StepKeepsLemmas.{chains_number_once, gone_is_stale, steps_keep_within, steps_number_once}
use Rattle.nfs_machine.proofs.laws.exports_are_numbered_once.Goals as goal

pub returns-clause-steps : goal.returns-clause-steps
returns-clause-steps c = steps_number_once

pub returns-clause-chains : goal.returns-clause-chains
returns-clause-chains c = chains_number_once

pub returns-clause-gone : goal.returns-clause-gone
returns-clause-gone c = gone_is_stale

pub returns-clause-within : goal.returns-clause-within
returns-clause-within c = steps_keep_within
