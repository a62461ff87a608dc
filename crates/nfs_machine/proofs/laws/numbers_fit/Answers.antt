use Rattle.nfs_machine.proofs.HandleFitsLemmas.{opening_numbers_fit, chains_keep_numbers, steps_keep_numbers}
use Rattle.nfs_machine.proofs.laws.numbers_fit.Goals as goal

pub returns-clause-opening : goal.returns-clause-opening
returns-clause-opening c = opening_numbers_fit

pub returns-clause-steps : goal.returns-clause-steps
returns-clause-steps c = steps_keep_numbers

pub returns-clause-chains : goal.returns-clause-chains
returns-clause-chains c = chains_keep_numbers
