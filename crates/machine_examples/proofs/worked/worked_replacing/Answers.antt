use Rattle.machine_examples.proofs.ReplacingWorked.{worked-numbers, worked-replacings}
use Rattle.machine_examples.proofs.worked.worked_replacing.Goals as goal

pub returns-clause-numbers : goal.returns-clause-numbers
returns-clause-numbers c = worked-numbers

pub returns-clause-steps : goal.returns-clause-steps
returns-clause-steps c = worked-replacings
