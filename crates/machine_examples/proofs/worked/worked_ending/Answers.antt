use Rattle.machine_examples.proofs.EndingWorked.{worked-ending}
use Rattle.machine_examples.proofs.worked.worked_ending.Goals as goal

pub returns : goal.returns
returns c = worked-ending
