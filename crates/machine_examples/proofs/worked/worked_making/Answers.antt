use Rattle.machine_examples.proofs.MakingWorked.{worked-making}
use Rattle.machine_examples.proofs.worked.worked_making.Goals as goal

pub returns : goal.returns
returns c = worked-making
