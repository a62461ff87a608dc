use Rattle.machine_examples.proofs.RunWorked.{worked-steps}
use Rattle.machine_examples.proofs.worked.worked_steps.Goals as goal

pub returns : goal.returns
returns c = worked-steps
