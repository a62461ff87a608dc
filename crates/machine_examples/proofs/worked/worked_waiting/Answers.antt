use Rattle.machine_examples.proofs.WaitingWorked.{worked-waiting}
use Rattle.machine_examples.proofs.worked.worked_waiting.Goals as goal

pub returns : goal.returns
returns c = worked-waiting
