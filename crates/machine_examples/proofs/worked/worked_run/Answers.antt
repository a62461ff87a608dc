use Rattle.machine_examples.proofs.RunWorked.{worked-run}
use Rattle.machine_examples.proofs.worked.worked_run.Goals as goal

pub returns : goal.returns
returns c = worked-run
