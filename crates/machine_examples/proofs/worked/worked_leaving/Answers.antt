use Rattle.machine_examples.proofs.RunWorked.{worked-leaving}
use Rattle.machine_examples.proofs.worked.worked_leaving.Goals as goal

pub returns : goal.returns
returns c = worked-leaving
