use Rattle.machine_examples.proofs.SettlingWorked.{worked-settling}
use Rattle.machine_examples.proofs.worked.worked_settling.Goals as goal

pub returns : goal.returns
returns c = worked-settling
