use Rattle.machine_examples.proofs.SettlingWorked.{worked-freed}
use Rattle.machine_examples.proofs.worked.worked_freed.Goals as goal

pub returns : goal.returns
returns c = worked-freed
