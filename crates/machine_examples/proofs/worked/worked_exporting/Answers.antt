use Rattle.machine_examples.proofs.ExportsWorked.{worked-exporting}
use Rattle.machine_examples.proofs.worked.worked_exporting.Goals as goal

pub returns : goal.returns
returns c = worked-exporting
