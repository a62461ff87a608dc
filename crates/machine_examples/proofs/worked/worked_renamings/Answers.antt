use Rattle.machine_examples.proofs.RunWorked.{worked-renaming}
use Rattle.machine_examples.proofs.worked.worked_renamings.Goals as goal

pub returns : goal.returns
returns c = worked-renaming
