use Rattle.machine_examples.proofs.RunWorked.{worked-linking}
use Rattle.machine_examples.proofs.worked.worked_linkings.Goals as goal

pub returns : goal.returns
returns c = worked-linking
