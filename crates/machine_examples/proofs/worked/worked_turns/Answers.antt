use Rattle.machine_examples.proofs.RunWorked.{worked-turns}
use Rattle.machine_examples.proofs.worked.worked_turns.Goals as goal

pub returns : goal.returns
returns c = worked-turns
