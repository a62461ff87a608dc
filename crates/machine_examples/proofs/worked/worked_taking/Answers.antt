use Rattle.machine_examples.proofs.MakingWorked.{worked-taking}
use Rattle.machine_examples.proofs.worked.worked_taking.Goals as goal

pub returns : goal.returns
returns c = worked-taking
