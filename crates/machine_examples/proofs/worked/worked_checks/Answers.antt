use Rattle.machine_examples.proofs.LockingWorked.{worked-checks}
use Rattle.machine_examples.proofs.worked.worked_checks.Goals as goal

pub returns : goal.returns
returns c = worked-checks
