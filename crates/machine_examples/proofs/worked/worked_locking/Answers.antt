use Rattle.machine_examples.proofs.LockingWorked.{worked-locking}
use Rattle.machine_examples.proofs.worked.worked_locking.Goals as goal

pub returns : goal.returns
returns c = worked-locking
