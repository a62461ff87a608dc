use Rattle.machine_examples.proofs.PostingWorked.{worked-posting}
use Rattle.machine_examples.proofs.worked.worked_posting.Goals as goal

pub returns : goal.returns
returns c = worked-posting
