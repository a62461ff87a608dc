use Rattle.nfs_schedule.proofs.AsksFewLemmas.{courses-few}
use Rattle.nfs_schedule.proofs.laws.courses_are_few.Goals as goal

pub returns : goal.returns
returns c = courses-few
