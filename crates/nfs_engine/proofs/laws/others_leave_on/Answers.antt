use Rattle.nfs_engine.proofs.OtherCallsLemmas.{leaving_on}
use Rattle.nfs_engine.proofs.laws.others_leave_on.Goals as goal

pub returns : goal.returns
returns c = leaving_on
