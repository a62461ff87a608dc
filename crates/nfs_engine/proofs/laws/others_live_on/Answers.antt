use Rattle.nfs_engine.proofs.OtherCallsLemmas.{lives_on}
use Rattle.nfs_engine.proofs.laws.others_live_on.Goals as goal

pub returns : goal.returns
returns c = lives_on
