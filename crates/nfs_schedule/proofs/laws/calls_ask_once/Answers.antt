use Rattle.nfs_schedule.proofs.AcquiredCountLemmas.{asks_once}
use Rattle.nfs_schedule.proofs.laws.calls_ask_once.Goals as goal

pub returns : goal.returns
returns c = asks_once
