use Rattle.nfs_machine.proofs.ModesLemmas.{listed_locks_tell}
use Rattle.nfs_machine.proofs.laws.listed_locks_tell.Goals as goal

pub returns : goal.returns
returns c = listed_locks_tell
