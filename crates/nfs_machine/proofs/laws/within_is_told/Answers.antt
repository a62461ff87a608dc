use Rattle.nfs_machine.proofs.WithinLemmas.{within-told}
use Rattle.nfs_machine.proofs.laws.within_is_told.Goals as goal

pub returns : goal.returns
returns c = within-told
