use Rattle.nfs_machine.proofs.ReadingLemmas.{readings-whole}
use Rattle.nfs_machine.proofs.laws.readings_are_whole.Goals as goal

pub returns : goal.returns
returns c = readings-whole
