use Rattle.nfs_machine.proofs.UnlockedFileLemmas.{unlocked_files_keep_nothing}
use Rattle.nfs_machine.proofs.laws.unlocked_files_keep_nothing.Goals as goal

pub returns : goal.returns
returns c = unlocked_files_keep_nothing
