use Rattle.nfs_objects.proofs.ModesSuitLemmas.{renames-hold, renames-share}
use Rattle.nfs_objects.proofs.laws.renames_share_what_they_only_read.Goals as goal

pub returns-clause-alone : goal.returns-clause-alone
returns-clause-alone c = renames-hold

pub returns-clause-shared : goal.returns-clause-shared
returns-clause-shared c = renames-share
