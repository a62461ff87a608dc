use Rattle.nfs_schedule.proofs.CallAloneLemmas.{frees_all}
use Rattle.nfs_schedule.proofs.executing.release_all.Goals as goal

pub returns : goal.returns
returns c = frees_all _ _ _ _ c.requires.alone c.release_all.ensures
