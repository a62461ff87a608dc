use Rattle.nfs_schedule.proofs.WorkerStepLemmas.{may_think, thinks_on}
use Rattle.nfs_schedule.proofs.model.world.turn_at.Goals as goal

pub think-requires : goal.think-requires
think-requires c = may_think _ c.requires.grown

pub turn-requires-clause-lives : goal.turn-requires-clause-lives
turn-requires-clause-lives c = (thinks_on _ _ _ c.think.ensures c.requires.lives).lives
