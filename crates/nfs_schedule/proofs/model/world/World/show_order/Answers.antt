use Rattle.nfs_schedule.proofs.WorldOrderLemmas.{orderly}
use Rattle.nfs_schedule.proofs.model.world.World.show_order.Goals as goal

pub returns : goal.returns
returns c = rw (← c.self.view_is) (orderly _ c.show_tie.ensures c.show_run.ensures c.self.invariant)
