use Rattle.std.proofs.Common.{length}
use Rattle.nfs_schedule.specs.Turns.{KeepsBook}
use Rattle.nfs_schedule.specs.Worlds.{IsKept}
use Rattle.nfs_schedule.proofs.model.world.stop_all.Given as goal

-- the workers that are left are all that there are
abbrev pub invariant-workers : goal.invariant-workers
invariant-workers l = record {
  kept : IsKept l.engine l.workers.items;
  store : KeepsBook l.initial.engine l.engine;
}

abbrev pub decreases-workers : goal.decreases-workers
decreases-workers l = length l.workers.items
