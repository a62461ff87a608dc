use Rattle.nfs_schedule.proofs.WorldKeepsLemmas.{kept_less}
use Rattle.nfs_schedule.proofs.EraRunLemmas.{store_both}
use Rattle.nfs_schedule.proofs.model.world.stop_all.Goals as goal

pub workers-preserved : goal.workers-preserved
workers-preserved c = record {
  kept = kept_less c.workers.engine c.stop.new.engine c.pop.new.self.items c.in-Some.worker c.stop.result
      (rw c.in-Some.ensures.items at c.workers.invariant.kept) c.stop.ensures;
  store = store_both c.args.engine.now c.workers.engine c.stop.new.engine c.workers.invariant.store
      c.stop.ensures.store;
}
