use Rattle.nfs_engine.specs.Shards.{slot_at}
use Rattle.nfs_pool.proofs.marked_shard.MarkedShard.sweep.Goals as goal

pub invariant_of-self-2 : goal.invariant_of-self-2
invariant_of-self-2 g c = record {
  marked = c.unmark.ensures (λ a. (slot_at c.args.self.now.shard a).object) (λ a. (slot_at c.sweep.new.self a).object)
      c.args.self.now.marked (c.in-Ok-true.ensures.done c.in-Ok-true.field-0-test).objects;
}
