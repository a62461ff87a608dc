use Rattle.nfs_pool.proofs.MarksStayLemmas.{marks_stay, tested_same}
use Rattle.nfs_pool.proofs.marked_shard.MarkedShard.reserve.Goals as goal

pub invariant_of-self : goal.invariant_of-self
invariant_of-self g c =
    let old = c.args.self.now in
    record {
      marked = marks_stay old.marks old.shard c.reserve_tested.new.shard
          (tested_same _ _ c.args.txn.now.id c.reserve_tested.result c.reserve_tested.ensures.tested) old.marked;
    }
