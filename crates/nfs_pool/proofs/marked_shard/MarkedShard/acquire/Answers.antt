use Rattle.nfs_pool.proofs.MarksStayLemmas.{got_same, marks_stay}
use Rattle.nfs_pool.proofs.marked_shard.MarkedShard.acquire.Goals as goal

pub invariant_of-self : goal.invariant_of-self
invariant_of-self g c =
    let old = c.args.self.now in
    record {
      marked = marks_stay old.marks old.shard c.acquire_in.new.shard
          (got_same _ _ c.args.address c.args.mode c.args.txn.now.id c.acquire_in.result c.acquire_in.ensures.got)
          old.marked;
    }
