use Rattle.nfs_pool.proofs.MarksStayLemmas.{marks_stay}
use Rattle.nfs_pool.proofs.marked_shard.MarkedShard.let_go.Goals as goal

pub invariant_of-self : goal.invariant_of-self
invariant_of-self g c =
    let old = c.args.self.now in
    record {
      marked = marks_stay old.marks old.shard c.let_go_in.new.shard c.let_go_in.ensures.shard.objects
          old.marked;
    }
