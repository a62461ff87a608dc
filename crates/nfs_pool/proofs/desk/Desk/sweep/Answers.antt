use Rattle.nfs_engine.specs.Book.{store_in}
use Rattle.nfs_pool.proofs.desk.Desk.sweep.Goals as goal

pub invariant_of-self-clause-marked : goal.invariant_of-self-clause-marked
invariant_of-self-clause-marked g c =
    c.unmark.ensures (store_in c.args.self.now.book).at (store_in c.sweep.new.self).at c.args.self.now.marked
    c.sweep.ensures.sweeps.at
