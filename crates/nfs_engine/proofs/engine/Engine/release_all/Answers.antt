use Rattle.nfs_engine.proofs.LetGoAllLemmas.{loosed, loosed_tied}
use Rattle.nfs_engine.proofs.engine.Engine.release_all.Goals as goal

pub invariant_of-self : goal.invariant_of-self
invariant_of-self c = loosed_tied c.self.inside.book c.self.inside.shards c.free_all.new.shards c.left-left.result
    c.args.release c.self.invariant (rw (← c.self.view_is) at c.requires) c.left-left.ensures
    (rw (← c.release.view_is) c.free_all.ensures)

pub returns : goal.returns
returns c = rw (← c.self.view_is) (loosed c.self.inside.book c.self.inside.shards c.free_all.new.shards
    c.left-left.result c.args.release c.self.invariant (rw (← c.self.view_is) at c.requires)
    c.left-left.ensures (rw (← c.release.view_is) c.free_all.ensures) c.into_pending.result c.into_pending.ensures)
