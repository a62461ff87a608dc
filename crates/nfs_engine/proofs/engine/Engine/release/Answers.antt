use Rattle.std.proofs.Common.{arith}
use Rattle.nfs_engine.proofs.LeftCallLemmas.{left_next, left_others, left_tied}
use Rattle.nfs_engine.proofs.engine.Engine.release.Goals as goal

pub invariant_of-self : goal.invariant_of-self
invariant_of-self c = left_tied c.self.inside.book c.self.inside.shards
    c.in-Some.shard c.index-self-shard.result c.release_in.new.shard (omega (arith, c.in-Some.ensures.0)) c.args.release
    c.in-Some.ensures.1 c.self.invariant (rw (← c.self.view_is) at c.requires) c.in-Some.ensures.0
    c.release_in.ensures.shard

pub returns-in-Some-clause-others : goal.returns-in-Some-clause-others
returns-in-Some-clause-others c = rw (← c.self.view_is) (left_others c.self.inside.book c.self.inside.shards
    c.in-Some.shard c.index-self-shard.result c.release_in.new.shard (omega (arith, c.in-Some.ensures.0)) c.args.release
    c.in-Some.ensures.1 c.self.invariant (rw (← c.self.view_is) at c.requires) c.in-Some.ensures.0
    c.release_in.ensures.shard)

pub returns-in-Some-clause-next : goal.returns-in-Some-clause-next
returns-in-Some-clause-next c = rw (← c.self.view_is) (left_next c.self.inside.book c.self.inside.shards
    c.in-Some.shard c.index-self-shard.result c.release_in.new.shard (omega (arith, c.in-Some.ensures.0)) c.args.release
    c.in-Some.ensures.1 c.self.invariant (rw (← c.self.view_is) at c.requires) c.in-Some.ensures.0
    c.release_in.ensures.shard c.release_in.result c.in-Some.ensures.3 c.release_in.ensures.next)
