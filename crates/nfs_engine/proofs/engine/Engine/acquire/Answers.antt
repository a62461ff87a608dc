use Rattle.std.proofs.Common.{arith}
use Rattle.nfs_engine.proofs.EngineStepLemmas.{got_counters, got_on}
use Rattle.nfs_engine.proofs.engine.Engine.acquire.Goals as goal

pub invariant_of-self : goal.invariant_of-self
invariant_of-self c = (got_on c.self.inside.book c.self.inside.shards c.shard_index-index.result
    c.index-self-index.result
    c.acquire_in.new.shard (omega arith) c.self.invariant c.args.txn.now (rw (← c.self.view_is) at c.requires.lives)
    c.args.address c.args.mode c.acquire_in.new.self c.acquire_in.result c.shard_index-index.ensures.which
    c.requires.unseen c.acquire_in.ensures.rest c.acquire_in.ensures.got).tied

pub returns-clause-lives : goal.returns-clause-lives
returns-clause-lives c = (got_on c.self.inside.book c.self.inside.shards c.shard_index-index.result
    c.index-self-index.result
    c.acquire_in.new.shard (omega arith) c.self.invariant c.args.txn.now (rw (← c.self.view_is) at c.requires.lives)
    c.args.address c.args.mode c.acquire_in.new.self c.acquire_in.result c.shard_index-index.ensures.which
    c.requires.unseen c.acquire_in.ensures.rest c.acquire_in.ensures.got).lives

pub returns-clause-others : goal.returns-clause-others
returns-clause-others c = rw (← c.self.view_is) (got_on c.self.inside.book c.self.inside.shards
    c.shard_index-index.result c.index-self-index.result c.acquire_in.new.shard (omega arith) c.self.invariant
    c.args.txn.now (rw (← c.self.view_is) at c.requires.lives) c.args.address c.args.mode c.acquire_in.new.self
    c.acquire_in.result c.shard_index-index.ensures.which c.requires.unseen c.acquire_in.ensures.rest
    c.acquire_in.ensures.got).others

pub returns-clause-counters : goal.returns-clause-counters
returns-clause-counters c = rw (← c.self.view_is) (got_counters c.self.inside.book c.self.inside.shards
    c.shard_index-index.result c.index-self-index.result c.acquire_in.new.shard (omega arith) c.self.invariant
    c.args.txn.now (rw (← c.self.view_is) at c.requires.lives) c.args.address c.args.mode c.acquire_in.new.self
    c.acquire_in.result c.acquire_in.ensures.got)
