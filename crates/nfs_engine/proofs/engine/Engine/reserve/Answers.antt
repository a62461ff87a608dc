use Rattle.std.proofs.Common.{arith}
use Rattle.nfs_engine.proofs.EngineStepLemmas.{gained_counters, gained_number, gained_on, holds_there}
use Rattle.nfs_engine.proofs.engine.Engine.reserve.Goals as goal

pub reserve_in-requires : goal.reserve_in-requires
reserve_in-requires c = record {
  holds = holds_there c.self.inside.book c.self.inside.shards c.args.shard
      c.index-self-shard.result c.index-self-shard.result (omega arith) c.self.invariant c.args.txn.now
      (rw (← c.self.view_is) at c.requires.lives) c.requires.shard;
}

pub invariant_of-self : goal.invariant_of-self
invariant_of-self c = (gained_on c.self.inside.book c.self.inside.shards c.args.shard c.index-self-shard.result
    c.reserve_in.new.shard (omega arith) c.self.invariant c.args.txn.now (rw (← c.self.view_is) at c.requires.lives)
    c.reserve_in.new.self c.reserve_in.result c.requires.shard c.reserve_in.ensures.rest
    c.reserve_in.ensures.gained).tied

pub returns-clause-lives : goal.returns-clause-lives
returns-clause-lives c = (gained_on c.self.inside.book c.self.inside.shards c.args.shard c.index-self-shard.result
    c.reserve_in.new.shard (omega arith) c.self.invariant c.args.txn.now (rw (← c.self.view_is) at c.requires.lives)
    c.reserve_in.new.self c.reserve_in.result c.requires.shard c.reserve_in.ensures.rest
    c.reserve_in.ensures.gained).lives

pub returns-clause-others : goal.returns-clause-others
returns-clause-others c = rw (← c.self.view_is) (gained_on c.self.inside.book c.self.inside.shards c.args.shard
    c.index-self-shard.result c.reserve_in.new.shard (omega arith) c.self.invariant c.args.txn.now
    (rw (← c.self.view_is) at c.requires.lives) c.reserve_in.new.self c.reserve_in.result c.requires.shard
    c.reserve_in.ensures.rest c.reserve_in.ensures.gained).others

pub returns-clause-counters : goal.returns-clause-counters
returns-clause-counters c = rw (← c.self.view_is) (gained_counters c.self.inside.book c.self.inside.shards c.args.shard
    c.index-self-shard.result c.reserve_in.new.shard (omega arith) c.self.invariant c.args.txn.now
    (rw (← c.self.view_is) at c.requires.lives) c.reserve_in.new.self c.reserve_in.result c.reserve_in.ensures.gained)

pub returns-clause-reserved : goal.returns-clause-reserved
returns-clause-reserved c = rw (← c.self.view_is) (gained_number c.self.inside.book c.self.inside.shards c.args.shard
    c.index-self-shard.result c.reserve_in.new.shard (omega arith) c.self.invariant c.args.txn.now
    (rw (← c.self.view_is) at c.requires.lives) c.reserve_in.new.self c.reserve_in.result c.requires.shard
    c.reserve_in.ensures.rest c.reserve_in.ensures.gained)
