use Rattle.nfs_engine.proofs.SweepShardLemmas.{decides-free}
use Rattle.nfs_engine.specs.Shards.{slot_at}
use Rattle.nfs_engine.proofs.shard.Shard.is_free.Goals as goal

pub returns : goal.returns
returns c =
    decides-free (slot_at c.args.self.now c.args.address).holders c.excluder.result c.excluder.ensures c.is_none.result
    c.is_none.ensures
