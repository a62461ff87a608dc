use Rattle.std.proofs.Common.{map, ap, arith}
use Rattle.nfs_objects.specs.Values.{write_value}
use Rattle.nfs_engine.proofs.ShardsFilledLemmas.{making_more}
use Rattle.nfs_engine.proofs.OpenedShardsLemmas.{nobody_there}
use Rattle.nfs_engine.proofs.starting.open_all.Goals as goal

pub open-requires : goal.open-requires
open-requires c = nobody_there _ c.writes.shards _ _ c.in-Some.write.address c.shard_index-index.result
    c.index-shards-index.result c.writes.invariant c.requires c.shard_index-index.ensures.which (omega arith)

pub writes-preserved : goal.writes-preserved
writes-preserved c = making_more _ c.writes.shards _ _ _ (write_value c.in-Some.write) c.shard_index-index.result
    c.open.new.shard c.index-shards-index.result c.writes.invariant (ap (map write_value) c.in-Some.ensures.items)
    c.shard_index-index.ensures.which (omega arith) c.in_ok-open.ensures
