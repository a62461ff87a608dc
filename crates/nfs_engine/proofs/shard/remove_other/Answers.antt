use Rattle.std.proofs.Common.{None}
use Rattle.nfs_engine.specs.Shards.{slot_value}
use Rattle.nfs_engine.proofs.AddressMapLemmas.{found-turned}
use Rattle.nfs_engine.proofs.shard.remove_other.Goals as goal

pub returns : goal.returns
returns c = found-turned slot_value c.args.others.now c.remove.new.self c.args.address None
    c.remove.ensures.changes
