use Rattle.std.proofs.Common.{length}
use Rattle.nfs_tables.specs.Tables.{entries}
use Rattle.nfs_engine.specs.Numbers.{Moves}
use Rattle.nfs_engine.specs.Shards.{shard_value}
use Rattle.nfs_engine.proofs.shard.free_number.Given as goal

-- the slots moved
abbrev pub invariant-keys : goal.invariant-keys
invariant-keys l =
    Moves (shard_value l.index l.initial.numbers.slots (entries l.initial.others) 0)
    (shard_value l.index l.numbers.slots (entries l.others) 0)

-- each round takes one from the map
abbrev pub decreases-keys : goal.decreases-keys
decreases-keys l = length (entries l.others)
