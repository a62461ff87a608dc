use Rattle.std.proofs.Common.{length, map}
use Rattle.std.specs.Vec.Iter.{into_iter_items}
use Rattle.nfs_objects.specs.Values.{write_value}
use Rattle.nfs_engine.proofs.ShardsFilledLemmas.{Making}
use Rattle.nfs_engine.proofs.starting.open_all.Given as goal

abbrev pub invariant-writes : goal.invariant-writes
invariant-writes l = Making l.initial.shards l.shards (map write_value (into_iter_items l.initial.writes))
    (map write_value (into_iter_items l.writes))

abbrev pub decreases-writes : goal.decreases-writes
decreases-writes l = length (into_iter_items l.writes)
