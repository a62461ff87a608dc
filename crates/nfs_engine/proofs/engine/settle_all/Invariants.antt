use Rattle.std.proofs.Common.{map}
use Rattle.nfs_objects.specs.Values.{write_value}
use Rattle.nfs_engine.proofs.ShardsSettledLemmas.{SettledTo}
use Rattle.nfs_engine.proofs.engine.settle_all.Given as goal

abbrev pub invariant-loop-index : goal.invariant-loop-index
invariant-loop-index l = SettledTo l.fn.shards l.shards l.written l.fn.id l.view.entries
    (map write_value l.fn.writes) (map write_value l.writes) l.index
