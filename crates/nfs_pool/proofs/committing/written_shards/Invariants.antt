use Rattle.std.proofs.Common.{map, take}
use Rattle.nfs_objects.specs.Values.{write_value}
use Rattle.nfs_engine.specs.Engine.{ArePlaces}
use Rattle.nfs_pool.proofs.committing.written_shards.Given as goal

abbrev pub invariant-loop-write : goal.invariant-loop-write
invariant-loop-write l = ArePlaces (map write_value (take l.write-index l.writes)) l.written
