use Rattle.std.proofs.Common.{take}
use Rattle.std.specs.List.{AllByRecursion}
use Rattle.nfs_objects.specs.Values.{write_value}
use Rattle.nfs_engine.specs.Settling.{HoldsWritten}
use Rattle.nfs_engine.proofs.settling.hold_written.Given as goal

abbrev pub invariant-loop-write : goal.invariant-loop-write
invariant-loop-write l = AllByRecursion (λ w. HoldsWritten l.shard l.id (write_value w)) (take l.write-index l.writes)
