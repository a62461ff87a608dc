use Rattle.std.proofs.Common.{take}
use Rattle.std.specs.List.{AllByRecursion}
use Rattle.nfs_objects.specs.Values.{write_value}
use Rattle.nfs_engine.specs.Settling.{ReplacesWritten}
use Rattle.nfs_engine.proofs.settling.replace_written.Given as goal

abbrev pub invariant-loop-write : goal.invariant-loop-write
invariant-loop-write l = AllByRecursion (λ w. ReplacesWritten l.shard (write_value w)) (take l.write-index l.writes)
