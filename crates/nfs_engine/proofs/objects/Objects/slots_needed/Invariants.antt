use Rattle.std.proofs.Common.{◌≡◌, take, map}
use Rattle.nfs_objects.specs.Values.{write_value}
use Rattle.nfs_engine.specs.Tables.{slots_needed}
use Rattle.nfs_engine.proofs.objects.Objects.slots_needed.Given as goal

abbrev pub invariant-loop-write : goal.invariant-loop-write
invariant-loop-write l = l.needed ≡ slots_needed l.self.slots (take l.write-index (map write_value l.writes))
