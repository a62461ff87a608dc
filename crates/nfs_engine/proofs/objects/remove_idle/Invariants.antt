use Rattle.std.proofs.Common.{◌≡◌, drop, map}
use Rattle.nfs_tables.specs.Tables.{entries}
use Rattle.nfs_objects.specs.Values.{write_value}
use Rattle.nfs_engine.specs.Tables.{IsTidyBut, kept_slots, store_of}
use Rattle.nfs_engine.proofs.objects.remove_idle.Given as goal

abbrev pub invariant-loop-write : goal.invariant-loop-write
invariant-loop-write l = (store_of (kept_slots (entries l.slots)) ≡ store_of (kept_slots (entries l.initial.slots)))
    × IsTidyBut (kept_slots (entries l.slots)) (drop l.write-index (map write_value l.writes))
