use Rattle.std.proofs.Common.{length, map}
use Rattle.std.specs.Vec.Iter.{into_iter_items}
use Rattle.nfs_tables.specs.Tables.{entries}
use Rattle.nfs_objects.specs.Values.{write_value}
use Rattle.nfs_engine.proofs.TidySlotLemmas.{Installing}
use Rattle.nfs_engine.specs.Tables.{kept_slots}
use Rattle.nfs_engine.proofs.objects.put_all.Given as goal

abbrev pub invariant-writes : goal.invariant-writes
invariant-writes l =
    Installing (kept_slots (entries l.initial.slots)) (kept_slots (entries l.slots)) l.slots.room l.standing
    (map write_value (into_iter_items l.initial.writes)) (map write_value (into_iter_items l.writes))

abbrev pub decreases-writes : goal.decreases-writes
decreases-writes l = length (into_iter_items l.writes)
