use Rattle.std.proofs.Common.{ap, map}
use Rattle.nfs_objects.specs.Values.{write_value}
use Rattle.nfs_engine.proofs.TidySlotLemmas.{installing-more}
use Rattle.nfs_engine.proofs.objects.put_all.Goals as goal

pub writes-preserved : goal.writes-preserved
writes-preserved c =
    installing-more _ _ _ _ _ _ _ (write_value c.in-Some.write) c.writes.invariant
    (ap (map write_value) c.in-Some.ensures.items) _ _ _ c.make-standing.ensures.puts c.make-standing.ensures.room
    c.make-standing.ensures.count
