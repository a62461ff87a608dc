use Rattle.std.proofs.Common.{◌∙◌, ◌+◌, arith, drop, map, subst}
use Rattle.nfs_tables.specs.Tables.{entries}
use Rattle.nfs_objects.specs.Values.{write_value}
use Rattle.nfs_engine.proofs.TidySlotLemmas.{Writes, next-write, out-store, out-tidy}
use Rattle.nfs_engine.specs.Tables.{IsTidyBut, kept_slots}
use Rattle.nfs_engine.proofs.objects.remove_idle.Goals as goal

pub loop-write-preserved : goal.loop-write-preserved
loop-write-preserved c =
    let old = kept_slots (entries c.loop-write.slots) in
    let new = kept_slots (entries c.take_out_idle.new.slots) in
    let write = write_value c.write-item.result in
    let rest = drop (c.loop-write.write-index + 1) (map write_value c.args.writes.now) in (
      out-store old new write c.take_out_idle.ensures ∙ c.loop-write.invariant.0,
      out-tidy old new write c.take_out_idle.ensures rest (subst (λ (ws : Writes). IsTidyBut old ws)
          (next-write c.args.writes.now c.loop-write.write-index c.write-item.result (omega arith) c.write-item.is)
          c.loop-write.invariant.1),
    )
