use Rattle.std.proofs.Common.{◌∙◌, sym, arith}
use Rattle.nfs_engine.proofs.SlotNeedLemmas.{needed-more, needed-same}
use Rattle.nfs_engine.proofs.objects.Objects.slots_needed.Goals as goal
use Rattle.nfs_engine.proofs.objects.Objects.slots_needed.Goals.{then-needs_slot, else-needs_slot}

pub loop-write-preserved : goal.loop-write-preserved
loop-write-preserved c = elim c.if-needs_slot.branch [
  | then-needs_slot w ↦ w.needed-is ∙ needed-more c.args.self.now.slots c.args.writes.now c.loop-write.write-index
      c.write-item.result (omega arith) c.write-item.is c.loop-write.needed c.loop-write.invariant
      (sym w.if-needs_slot.ensures)
  | else-needs_slot w ↦ w.needed-is ∙ needed-same c.args.self.now.slots c.args.writes.now c.loop-write.write-index
      c.write-item.result (omega arith) c.write-item.is c.loop-write.needed c.loop-write.invariant
      (sym w.if-needs_slot.ensures)
]
