use Rattle.std.proofs.Common.{◌≡◌, replicate}
use Rattle.std.specs.Vec.{vec_capacity, vec_len}
use Rattle.nfs_schedule.specs.declared.model.worker.Worker.TheVariants.{Idle}
use Rattle.nfs_schedule.proofs.model.world.idle_workers.Given as goal

abbrev pub invariant-loop-made : goal.invariant-loop-made
invariant-loop-made l = record {
  items : l.workers.items ≡ replicate l._made Idle;
  len : vec_len l.workers ≡ l._made;
  room : vec_capacity l.workers ≡ l.count;
}
