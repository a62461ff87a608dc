use Rattle.std.proofs.Common.{◌<◌, ◌≤◌, ◌-◌, length, refl, arith}
use Rattle.std.proofs.lemmas.Option.{slice_get_read}
use Rattle.nfs_schedule.proofs.WorldKeepsLemmas.{kept_stop}
use Rattle.nfs_schedule.proofs.EraRunLemmas.{stop_runs}
use Rattle.nfs_schedule.proofs.model.world.World.stop.Goals as goal

pub invariant_of-self : goal.invariant_of-self
invariant_of-self c =
    let last : c.args.worker ≤ length c.self.inside.workers.items = rw (← c.self.view_is) at c.requires.last in
    let within : c.args.worker - 1 < length c.self.inside.workers.items = omega (arith, c.requires.first, last) in
    rw c.stop_at.ensures.idle (kept_stop _ _ c.self.inside.workers.items (c.args.worker - 1) _ _ c.self.invariant
    (slice_get_read c.self.inside.workers.items (length c.self.inside.workers.items) (c.args.worker - 1)
    c.index_mut.result.now refl within c.index_mut.ensures.value) c.stop_at.ensures.stop)

pub returns-clause-stops : goal.returns-clause-stops
returns-clause-stops c =
    let last : c.args.worker ≤ length c.self.inside.workers.items = rw (← c.self.view_is) at c.requires.last in
    let within : c.args.worker - 1 < length c.self.inside.workers.items = omega (arith, c.requires.first, last) in
    rw (← c.self.view_is, c.stop_at.ensures.idle) (record {
      was = c.index_mut.result.now;
      there =
          slice_get_read c.self.inside.workers.items (length c.self.inside.workers.items) (c.args.worker - 1)
          c.index_mut.result.now refl within c.index_mut.ensures.value;
      stop = c.stop_at.ensures.stop;
      rest = refl;
    })

pub returns-clause-runs : goal.returns-clause-runs
returns-clause-runs c = stop_runs _ _ c.args.worker c.stop_at.result (returns-clause-stops c)
