use Rattle.std.proofs.Common.{◌<◌, ◌≤◌, ◌-◌, length, refl, arith}
use Rattle.std.proofs.lemmas.Option.{slice_get_read}
use Rattle.nfs_schedule.proofs.WorldKeepsLemmas.{kept_turn}
use Rattle.nfs_schedule.proofs.EraRunLemmas.{turn_runs}
use Rattle.nfs_schedule.proofs.model.world.World.turn.Goals as goal

pub invariant_of-self : goal.invariant_of-self
invariant_of-self c =
    let last : c.args.worker ≤ length c.self.inside.workers.items = rw (← c.self.view_is) at c.requires.last in
    let within : c.args.worker - 1 < length c.self.inside.workers.items = omega (arith, c.requires.first, last) in
    kept_turn _ _ _ _ _ c.self.inside.workers.items (c.args.worker - 1) _ _ _ c.self.invariant
    (slice_get_read c.self.inside.workers.items (length c.self.inside.workers.items) (c.args.worker - 1)
    c.index_mut.result.now refl within c.index_mut.ensures.value) c.turn_at.ensures

pub returns-clause-turn : goal.returns-clause-turn
returns-clause-turn c =
    let last : c.args.worker ≤ length c.self.inside.workers.items = rw (← c.self.view_is) at c.requires.last in
    let within : c.args.worker - 1 < length c.self.inside.workers.items = omega (arith, c.requires.first, last) in
    rw (← c.self.view_is) (record {
      was = c.index_mut.result.now;
      there =
          slice_get_read c.self.inside.workers.items (length c.self.inside.workers.items) (c.args.worker - 1)
          c.index_mut.result.now refl within c.index_mut.ensures.value;
      now = c.turn_at.new.worker;
      turns = c.turn_at.ensures;
      rest = refl;
    })

pub returns-clause-runs : goal.returns-clause-runs
returns-clause-runs c = turn_runs _ _ c.args.worker c.turn_at.result (returns-clause-turn c)
