use Rattle.nfs_engine.proofs.SweptEngineLemmas.{swept-counters, swept-others}
use Rattle.nfs_engine.proofs.engine.Engine.sweep.Goals as goal

pub returns-clause-others : goal.returns-clause-others
returns-clause-others c =
    rw (← c.self.view_is) (swept-others c.self.inside.book c.sweep-2.new.self c.self.inside.shards
    c.sweep_in.new.shards _ (c.in_ok-is_free.ensures.done c.if-not-is_free.false) c.sweep-2.ensures.sweeps
    c.sweep-2.ensures.rest)

pub returns-clause-counters : goal.returns-clause-counters
returns-clause-counters c =
    rw (← c.self.view_is) (swept-counters c.self.inside.book c.sweep-2.new.self c.self.inside.shards
    c.sweep_in.new.shards _ (c.in_ok-is_free.ensures.done c.if-not-is_free.false) c.sweep-2.ensures.sweeps
    c.sweep-2.ensures.rest)

pub returns-clause-leads : goal.returns-clause-leads
returns-clause-leads c = rw (← c.self.view_is) c.sweep-2.ensures.leads
