use Rattle.std.proofs.Common.{subst, sym}
use Rattle.nfs_engine.specs.Clearing.{Clears}
use Rattle.nfs_engine.specs.Engine.{EngineValue}
use Rattle.nfs_engine.proofs.ClearingLemmas.{clears-swept}
use Rattle.nfs_engine.proofs.engine.Engine.clear_next.Goals as goal

pub returns-in-Ok-Some-true : goal.returns-in-Ok-Some-true
returns-in-Ok-Some-true c =
    subst (λ (e : EngineValue). Clears c.args.self.now e) (sym c.self-2.view_is)
    (clears-swept c.args.self.now c.sweep.new.self c.in-Some.number c.in-Ok-Some-true.field-0
    c.in-Ok-Some-true.ensures.sweeps c.in-Ok-Some-true.ensures.others c.in-Ok-Some-true.ensures.counters
    c.in-Ok-Some-true.ensures.rest)

pub returns-in-Ok-Some-false : goal.returns-in-Ok-Some-false
returns-in-Ok-Some-false c =
    clears-swept c.args.self.now c.sweep.new.self c.in-Some.number c.in-Ok-Some-false.field-0
    c.in-Ok-Some-false.ensures.sweeps c.in-Ok-Some-false.ensures.others c.in-Ok-Some-false.ensures.counters
    c.in-Ok-Some-false.ensures.rest

pub returns-in-Ok-None : goal.returns-in-Ok-None
returns-in-Ok-None c =
    subst (λ (e : EngineValue). Clears c.args.self.now e) (sym c.self-2.view_is)
    (clears-swept c.args.self.now c.sweep.new.self c.in-Some.number c.in-Ok-None.field-0
    c.in-Ok-None.ensures.sweeps c.in-Ok-None.ensures.others c.in-Ok-None.ensures.counters c.in-Ok-None.ensures.rest)
