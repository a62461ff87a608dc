use Rattle.nfs_engine.specs.Clearing.{Clears}
use Rattle.nfs_engine.proofs.engine.Engine.clear_dead.Given as goal

abbrev pub invariant-loop-look : goal.invariant-loop-look
invariant-loop-look l = Clears l.fn.self l.self
