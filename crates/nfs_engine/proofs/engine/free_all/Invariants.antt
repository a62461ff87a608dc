use Rattle.std.proofs.Common.{take}
use Rattle.nfs_engine.specs.Engine.{Frees}
use Rattle.nfs_engine.proofs.engine.free_all.Given as goal

abbrev pub invariant-loop-place : goal.invariant-loop-place
invariant-loop-place l = Frees l.fn.shards l.shards l.which l.fn.id (take l.place l.view.entries)
