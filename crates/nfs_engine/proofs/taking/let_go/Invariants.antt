use Rattle.std.proofs.Common.{take}
use Rattle.nfs_engine.specs.Taking.{LetsGo}
use Rattle.nfs_engine.proofs.taking.let_go.Given as goal

abbrev pub invariant-loop-place : goal.invariant-loop-place
invariant-loop-place l = LetsGo l.fn.shard l.shard l.fn.index l.fn.id (take l.place l.view.entries)
