use Rattle.std.proofs.Common.{take}
use Rattle.nfs_engine.specs.Engine.{CountsLocked}
use Rattle.nfs_engine.proofs.engine.Engine.locked.Given as goal

abbrev pub invariant-loop-shard : goal.invariant-loop-shard
invariant-loop-shard l = CountsLocked (take l.shard-index l.self.shards) l.count
