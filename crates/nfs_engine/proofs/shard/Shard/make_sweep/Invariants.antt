use Rattle.nfs_engine.proofs.SweepShardLemmas.{ShardGoneTo}
use Rattle.nfs_engine.proofs.shard.Shard.make_sweep.Given as goal

abbrev pub invariant-loop-place : goal.invariant-loop-place
invariant-loop-place l = ShardGoneTo l.fn.self l.self l.sweep.file l.sweep.page l.place
