use Rattle.nfs_engine.proofs.SweepShardLemmas.{IsFree}
use Rattle.nfs_engine.proofs.SweepStepLemmas.{AllBlocks}
use Rattle.nfs_engine.proofs.shard.Shard.is_page_free.Given as goal

abbrev pub invariant-loop-place : goal.invariant-loop-place
invariant-loop-place l = AllBlocks (IsFree l.self) l.sweep.file l.sweep.page l.place
