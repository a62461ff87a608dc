use Rattle.std.proofs.Common.{take}
use Rattle.nfs_engine.proofs.LeftCallLemmas.{AreFree}
use Rattle.nfs_engine.proofs.release.Release.next_shard.Given as goal

abbrev pub invariant-loop-place : goal.invariant-loop-place
invariant-loop-place l = AreFree l.self (take l.place l.self.view.entries)
