use Rattle.std.proofs.Common.{◌≡◌, length}
use Rattle.nfs_engine.proofs.LetGoAllLemmas.{MarkedTo}
use Rattle.nfs_engine.proofs.release.Release.left.Given as goal

abbrev pub invariant-loop-index : goal.invariant-loop-index
invariant-loop-index l = MarkedTo l.self.done l.left l.index × (length l.left ≡ 16)
