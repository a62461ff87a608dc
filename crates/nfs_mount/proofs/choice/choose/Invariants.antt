-- Of the exports seen so far the best is kept.
use Rattle.nfs_machine.specs.Paths.{parts}
use Rattle.nfs_mount.proofs.BestMatchLemmas.{IsBestOf}
use Rattle.nfs_mount.proofs.choice.choose.Given as goal

abbrev pub invariant-loop-export : goal.invariant-loop-export
invariant-loop-export l = IsBestOf l.exports l.host (parts l.path) l.export-index l.best
