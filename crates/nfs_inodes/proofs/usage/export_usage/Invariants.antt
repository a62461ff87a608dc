use Rattle.nfs_inodes.proofs.UsageTotalsLemmas.{IsTotal}
use Rattle.nfs_inodes.proofs.usage.export_usage.Given as goal

abbrev pub invariant-loop-group : goal.invariant-loop-group
invariant-loop-group l = IsTotal l.draft l.export l.group l.total
