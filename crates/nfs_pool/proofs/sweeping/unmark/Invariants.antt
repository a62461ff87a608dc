use Rattle.nfs_pool.specs.Marked.{Unmarks}
use Rattle.nfs_pool.proofs.sweeping.unmark.Given as goal

abbrev pub invariant-loop-index : goal.invariant-loop-index
invariant-loop-index g l = Unmarks l.fn.marks l.marks l.file l.page l.first l.index
