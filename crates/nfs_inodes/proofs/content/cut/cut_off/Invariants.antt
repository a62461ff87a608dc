use Rattle.nfs_inodes.specs.Cuts.{IsCutTo}
use Rattle.nfs_inodes.proofs.content.cut.cut_off.Given as goal

abbrev pub invariant-loop-page : goal.invariant-loop-page
invariant-loop-page l = IsCutTo l.fn.draft l.draft l.fn.number l.fn.size l.page l.left
