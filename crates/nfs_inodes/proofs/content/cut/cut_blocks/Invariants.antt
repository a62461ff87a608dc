use Rattle.nfs_inodes.specs.Cuts.{CutsBlocks}
use Rattle.nfs_inodes.proofs.content.cut.cut_blocks.Given as goal

abbrev pub invariant-loop-place : goal.invariant-loop-place
invariant-loop-place l = CutsBlocks l.fn.draft l.draft l.fn.number l.fn.page l.fn.bits l.fn.size l.place
