use Rattle.nfs_inodes.proofs.ReadBlocksLemmas.{IsGathered}
use Rattle.nfs_inodes.proofs.content.blocks.gathered.Given as goal

abbrev pub invariant-loop-index : goal.invariant-loop-index
invariant-loop-index l = IsGathered l.fn.draft l.fn.file.number l.fn.range.offset l.fn.range.count l.index l.found
