use Rattle.nfs_inodes.specs.Blocks.{WritesBlocks}
use Rattle.nfs_inodes.proofs.content.blocks.write_blocks.Given as goal

abbrev pub invariant-loop-index : goal.invariant-loop-index
invariant-loop-index l = WritesBlocks l.fn.draft l.draft l.fn.number l.fn.range.offset l.fn.«data» l.index
