use Rattle.nfs_inodes.specs.Asking.{AsksFor}
use Rattle.nfs_inodes.specs.Blocks.{IsBlockIn, first_of}
use Rattle.nfs_inodes.proofs.content.blocks.ask_blocks.Given as goal

abbrev pub invariant-loop-index : goal.invariant-loop-index
invariant-loop-index l =
    AsksFor l.fn.draft (IsBlockIn l.fn.file (first_of l.fn.range.offset) l.index)
    (IsBlockIn l.fn.file (first_of l.fn.range.offset) l.index)
    l.fn.asking.asked.items l.asking.asked.items
