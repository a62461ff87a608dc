use Rattle.std.proofs.Common.{[]}
use Rattle.nfs_inodes.proofs.WishesLemmas.{IsPaged}
use Rattle.nfs_inodes.specs.Asking.{AsksFor}
use Rattle.nfs_inodes.specs.Blocks.{IsBlockIn, first_of}
use Rattle.nfs_inodes.proofs.content.blocks.ask_range.Given as goal

abbrev pub invariant-loop-index : goal.invariant-loop-index
invariant-loop-index l =
    AsksFor l.fn.draft (IsBlockIn l.fn.file.number (first_of l.fn.range.offset) l.index)
    (IsPaged l.fn.file.number l.fn.file.map.now (first_of l.fn.range.offset) l.index) [] l.asking.asked.items
