use Rattle.std.proofs.Common.{◌/◌}
use Rattle.nfs_inodes.specs.Asking.{AsksFor}
use Rattle.nfs_inodes.specs.Blocks.{IsBlockIn, IsMapIn, end_of, first_of}
use Rattle.std.proofs.Common.{◌⊎◌}
use Rattle.nfs_inodes.proofs.content.blocks.ask_written.Given as goal

abbrev pub invariant-loop-page : goal.invariant-loop-page
invariant-loop-page l =
    AsksFor l.fn.draft (λ a. IsBlockIn l.fn.file.number (first_of l.fn.range.offset)
    (end_of l.fn.range.offset l.fn.range.count) a ⊎
    IsMapIn l.fn.file.number (first_of l.fn.range.offset / 512) l.page a)
    (IsBlockIn l.fn.file.number (first_of l.fn.range.offset) (end_of l.fn.range.offset l.fn.range.count))
    l.fn.asking.asked.items l.asking.asked.items
