use Rattle.std.proofs.Common.{◌≤◌, [], max}
use Rattle.nfs_inodes.specs.Asking.{AsksFor}
use Rattle.nfs_inodes.specs.Cuts.{IsToldIn}
use Rattle.nfs_inodes.proofs.content.cut.ask_blocks.Given as goal

abbrev pub invariant-loop-page : goal.invariant-loop-page
invariant-loop-page l =
    AsksFor l.fn.draft (IsToldIn l.fn.number l.fn.first l.fn.maps l.fn.from l.page)
    (IsToldIn l.fn.number l.fn.first l.fn.maps l.fn.from l.page) [] l.asking.asked.items
    × (l.page ≤ max l.fn.first l.fn.end)
