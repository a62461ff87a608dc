use Rattle.std.proofs.Common.{◌≤◌, max}
use Rattle.nfs_inodes.specs.Asking.{AsksFor}
use Rattle.nfs_inodes.specs.Cuts.{IsPageIn}
use Rattle.nfs_inodes.proofs.content.cut.add_maps.Given as goal

abbrev pub invariant-loop-page : goal.invariant-loop-page
invariant-loop-page l =
    AsksFor l.fn.draft (IsPageIn l.fn.number l.fn.pages l.fn.first l.page)
    (IsPageIn l.fn.number l.fn.pages l.fn.first l.page) l.fn.asking.asked.items l.asking.asked.items
    × (l.page ≤ max l.fn.first l.fn.end)
