use Rattle.std.proofs.Common.{◌≤◌, max}
use Rattle.nfs_inodes.specs.Cuts.{ShowsMaps}
use Rattle.nfs_inodes.proofs.content.cut.read_maps.Given as goal

abbrev pub invariant-loop-page : goal.invariant-loop-page
invariant-loop-page l =
    ShowsMaps l.fn.draft l.fn.number l.fn.first l.page l.maps.items × (l.page ≤ max l.fn.first l.fn.end)
