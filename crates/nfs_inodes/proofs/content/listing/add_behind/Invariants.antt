use Rattle.std.proofs.Common.{◌≡◌, ◌++◌, drop, map}
use Rattle.nfs_inodes.specs.Listing.{listed_entry}
use Rattle.nfs_inodes.proofs.content.listing.add_behind.Given as goal

-- with those from this place on they come to the same
abbrev pub invariant-loop-place : goal.invariant-loop-place
invariant-loop-place l =
    map listed_entry l.left.items ++ drop l.place l.page ≡ map listed_entry l.fn.left.items ++ drop l.first l.page
