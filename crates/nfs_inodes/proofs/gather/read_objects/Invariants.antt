use Rattle.std.proofs.Common.{map, take}
use Rattle.nfs_inodes.specs.Gathers.{Gathers}
use Rattle.nfs_inodes.specs.Listing.{listed_entry}
use Rattle.nfs_inodes.proofs.gather.read_objects.Given as goal

abbrev pub invariant-loop-entry : goal.invariant-loop-entry
invariant-loop-entry l = Gathers l.draft (map listed_entry (take l.entry-index l.entries)) l.wishes
