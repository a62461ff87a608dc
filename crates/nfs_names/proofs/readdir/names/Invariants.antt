use Rattle.std.proofs.Common.{◌≡◌, map, take}
use Rattle.nfs_machine.specs.PageSteps.{page_entry}
use Rattle.nfs_inodes.specs.Listing.{listed_entry}
use Rattle.nfs_names.proofs.readdir.names.Given as goal

abbrev pub invariant-loop-entry : goal.invariant-loop-entry
invariant-loop-entry l = l.names.items ≡ map page_entry (map listed_entry (take l.entry-index l.entries))
