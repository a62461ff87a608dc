use Rattle.std.proofs.Common.{map}
use Rattle.nfs_objects.proofs.PagePartAddressLemmas.{IsNextListed, left_from}
use Rattle.nfs_inodes.proofs.EntriesLeftLemmas.{IsGathered}
use Rattle.nfs_inodes.specs.Listing.{listed_entry}
use Rattle.nfs_inodes.proofs.content.listing.entries_left.Given as goal

-- what lies before the next page is there
abbrev pub invariant-pages : goal.invariant-pages
invariant-pages l = record {
  next : IsNextListed l.pages l.next;
  gathered : IsGathered l.draft l.number l.header.parent l.cookie l.next (map listed_entry l.left.items);
}

abbrev pub decreases-pages : goal.decreases-pages
decreases-pages l = left_from l.next
