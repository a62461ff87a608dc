use Rattle.nfs_objects.proofs.PagePartAddressLemmas.{IsNextListed, is_page_before, left_from}
use Rattle.nfs_objects.proofs.entry_map.push_pages.Given as goal
use Rattle.nfs_objects.specs.Directories.{HasBesides}

-- the pages before the next one are there
abbrev pub invariant-pages : goal.invariant-pages
invariant-pages l = record {
  next : IsNextListed l.pages l.next;
  pages : HasBesides (is_page_before l.pages l.directory l.next) l.fn.addresses.items l.addresses.items;
}

abbrev pub decreases-pages : goal.decreases-pages
decreases-pages l = left_from l.next
