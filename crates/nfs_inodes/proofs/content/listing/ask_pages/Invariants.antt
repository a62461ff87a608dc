use Rattle.std.proofs.Common.{[]}
use Rattle.nfs_objects.proofs.PagePartAddressLemmas.{IsNextListed}
use Rattle.nfs_inodes.proofs.PageAsksLemmas.{IsPageBefore, Nothing}
use Rattle.nfs_inodes.specs.Asking.{AsksFor}
use Rattle.nfs_inodes.proofs.content.listing.ask_pages.Given as goal

-- no page behind the next one is asked for so far
abbrev pub invariant-loop-asked : goal.invariant-loop-asked
invariant-loop-asked l = record {
  next : IsNextListed l.pages l.next;
  asks : AsksFor l.draft (IsPageBefore l.draft l.number l.pages l.next) Nothing [] l.asking.asked.items;
}
