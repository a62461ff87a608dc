use Rattle.std.proofs.Common.{◌≡◌, ◌++◌, true, length, map}
use Rattle.nfs_inodes.specs.Listing.{listed_entry}
use Rattle.nfs_names.specs.Pages.{fit_of, sizes_of}
use Rattle.nfs_names.proofs.page.longest_page.Given as goal

abbrev pub invariant-loop-entry : goal.invariant-loop-entry
invariant-loop-entry l = record {
  sized : l.sizes ≡ sizes_of l.budget (map listed_entry l.entries.items);
  fits : fit_of l.budget (map listed_entry l.entries.items) ≡ true;
  whole : l.initial.left ≡ map listed_entry l.entries.items ++ l.left;
}

abbrev pub decreases-loop-entry : goal.decreases-loop-entry
decreases-loop-entry l = length l.left
