use Rattle.std.proofs.Common.{map, take, refl, sym, subst}
use Rattle.nfs_machine.specs.State.{Entry}
use Rattle.nfs_objects.specs.Asks.{IsThere}
use Rattle.nfs_objects.specs.declared.address.Addr.TheVariants as addresses
use Rattle.nfs_inodes.proofs.ListFrontLemmas.{each-mapped, map-more}
use Rattle.nfs_inodes.specs.Gathers.{Gathers}
use Rattle.nfs_inodes.specs.Listing.{listed_entry}
use Rattle.nfs_inodes.proofs.gather.read_objects.Goals as goal

pub loop-entry-init : goal.loop-entry-init
loop-entry-init c = c.new-wishes.ensures c.args.draft.now

pub add-requires : goal.add-requires
add-requires c =
    each-mapped listed_entry (λ (e : Entry). IsThere c.args.draft.now.view (addresses.Inode e.number))
    c.args.entries.now
    c.loop-entry.entry-index c.entry-item.result c.requires c.loop-entry-test.true c.entry-item.is

pub loop-entry-preserved : goal.loop-entry-preserved
loop-entry-preserved c =
    subst (λ es. Gathers c.args.draft.now es c.add.new.self)
    (sym (map-more listed_entry c.args.entries.now c.loop-entry.entry-index c.entry-item.result c.loop-entry-test.true
    c.entry-item.is))
    (c.in_ok-add.ensures (map listed_entry (take c.loop-entry.entry-index c.args.entries.now))
    (listed_entry c.entry-item.result) refl c.loop-entry.invariant)
