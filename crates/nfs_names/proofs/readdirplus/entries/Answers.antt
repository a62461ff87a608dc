use Rattle.std.proofs.Common.{◌++◌, ◌∷◌, [], map, take, sym, ◌∙◌, ap}
use Rattle.std.proofs.lemmas.List.{map-append}
use Rattle.nfs_machine.specs.PageSteps.{full_entry}
use Rattle.nfs_machine.specs.State.{Entry}
use Rattle.nfs_objects.specs.Asks.{IsThere}
use Rattle.nfs_objects.specs.declared.address.Addr.TheVariants as addresses
use Rattle.nfs_inodes.proofs.ListFrontLemmas.{each-mapped, map-more}
use Rattle.nfs_inodes.specs.Listing.{listed_entry}
use Rattle.nfs_names.proofs.readdirplus.entries.Goals as goal

pub full_entry-requires : goal.full_entry-requires
full_entry-requires c =
    each-mapped listed_entry (λ (e : Entry). IsThere c.args.draft.now.view (addresses.Inode e.number)) c.args.list.now
    c.loop-entry.entry-index c.entry-item.result c.requires.lives c.loop-entry-test.true c.entry-item.is

pub loop-entry-preserved : goal.loop-entry-preserved
loop-entry-preserved c = λ s k p.
    let at = c.loop-entry.entry-index in
    let front = map listed_entry (take at c.args.list.now) in
    let e = c.entry-item.result in
    let show = full_entry k.state c.args.draft.now.ctx in
    ap (map show) (map-more listed_entry c.args.list.now at e c.loop-entry-test.true c.entry-item.is)
    ∙ map-append show front (listed_entry e ∷ [])
    ∙ ap (λ x. map show front ++ x ∷ []) (c.in_ok-full_entry.ensures s k p)
    ∙ ap (λ es. es ++ c.in_ok-full_entry.field-0 ∷ []) (c.loop-entry.invariant s k p)
    ∙ sym c.in_ok-push.ensures.items
