use Rattle.std.proofs.Common.{◌++◌, ◌∷◌, [], map, take, sym, ◌∙◌, ap}
use Rattle.std.proofs.lemmas.List.{map-append}
use Rattle.nfs_machine.specs.PageSteps.{page_entry}
use Rattle.nfs_inodes.proofs.ListFrontLemmas.{map-more}
use Rattle.nfs_inodes.specs.Listing.{listed_entry}
use Rattle.nfs_names.proofs.readdir.names.Goals as goal

pub loop-entry-preserved : goal.loop-entry-preserved
loop-entry-preserved c =
    let at = c.loop-entry.entry-index in
    let front = map listed_entry (take at c.args.entries.now) in
    let e = c.entry-item.result in
    c.in_ok-push.ensures.items ∙ ap (λ es. es ++ c.in_ok-page_entry.field-0 ∷ []) c.loop-entry.invariant
    ∙ ap (λ x. map page_entry front ++ x ∷ []) c.in_ok-page_entry.ensures
    ∙ sym (map-append page_entry front (listed_entry e ∷ []))
    ∙ ap (map page_entry) (sym (map-more listed_entry c.args.entries.now at e c.loop-entry-test.true c.entry-item.is))
