use Rattle.std.proofs.Common.{◌≡◌, ◌/◌, ◌∷◌, ◌++◌, [], List, None, inl, inr, subst}
use Rattle.std.proofs.lemmas.Result.{err_from_is_err_and}
use Rattle.nfs_machine.specs.Checks.{entry_of}
use Rattle.nfs_machine.specs.State.{Entry}
use Rattle.nfs_objects.proofs.OtherObjectsLemmas.{enters-none}
use Rattle.nfs_objects.specs.Calls.{places_for}
use Rattle.nfs_objects.specs.Directories.{bucket_of, width_in}
use Rattle.nfs_objects.specs.Entries.{entry}
use Rattle.nfs_objects.specs.Unfiled.{Relists}
use Rattle.nfs_objects.specs.declared.address.Addr.TheVariants as addresses
use Rattle.nfs_inodes.proofs.AddEntryLemmas.{added-asking}
use Rattle.nfs_inodes.proofs.EntryMoreLemmas.{entered}
use Rattle.nfs_inodes.proofs.AsksAfterWritesLemmas.{lacked-more, lacked-stops-back}
use Rattle.nfs_inodes.proofs.StillKnownLemmas.{knows-none}
use Rattle.nfs_inodes.specs.Entered.{AsksToAdd, lacked_of}
use Rattle.nfs_inodes.specs.Stops.{StopsAt}
use Rattle.nfs_inodes.proofs.content.adding.with_entry.Goals as goal

pub returns-in_err-ask-clause-lists : goal.returns-in_err-ask-clause-lists
returns-in_err-ask-clause-lists c =
    let d = c.args.draft.now in
    let m = c.args.map.now in
    let name = c.args.name.now in
    let cookie = c.args.leaf.cookie in
    let asks = subst (λ asked. AsksToAdd d c.args.number m name cookie asked c.ask_added.new.asking.asked.items)
    c.new-asking.ensures c.in_ok-ask_added.ensures in
    let p = err_from_is_err_and c.from_residual-in_err-ask.result c.from_residual-in_err-ask.ensures.1 in
    rw (p.1, p.2) (c.in_err-ask.ensures.stops d (lacked_of d (places_for m c.args.number name cookie))
    (added-asking d c.args.number m name cookie c.ask_added.new.asking.asked.items c.requires.lives asks))

pub returns-in_err-pages-clause-lists : goal.returns-in_err-pages-clause-lists
returns-in_err-pages-clause-lists c =
    let d = c.args.draft.now in
    let few = addresses.Page c.args.number (c.args.leaf.cookie / 64) ∷ [] in
    let places = places_for c.args.map.now c.args.number c.args.name.now c.args.leaf.cookie in
    let p = err_from_is_err_and c.from_residual-in_err-pages.result c.from_residual-in_err-pages.ensures.1 in
    rw (p.1, p.2) (lacked-stops-back c.args.number d d few (lacked_of d places) c.in_err-pages.field-0.0
    (enters-none c.args.number d) (knows-none d)
    (lacked-more d few places (λ a among. elim among [ inl same ↦ inl same | inr none ↦ absurd none ]))
    c.in_err-pages.ensures)

pub returns-in_err-counts-clause-lists : goal.returns-in_err-counts-clause-lists
returns-in_err-counts-clause-lists c =
    let d = c.args.draft.now in
    let counts = c.args.map.now.counts in
    let name = c.args.name.now in
    let few = addresses.Part c.args.number (bucket_of name) (width_in counts (bucket_of name)) ∷ [] in
    let places = places_for c.args.map.now c.args.number name c.args.leaf.cookie in
    let mid = c.add_to_page.new.draft in
    let gains = c.in_ok-pages.ensures in
    let stops = subst (λ x. StopsAt mid (lacked_of mid
    (addresses.Part c.args.number (bucket_of x) (width_in counts (bucket_of x)) ∷ [])) c.in_err-counts.field-0.0)
    c.in_ok-name.ensures c.in_err-counts.ensures in
    let p = err_from_is_err_and c.from_residual-in_err-counts.result c.from_residual-in_err-counts.ensures.1 in
    rw (p.1, p.2) (lacked-stops-back c.args.number d mid few (lacked_of d places) c.in_err-counts.field-0.0 gains.enters
    gains.knows (lacked-more d few places (λ a among. inr among)) stops)

pub returns-clause-lists : goal.returns-clause-lists
returns-clause-lists c =
    let d = c.args.draft.now in
    let m = c.args.map.now in
    let new = c.add_to_part.new.draft in
    let pages = c.in_ok-pages.pages in
    let counts = c.in_ok-counts.counts in
    subst (λ (x : List _). Relists c.args.number d new m (record { key = m.key; pages = pages; counts = counts })
    (λ (es : List Entry). es ++ entry x c.args.leaf ∷ []) (λ es. entry_of es x ≡ None)) c.in_ok-name.ensures
    (entered d c.add_to_page.new.draft new c.args.number m pages counts (entry c.in_ok-name.name c.args.leaf)
    c.in_ok-pages.ensures c.in_ok-counts.ensures)
