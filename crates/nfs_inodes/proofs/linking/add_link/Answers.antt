use Rattle.std.proofs.Common.{refl, ◌∙◌, ◌++◌}
use Rattle.std.proofs.lemmas.Result.{err_from_is_err_and}
use Rattle.nfs_machine.specs.Times.{time_of}
use Rattle.nfs_objects.proofs.KnowsLemmas.{among-behind, covers-among}
use Rattle.nfs_objects.specs.Calls.{addresses_of}
use Rattle.nfs_inodes.proofs.MakerChainLemmas.{turned-within}
use Rattle.nfs_inodes.proofs.UsageChangeLemmas.{stands-first}
use Rattle.nfs_inodes.proofs.WriteAsksLemmas.{front-stops}
use Rattle.nfs_inodes.specs.Entered.{grown_at}
use Rattle.nfs_inodes.specs.Links.{link_gained, linked_so}
use Rattle.nfs_inodes.specs.Makes.{name_added}
use Rattle.nfs_inodes.proofs.linking.add_link.Goals as goal

pub returns-in_err-add_entry : goal.returns-in_err-add_entry
returns-in_err-add_entry c =
    let p = err_from_is_err_and c.from_residual.result c.from_residual.ensures.1 in
    rw (p.1, p.2) (front-stops c.args.draft.now
    (grown_at c.args.draft.now c.args.directory.now.known.number c.args.name.now c.args.cookie)
    (addresses_of c.args.draft.now.view c.args.number) _ c.in_err-add_entry.ensures.turns)

pub add_entry-requires-clause-stands : goal.add_entry-requires-clause-stands
add_entry-requires-clause-stands c = stands-first c.args.draft.now c.requires.none

pub set_links-requires : goal.set_links-requires
set_links-requires c = c.in_ok-add_entry.ensures.turns.modes ∙ c.requires.alone

pub returns : goal.returns
returns c =
    let d = c.args.draft.now in
    let now = time_of d.ctx.moment in
    let place = c.args.directory.now.known.number in
    let kept = c.args.directory.now.known.attributes.links in
    let grown = grown_at d place c.args.name.now c.args.cookie in
    turned-within d c.add_entry.new.draft
    (name_added now place kept (record { name = c.args.name.now; number = c.args.number; cookie = c.args.cookie }))
    c.in_ok-add_entry.ensures.turns
    (λ t. linked_so t c.args.number c.args.links) c.set_links.new.draft
    (link_gained now place kept (record { name = c.args.name.now; number = c.args.number; cookie = c.args.cookie })
    c.args.links)
    (λ k. refl) c.set_links.result (λ v. addresses_of v c.args.number)
    (grown ++ addresses_of d.view c.args.number)
    (covers-among (addresses_of d.view c.args.number) (grown ++ addresses_of d.view c.args.number) d.view
    (among-behind grown (addresses_of d.view c.args.number))) c.set_links.ensures
