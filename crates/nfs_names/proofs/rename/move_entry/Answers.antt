use Rattle.std.proofs.Common.{refl, sym, ◌∙◌}
use Rattle.std.proofs.lemmas.Result.{err_from_is_err_and}
use Rattle.nfs_machine.proofs.MapChangeLemmas.{flipped}
use Rattle.nfs_objects.proofs.PromiseLemmas.{turned-change, turns-none}
use Rattle.nfs_objects.specs.Calls.{added_at}
use Rattle.nfs_objects.specs.declared.address.Addr.TheVariants as addresses
use Rattle.nfs_inodes.proofs.UsageChangeLemmas.{stands-first, stands-on}
use Rattle.nfs_inodes.proofs.ReaderHaltLemmas.{any-stops, lives-stops}
use Rattle.nfs_names.proofs.NameGrowsLemmas.{giving-stops}
use Rattle.nfs_names.proofs.RenameLemmas.{moves-one, moves-two}
use Rattle.nfs_names.proofs.rename.move_entry.Goals as goal

pub returns-then-is_one_directory : goal.returns-then-is_one_directory
returns-then-is_one_directory c =
    let d = c.args.draft.now in
    let a = c.args.arguments.now in
    let to = c.args.renaming.now.to.known in
    moves-one d c.give_name.new.draft a c.args.renaming.now c.args.cookie c.give_name.result (added_at d.view a.to)
    _ _ _ c.as_slice-old_name.ensures c.as_slice-new_name.ensures c.links_given-links.ensures
    (sym c.if-is_one_directory.ensures)
    (λ halt stops. giving-stops d d (λ k. k) a.to to.number to.attributes.kind c.args.cookie halt (turns-none d)
    c.requires.none c.requires.shown.1 refl c.requires.target c.requires.next c.requires.to stops)
    c.give_name.ensures

pub returns-in_err-leave : goal.returns-in_err-leave
returns-in_err-leave c =
    let p = err_from_is_err_and c.from_residual.result c.from_residual.ensures.1 in
    rw (p.1, p.2)
    (any-stops c.args.draft.now (added_at c.args.draft.now.view c.args.arguments.now.to) _
    (lives-stops c.args.draft.now c.args.renaming.now.from.known.number _ c.requires.from
    c.in_err-leave.ensures.turns))

pub give_name-requires-2-clause-alone : goal.give_name-requires-2-clause-alone
give_name-requires-2-clause-alone c =
    turned-change c.args.draft.now c.leave.new.draft _ c.in_ok-leave.ensures.turns
    (addresses.Inode c.args.renaming.now.to.known.number) c.requires.alone.to

pub returns : goal.returns
returns c =
    let d = c.args.draft.now in
    let a = c.args.arguments.now in
    let to = c.args.renaming.now.to.known in
    let from = c.args.renaming.now.from.known in
    moves-two d c.give_name-2.new.draft a c.args.renaming.now c.args.cookie c.give_name-2.result
    (added_at d.view a.to) c.leave.new.draft _ _ c.as_slice-new_name.ensures c.links_given-links.ensures
    (sym c.if-is_one_directory.ensures)
    (λ halt stops. giving-stops d c.leave.new.draft _ a.to to.number to.attributes.kind c.args.cookie halt
    c.in_ok-leave.ensures.turns c.requires.none c.requires.shown.1
    (c.in_ok-leave.ensures.others to.number (flipped to.number from.number (sym c.if-is_one_directory.ensures)))
    c.requires.target c.requires.next c.requires.to stops)
    (rw (c.as_slice-old_name.ensures, c.links_left.ensures) at c.in_ok-leave.ensures.turns)
    c.give_name-2.ensures

pub give_name-requires-clause-stands : goal.give_name-requires-clause-stands
give_name-requires-clause-stands c = stands-first c.args.draft.now c.requires.none

pub leave-requires-clause-stands : goal.leave-requires-clause-stands
leave-requires-clause-stands c = stands-first c.args.draft.now c.requires.none

pub give_name-requires-2-clause-stands : goal.give_name-requires-2-clause-stands
give_name-requires-2-clause-stands c =
    stands-on c.args.draft.now c.leave.new.draft _ c.in_ok-leave.ensures.turns
    (stands-first c.args.draft.now c.requires.none)

pub give_name-requires-clause-shown : goal.give_name-requires-clause-shown
give_name-requires-clause-shown c = c.requires.shown.1

pub leave-requires-clause-shown : goal.leave-requires-clause-shown
leave-requires-clause-shown c = c.requires.shown.0

pub give_name-requires-2-clause-shown : goal.give_name-requires-2-clause-shown
give_name-requires-2-clause-shown c =
    c.in_ok-leave.ensures.kinds c.args.renaming.now.to.known.number ∙ c.requires.shown.1
