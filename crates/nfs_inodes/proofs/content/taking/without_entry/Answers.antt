use Rattle.std.proofs.Common.{[], Some, None, refl, subst}
use Rattle.std.proofs.lemmas.Result.{err_from_is_err_and}
use Rattle.nfs_objects.specs.Directories.{IsPlace}
use Rattle.nfs_inodes.proofs.EntryMoreLemmas.{left}
use Rattle.nfs_inodes.proofs.LeafLemmas.{gone-absent, leaf-stands}
use Rattle.nfs_inodes.proofs.StillKnownLemmas.{lives-still}
use Rattle.nfs_inodes.proofs.TakenNameAsksLemmas.{taken-asking}
use Rattle.nfs_inodes.specs.Entered.{AsksToTake, ShowsLeaf}
use Rattle.nfs_inodes.proofs.content.taking.without_entry.Goals as goal

pub returns-in_default-clause-lists : goal.returns-in_default-clause-lists
returns-in_default-clause-lists c =
    gone-absent c.args.draft.now c.args.number c.args.map.now c.in_ok-clone.field-0 c.args.name.now
    c.in_ok-clone.ensures.cases
    (record {
      place = None;
      is = subst (IsPlace c.args.map.now c.args.name.now) c.in_default.is c.place_of.ensures;
      leads = refl;
    })

pub returns-in_default-2-clause-lists : goal.returns-in_default-2-clause-lists
returns-in_default-2-clause-lists c =
    gone-absent c.args.draft.now c.args.number c.args.map.now c.in_ok-clone-2.field-0 c.args.name.now
    c.in_ok-clone-2.ensures.cases
    (subst (ShowsLeaf c.args.draft.now c.args.number c.args.map.now c.args.name.now) c.in_default-2.is
    c.in_ok-leaf.ensures)

pub returns-in_err-ask-clause-lists : goal.returns-in_err-ask-clause-lists
returns-in_err-ask-clause-lists c =
    let p = err_from_is_err_and c.from_residual-in_err-ask.result c.from_residual-in_err-ask.ensures.1 in
    let asked = c.ask_taken.new.asking.asked.items in
    rw (p.1, p.2) (c.in_err-ask.ensures.stops c.args.draft.now []
    (taken-asking c.args.draft.now c.args.number c.args.map.now asked c.requires.lives
    (subst (λ old. AsksToTake c.args.draft.now c.args.number c.args.map.now old asked) c.new-asking.ensures
    c.in_ok-ask_taken.ensures)))

pub take_from_part-requires-clause-lives : goal.take_from_part-requires-clause-lives
take_from_part-requires-clause-lives c =
    let loses = c.in_ok-pages.ensures in
    lives-still c.args.draft.now c.take_from_page.new.draft c.args.number c.args.map.now loses.enters loses.knows
    c.requires.lives

pub returns-clause-lists : goal.returns-clause-lists
returns-clause-lists c =
    let d = c.args.draft.now in
    let n = c.args.number in
    let map = c.args.map.now in
    let name = c.args.name.now in
    left d c.take_from_page.new.draft c.take_from_part.new.draft n map c.in_ok-pages.pages c.in_ok-counts.counts name
    c.in-Some-2.leaf
    (λ s es fits has. leaf-stands d s n map es fits has name (Some c.in-Some-2.leaf)
    (subst (ShowsLeaf d n map name) c.in-Some-2.is c.in_ok-leaf.ensures))
    c.in_ok-pages.ensures c.in_ok-counts.ensures
