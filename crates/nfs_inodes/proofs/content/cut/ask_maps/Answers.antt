use Rattle.std.proofs.Common.{[], refl, subst}
use Rattle.nfs_inodes.proofs.CutFileLemmas.{page-there}
use Rattle.nfs_inodes.proofs.WishesLemmas.{asked-result, asking-all, known-all}
use Rattle.nfs_inodes.specs.Asking.{AsksFor}
use Rattle.nfs_inodes.specs.Cuts.{IsPageIn, KnowsMaps}
use Rattle.nfs_inodes.proofs.content.cut.ask_maps.Goals as goal
use Rattle.nfs_objects.specs.declared.address.Addr.TheVariants as addresses

pub returns : goal.returns
returns c =
    let d = c.args.draft.now in
    let n = c.args.number in
    let pages = c.args.pages in
    let first = c.args.first in
    let end = c.args.end in
    let asked = c.add_maps.new.asking.asked.items in
    let asks = subst (λ l. AsksFor d (IsPageIn n pages first end) (IsPageIn n pages first end) l asked)
    c.new-asking.ensures c.in_ok-add_maps.ensures in
    asked-result d [] asked (KnowsMaps d n pages first end) c.ask.result c.ask.ensures.nothing c.ask.ensures.stops
    (asking-all d (IsPageIn n pages first end) (IsPageIn n pages first end) asked asks []
    (page-there d n pages first end c.requires.pages c.requires.stands))
    (λ none p behind before there.
    known-all d (IsPageIn n pages first end) (IsPageIn n pages first end) asked asks none (addresses.Map n p)
    (record { page = p; behind = behind; before = before; there = there; is = refl }))
