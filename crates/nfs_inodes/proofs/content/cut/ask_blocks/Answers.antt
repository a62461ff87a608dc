use Rattle.std.proofs.Common.{◌<◌, ◌≤◌, ℕ, [], arith}
use Rattle.nfs_inodes.proofs.CutFileLemmas.{in-end, in-more, told-there}
use Rattle.nfs_inodes.proofs.WishesLemmas.{asked-result, asking-all, known-all}
use Rattle.nfs_inodes.specs.Cuts.{IsToldIn, KnowsTold, told_at}
use Rattle.nfs_inodes.proofs.content.cut.ask_blocks.Goals as goal

pub loop-page-preserved : goal.loop-page-preserved
loop-page-preserved c = (
  in-more c.args.draft.now c.args.number c.args.first c.args.maps.now c.args.from c.loop-page.page
      c.loop-page.asking.asked.items c.ask_page.new.asking.asked.items c.loop-page.auto.page c.loop-page.invariant.0
      c.in_ok-ask_page.ensures,
  omega arith,
)

pub returns : goal.returns
returns c =
    let d = c.args.draft.now in
    let n = c.args.number in
    let first = c.args.first in
    let maps = c.args.maps.now in
    let from = c.args.from in
    let end = c.args.end in
    let asked = c.loop-page.asking.asked.items in
    let asks = in-end d n first maps from c.loop-page.page end asked c.loop-page.invariant.1 c.loop-page-test.false
    c.loop-page.invariant.0 in
    asked-result d [] asked ((page : ℕ) → first ≤ page → page < end → KnowsTold d n page (told_at maps first page) from)
    c.ask.result c.ask.ensures.nothing c.ask.ensures.stops
    (asking-all d (IsToldIn n first maps from end) (IsToldIn n first maps from end) asked asks []
    (told-there d n first end maps from c.requires.maps c.requires.stands))
    (λ none page behind before a told.
    known-all d (IsToldIn n first maps from end) (IsToldIn n first maps from end) asked asks none a
    (record { page = page; behind = behind; before = before; told = told }))
