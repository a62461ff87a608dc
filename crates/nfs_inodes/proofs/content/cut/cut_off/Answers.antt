use Rattle.std.proofs.Common.{◌-◌, ◌<◌, ◌/◌, length, sym, subst, arith}
use Rattle.std.proofs.lemmas.List.{get_or_read}
use Rattle.nfs_inodes.proofs.CutFileLemmas.{blank, cut-end, cut-skip, cut-start, cut-step, told-known}
use Rattle.nfs_inodes.specs.Cuts.{KnowsTold, ShowsMap, told_at}
use Rattle.nfs_inodes.proofs.content.cut.cut_off.Goals as goal
use Rattle.nfs_inodes.proofs.content.cut.cut_off.Goals.{then-has+in_ok-left, else-has}

pub loop-page-init : goal.loop-page-init
loop-page-init c =
    cut-start c.args.draft.now c.args.number c.args.pages c.args.size c.requires.pages c.below-left.result
    c.below-left.ensures

pub cut_next-requires-clause-told : goal.cut_next-requires-clause-told
cut_next-requires-clause-told c =
    let first = c.args.size / 4096 / 512 in
    let page = c.loop-page.page in
    let maps = c.in_ok-maps.maps.items in
    let counted = c.in_ok-maps.ensures.shows.counted in
    let within : page - first < length maps = omega (arith, counted, c.loop-page.auto.page, c.loop-page-test.true) in
    let at = get_or_read maps (page - first) c.index.result.now within c.index.ensures blank in
    subst (λ bits. KnowsTold c.loop-page.draft c.args.number page bits (c.args.size / 4096)) (sym at)
    (told-known c.args.draft.now c.loop-page.draft c.args.number c.args.size page c.loop-page.left
    (told_at maps first page)
    c.loop-page.invariant
    (subst (λ l. KnowsTold c.args.draft.now c.args.number page (told_at l first page) (c.args.size / 4096))
    c.deref.ensures.value (c.in_ok-ask_blocks.ensures page c.loop-page.auto.page c.loop-page-test.true)))

pub loop-page-preserved : goal.loop-page-preserved
loop-page-preserved c =
    let first = c.args.size / 4096 / 512 in
    let page = c.loop-page.page in
    let maps = c.in_ok-maps.maps.items in
    let counted = c.in_ok-maps.ensures.shows.counted in
    let within : page - first < length maps = omega (arith, counted, c.loop-page.auto.page, c.loop-page-test.true) in
    elim c.if-has.branch [
      | then-has+in_ok-left w ↦
          let at = get_or_read maps (page - first) w.index.result.now within w.index.ensures blank in
          rw (w.draft-is, w.left-is) (cut-step c.args.draft.now c.args.number c.args.pages c.args.size c.requires.pages
          c.loop-page.draft page c.loop-page.left c.loop-page.invariant w.cut_next.new.draft w.index.result.now _
          (subst (ShowsMap c.args.draft.now c.args.number page) (sym at)
          (c.in_ok-maps.ensures.shows.each page c.loop-page.auto.page c.loop-page-test.true)) w.in_ok-left.ensures)
      | else-has w ↦
          rw (w.draft-is, w.left-is) (cut-skip c.args.draft.now c.args.number c.args.pages c.args.size c.requires.pages
          c.loop-page.draft page c.loop-page.left c.loop-page.invariant (sym w.if-has.ensures))
    ]

pub returns : goal.returns
returns c =
    cut-end c.args.draft.now c.args.number c.args.pages c.args.size c.requires.pages c.loop-page.draft c.loop-page.page
    c.loop-page.left c.loop-page.invariant c.loop-page.auto.page (λ n there.
    (let e = c.end-end.ensures.end.above n there in omega (arith, e, c.loop-page-test.false)))
