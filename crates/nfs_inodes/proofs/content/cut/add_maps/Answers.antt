use Rattle.std.proofs.Common.{arith, sym}
use Rattle.nfs_inodes.proofs.CutFileLemmas.{pages-end, pages-more, pages-skip}
use Rattle.nfs_inodes.proofs.content.cut.add_maps.Goals as goal
use Rattle.nfs_inodes.proofs.content.cut.add_maps.Goals.{then-has+in_ok-add, else-has}

pub loop-page-preserved : goal.loop-page-preserved
loop-page-preserved c = (
  elim c.if-has.branch [
    | then-has+in_ok-add w ↦
        rw w.asking-is (pages-more c.args.draft.now c.args.number c.args.pages c.args.first
        c.args.asking.now.asked.items c.loop-page.asking.asked.items c.loop-page.page w.add.new.self.asked.items
        c.loop-page.auto.page (sym w.if-has.ensures) w.in_ok-add.ensures.ok c.loop-page.invariant.0)
    | else-has w ↦
        rw w.asking-is (pages-skip c.args.draft.now c.args.number c.args.pages c.args.first
        c.args.asking.now.asked.items c.loop-page.asking.asked.items c.loop-page.page (sym w.if-has.ensures)
        c.loop-page.invariant.0)
  ],
  omega arith,
)

pub returns : goal.returns
returns c =
    pages-end c.args.draft.now c.args.number c.args.pages c.args.first c.args.asking.now.asked.items
    c.loop-page.asking.asked.items c.loop-page.page c.args.end c.loop-page.invariant.1 c.loop-page-test.false
    c.loop-page.invariant.0
