use Rattle.std.proofs.Common.{arith, sym, inl, inr}
use Rattle.nfs_inodes.proofs.CutFileLemmas.{told-all, told-more, told-skip}
use Rattle.nfs_inodes.proofs.content.cut.ask_page.Goals as goal
use Rattle.nfs_inodes.proofs.content.cut.ask_page.Goals.{then-has+then-index-from+in_ok-add, else-has}
use Rattle.nfs_inodes.proofs.content.cut.ask_page.Goals.{else-has-via-then-has+else-index-from, else-has-via-else-has}

pub loop-place-preserved : goal.loop-place-preserved
loop-place-preserved c = elim c.if-has.branch [
  | then-has+then-index-from+in_ok-add w ↦
      rw w.asking-is (told-more c.args.draft.now c.args.number c.args.page c.args.bits c.args.from
      c.args.asking.now.asked.items c.loop-place.asking.asked.items c.loop-place.place w.add.new.self.asked.items
      (sym w.if-has.ensures) w.if-index-from.true w.in_ok-add.ensures.ok c.loop-place.invariant)
  | else-has w ↦
      rw w.asking-is (told-skip c.args.draft.now c.args.number c.args.page c.args.bits c.args.from
      c.args.asking.now.asked.items c.loop-place.asking.asked.items c.loop-place.place
      (elim w.else-has.branch [
        | else-has-via-then-has+else-index-from v ↦ inr v.if-index-from.false
        | else-has-via-else-has v ↦ inl (sym v.if-has.ensures)
      ]) c.loop-place.invariant)
]

pub returns : goal.returns
returns c =
    told-all c.args.draft.now c.args.number c.args.page c.args.bits c.args.from c.args.asking.now.asked.items
    c.loop-place.asking.asked.items c.loop-place.place
    (omega (arith, c.end-place-end.ensures.small, c.loop-place.auto.place-end))
    (λ n there. (let e = c.end-place-end.ensures.end.above n there in omega (arith, e, c.loop-place-test.false)))
    c.loop-place.invariant
