use Rattle.std.proofs.Common.{arith, inl, inr, sym}
use Rattle.nfs_inodes.proofs.CutFileLemmas.{cuts-all, cuts-next, cuts-skip}
use Rattle.nfs_inodes.proofs.content.cut.cut_blocks.Goals as goal
use Rattle.nfs_inodes.proofs.content.cut.cut_blocks.Goals.{then-has+then-index-size+in_ok-cut_block, else-has}
use Rattle.nfs_inodes.proofs.content.cut.cut_blocks.Goals.{else-has-via-then-has+else-index-size}
use Rattle.nfs_inodes.proofs.content.cut.cut_blocks.Goals.{else-has-via-else-has}

pub loop-place-preserved : goal.loop-place-preserved
loop-place-preserved c = elim c.if-has.branch [
  | then-has+then-index-size+in_ok-cut_block w ↦
      rw w.draft-is (cuts-next c.args.draft.now c.args.number c.args.page c.args.bits c.args.size c.loop-place.draft
      c.loop-place.place c.loop-place.invariant w.cut_block.new.draft w.saturating_sub.result (sym w.if-has.ensures)
      w.if-index-size.true w.saturating_sub.ensures w.in_ok-cut_block.ensures)
  | else-has w ↦
      rw w.draft-is (cuts-skip c.args.draft.now c.args.number c.args.page c.args.bits c.args.size c.loop-place.draft
      c.loop-place.place c.loop-place.invariant (elim w.else-has.branch [
        | else-has-via-then-has+else-index-size v ↦ inr v.if-index-size.false
        | else-has-via-else-has v ↦ inl (sym v.if-has.ensures)
      ]))
]

pub returns : goal.returns
returns c =
    cuts-all c.args.draft.now c.args.number c.args.page c.args.bits c.args.size c.loop-place.draft c.loop-place.place
    c.loop-place.invariant (omega (arith, c.end-place-end.ensures.small, c.loop-place.auto.place-end))
    (λ n there. (let e = c.end-place-end.ensures.end.above n there in omega (arith, e, c.loop-place-test.false)))
