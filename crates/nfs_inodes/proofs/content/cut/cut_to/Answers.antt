use Rattle.std.proofs.Common.{ap, arith, ◌∙◌}
use Rattle.nfs_objects.specs.declared.bits.Bits.{Bits}
use Rattle.nfs_inodes.proofs.CutFileLemmas.{larger, sized, sized-so}
use Rattle.nfs_inodes.proofs.content.cut.cut_to.Goals as goal

pub returns-in_ok-new : goal.returns-in_ok-new
returns-in_ok-new c =
    let d = c.args.draft.now in
    let map = c.args.map.now in
    sized-so d d c.args.number map c.args.size map.pages map.remains c.with_remains.result
    (c.with_remains.ensures
    ∙ (λ p. record (c.in_ok-new.ensures.value p) { remains = c.remains.ensures p })
    ∙ ap (λ (b : Bits). sized c.args.size b map.remains) c.pages.ensures)
    (larger d c.args.number map c.args.size (omega arith) c.requires.pages)
