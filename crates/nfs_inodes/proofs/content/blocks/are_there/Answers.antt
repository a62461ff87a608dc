use Rattle.std.proofs.Common.{◌≡◌, ◌==◌, true, false, arith, refl, sym, subst}
use Rattle.std.specs.Cmp.{unsigned_Decides}
use Rattle.nfs_inodes.proofs.ReadBlocksLemmas.{block-there}
use Rattle.nfs_inodes.proofs.WishesLemmas.{differs}
use Rattle.nfs_inodes.specs.Blocks.{HasBlock}
use Rattle.nfs_inodes.proofs.content.blocks.are_there.Goals as goal

pub loop-index-preserved : goal.loop-index-preserved
loop-index-preserved c = λ i from before.
    elim (i == c.loop-index.index) as (λ b. (i == c.loop-index.index) ≡ b → HasBlock c.args.draft.now c.args.number i) [
      | true ↦ λ same. subst (HasBlock c.args.draft.now c.args.number)
          (sym ((unsigned_Decides i c.loop-index.index).0 same))
          (block-there c.args.draft.now c.args.number c.loop-index.index c.in_ok-block.field-0 c.in_ok-block.ensures
          c.if-is_none.ensures)
      | false ↦ λ other. c.loop-index.invariant i from
          (let apart = differs i c.loop-index.index other in omega (arith, before, apart))
    ] refl
