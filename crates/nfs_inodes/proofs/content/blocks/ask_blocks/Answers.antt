use Rattle.std.proofs.Common.{arith}
use Rattle.nfs_inodes.proofs.WishesLemmas.{each-more, each-none}
use Rattle.nfs_inodes.specs.Blocks.{first_of}
use Rattle.nfs_inodes.proofs.content.blocks.ask_blocks.Goals as goal

pub loop-index-init : goal.loop-index-init
loop-index-init c =
    each-none c.args.draft.now c.args.file (first_of c.args.range.offset) c.args.asking.now.asked.items
    c.args.asking.now.asked.items c.first-index.result (omega (arith, c.first-index.ensures))

pub loop-index-preserved : goal.loop-index-preserved
loop-index-preserved c =
    each-more c.args.draft.now c.args.file (first_of c.args.range.offset)
    c.args.asking.now.asked.items c.loop-index.asking.asked.items c.loop-index.index c.block_at.result
    c.add.new.self.asked.items (omega (arith, c.first-index.ensures, c.loop-index.auto.index)) c.block_at.ensures
    c.in_ok-add.ensures.ok c.loop-index.invariant
