use Rattle.std.proofs.Common.{◌≡◌, ◌-◌, take, drop, arith, ◌∙◌}
use Rattle.nfs_inodes.proofs.WrittenBlocksLemmas.{blocks-next}
use Rattle.nfs_inodes.specs.Blocks.{place_in}
use Rattle.nfs_inodes.proofs.content.blocks.write_blocks.Goals as goal

pub loop-index-preserved : goal.loop-index-preserved
loop-index-preserved c =
    let index = c.loop-index.index in
    let offset = c.args.range.offset in
    let place : c.start_in-at.result ≡ place_in offset index =
    omega (arith, c.start_in-at.ensures, c.first-index.ensures, c.loop-index.auto.index) in
    blocks-next c.args.draft.now c.args.number offset c.args.«data».now c.loop-index.draft c.write_block.new.draft index
    c.start_in-at.result c.window.result.now (omega (arith, c.first-index.ensures, c.loop-index.auto.index)) place
    (c.window.ensures ∙ (λ j. take (4096 - place j) (drop (c.saturating_sub-from.ensures j) c.args.«data».now)))
    c.loop-index.invariant c.in_ok-write_block.ensures
