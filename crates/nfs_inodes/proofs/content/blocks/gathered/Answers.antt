use Rattle.std.proofs.Common.{◌++◌, ◌-◌, [], drop, min, unwrap_or, arith, ◌∙◌}
use Rattle.std.specs.Prelude.{option_copied}
use Rattle.nfs_machine.specs.Data.{resized}
use Rattle.nfs_inodes.proofs.ReadBlocksLemmas.{gathered-more}
use Rattle.nfs_inodes.proofs.content.blocks.gathered.Goals as goal

pub loop-index-preserved : goal.loop-index-preserved
loop-index-preserved c =
    let offset = c.args.range.offset in
    let index = c.loop-index.index in
    let found = c.loop-index.found in
    let start = c.start_in-start.ensures in
    let long = c.len.ensures in
    let block = unwrap_or (option_copied c.in_ok-block.block) [] in
    let most = c.min-count.ensures ∙ (λ j. min (4096 - start j) (c.args.range.count - long j)) in
    gathered-more c.args.draft.now c.args.file.number c.args.file.map.now c.requires.mapped offset c.args.range.count
    c.args.range.some c.requires.within index found block
    c.add_part.new.found (omega (arith, c.first-index.ensures, c.loop-index.auto.index))
    (omega (arith, c.loop-index-test.true, c.end-index-end.ensures, c.args.range.some)) c.loop-index.invariant
    c.in_ok-block.ensures
    (c.in_ok-add_part.ensures ∙ (λ j. found ++ resized (drop (start j) block) (most j)))
