use Rattle.std.proofs.Common.{sym}
use Rattle.nfs_inodes.proofs.ReadBlocksLemmas.{has-pages, known-block, shows-absent}
use Rattle.nfs_inodes.proofs.content.blocks.stored.Goals as goal

pub returns-then-not-counts : goal.returns-then-not-counts
returns-then-not-counts c =
    shows-absent c.args.draft.now c.args.file.number c.args.file.map.now c.args.index
    (has-pages c.args.draft.now c.args.file.number c.args.file.map.now c.requires.mapped)
    (sym c.if-not-counts.ensures)

pub returns : goal.returns
returns c =
    known-block c.args.draft.now c.args.file.number c.args.file.map.now c.args.index c.block.result
    (sym c.if-not-counts.ensures) (c.requires.known (sym c.if-not-counts.ensures)) c.block.ensures
