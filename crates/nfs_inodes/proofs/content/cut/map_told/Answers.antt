use Rattle.std.proofs.Common.{sym}
use Rattle.nfs_inodes.proofs.ReadBlocksLemmas.{known-told}
use Rattle.nfs_inodes.proofs.content.cut.map_told.Goals as goal

pub returns-then-has : goal.returns-then-has
returns-then-has c =
    known-told c.args.draft.now c.args.number c.args.page c.map.result (c.requires.known (sym c.if-has.ensures))
    c.map.ensures
