use Rattle.nfs_inodes.proofs.ReaderHaltLemmas.{halts-only}
use Rattle.nfs_inodes.proofs.content.cut.ask_cut.Goals as goal

pub returns : goal.returns
returns c = halts-only _ _ c.ask_blocks.result c.ask_blocks.ensures
