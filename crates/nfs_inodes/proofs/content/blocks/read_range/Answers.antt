use Rattle.nfs_objects.specs.Calls.{blocks_at}
use Rattle.nfs_inodes.proofs.WriteAsksLemmas.{stops-any}
use Rattle.nfs_inodes.proofs.content.blocks.read_range.Goals as goal

pub returns : goal.returns
returns c = stops-any c.args.draft.now (blocks_at c.args.file.number c.args.range.offset) _ c.gathered.result
    c.gathered.ensures
