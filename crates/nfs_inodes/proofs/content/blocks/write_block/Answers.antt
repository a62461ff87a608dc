use Rattle.std.specs.Prelude.{option_copied}
use Rattle.nfs_inodes.proofs.WrittenBlocksLemmas.{block-written}
use Rattle.nfs_inodes.proofs.content.blocks.write_block.Goals as goal

pub returns : goal.returns
returns c =
    block-written c.args.draft.now c.put_block.new.self c.args.number c.args.index c.args.at c.bytes_of-old.result.now
    c.args.part.now c.in_ok-block-2.block (option_copied c.in_ok-block.field-0) c.in_ok-block.ensures
    c.bytes_of-old.ensures
    c.in_ok-block-2.ensures c.in_ok-put_block.ensures.ok
