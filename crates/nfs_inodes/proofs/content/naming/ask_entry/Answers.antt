use Rattle.nfs_inodes.proofs.EntryAsksLemmas.{adds-entry}
use Rattle.nfs_inodes.proofs.content.naming.ask_entry.Goals as goal

pub returns : goal.returns
returns c =
    adds-entry c.args.draft.now c.args.directory.now.known.number c.in_ok-kept.kept.inode.now
    c.in_ok-kept.kept.header.now c.in_ok-kept.ensures c.requires.stands c.args.name.now c.args.cookie
    c.args.asking.now.asked.items c.ask_added.new.asking.asked.items c.in_ok-ask_added.ensures
