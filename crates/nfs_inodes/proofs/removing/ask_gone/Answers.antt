use Rattle.nfs_inodes.proofs.LastNameAsksLemmas.{none-freed}
use Rattle.nfs_inodes.proofs.removing.ask_gone.Goals as goal

pub returns-else-is_last : goal.returns-else-is_last
returns-else-is_last c = none-freed c.args.draft.now c.args.object.now.number c.args.asking.now.asked.items
