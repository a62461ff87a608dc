use Rattle.nfs_inodes.proofs.LastNameAsksLemmas.{uncounted-freed, unlocked-freed}
use Rattle.nfs_inodes.proofs.removing.ask_freed.Goals as goal

pub returns-in_ok-ask_locks-in-Regular : goal.returns-in_ok-ask_locks-in-Regular
returns-in_ok-ask_locks-in-Regular c =
    unlocked-freed c.args.draft.now c.args.object.now.number c.args.asking.now.asked.items
    c.ask_uncounted.new.asking.asked.items c.ask_locks.new.asking.asked.items c.in_ok-ask_uncounted.ensures
    c.in_ok-ask_locks-in-Regular.ensures.ok

pub returns-in_default : goal.returns-in_default
returns-in_default c =
    uncounted-freed c.args.draft.now c.args.object.now.number c.args.asking.now.asked.items
    c.ask_uncounted.new.asking.asked.items c.in_ok-ask_uncounted.ensures
