use Rattle.nfs_inodes.specs.Counts.{AreUnread}
use Rattle.nfs_inodes.proofs.usage.unread.Given as goal

abbrev pub invariant-loop-group : goal.invariant-loop-group
invariant-loop-group l = AreUnread l.draft l.export l.group l.unread.items
