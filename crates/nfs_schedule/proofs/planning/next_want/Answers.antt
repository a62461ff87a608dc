use Rattle.nfs_schedule.proofs.CourseStepLemmas.{lent_suits}
use Rattle.nfs_schedule.proofs.planning.next_want.Goals as goal

pub next-requires : goal.next-requires
next-requires c = lent_suits c.args.txn.now _ _ c.requires c.call.ensures c.view.ensures

pub next-requires-in-Mount : goal.next-requires-in-Mount
next-requires-in-Mount c = lent_suits c.args.txn.now _ _ c.requires c.call-in-Mount.ensures c.view-in-Mount.ensures

pub next-requires-in-Data : goal.next-requires-in-Data
next-requires-in-Data c = lent_suits c.args.txn.now _ _ c.requires c.call-in-Data.ensures c.view-in-Data.ensures

pub next-requires-in-Nlm : goal.next-requires-in-Nlm
next-requires-in-Nlm c = lent_suits c.args.txn.now _ _ c.requires c.call-in-Nlm.ensures c.view-in-Nlm.ensures
