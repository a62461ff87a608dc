use Rattle.std.proofs.Common.{sym, subst}
use Rattle.nfs_engine.specs.Built.{IsBuilt}
use Rattle.nfs_schedule.proofs.CourseStepLemmas.{lent_numbers, lent_suits}
use Rattle.nfs_schedule.proofs.WorkerStepLemmas.{called_built}
use Rattle.nfs_schedule.proofs.course.attempt_on.Goals as goal

pub attempt-requires-clause-built : goal.attempt-requires-clause-built
attempt-requires-clause-built c = subst IsBuilt (sym c.call.ensures) (called_built _ _ _ _ c.show_called.ensures)

pub attempt-requires-clause-suits : goal.attempt-requires-clause-suits
attempt-requires-clause-suits c = lent_suits c.args.txn.now _ _ c.requires c.call.ensures c.view.ensures

pub attempt-requires-clause-numbers : goal.attempt-requires-clause-numbers
attempt-requires-clause-numbers c = lent_numbers c.args.txn.now _ _ c.requires c.call.ensures c.view.ensures
