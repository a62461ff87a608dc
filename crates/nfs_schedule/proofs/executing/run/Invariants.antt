use Rattle.std.proofs.Common.{◌-◌, ◌^◌, length}
use Rattle.nfs_objects.specs.Asks.{EachOnce}
use Rattle.nfs_objects.specs.Bound.{held}
use Rattle.nfs_schedule.specs.Courses.{IsAt}
use Rattle.nfs_schedule.specs.Executions.{GoesOn}
use Rattle.nfs_schedule.proofs.executing.run.Given as goal

abbrev pub invariant-steps : goal.invariant-steps
invariant-steps l =
    GoesOn l.fn.engine l.engine l.fn.txn l.txn × IsAt l.course l.txn × EachOnce (held l.txn.view.entries)

abbrev pub decreases-steps : goal.decreases-steps
decreases-steps l = 2 ^ 64 - length l.txn.view.entries
