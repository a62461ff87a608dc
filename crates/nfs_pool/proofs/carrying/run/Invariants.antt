use Rattle.std.proofs.Common.{◌-◌, ◌^◌, length}
use Rattle.nfs_schedule.specs.Courses.{IsAt}
use Rattle.nfs_pool.specs.Passes.{Reads}
use Rattle.nfs_pool.proofs.carrying.run.Given as goal

abbrev pub invariant-steps : goal.invariant-steps
invariant-steps g l = Reads l.fn.txn l.txn × IsAt l.course l.txn

abbrev pub decreases-steps : goal.decreases-steps
decreases-steps g l = 2 ^ 64 - length l.txn.view.entries
