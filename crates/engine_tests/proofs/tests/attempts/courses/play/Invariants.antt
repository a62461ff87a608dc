use Rattle.std.proofs.Common.{◌-◌, ◌^◌, length}
use Rattle.nfs_engine.specs.Engine.{Lives}
use Rattle.nfs_schedule.specs.Courses.{IsAt}
use Rattle.engine_tests.proofs.tests.attempts.courses.play.Given as goal

abbrev pub invariant-steps : goal.invariant-steps
invariant-steps l = Lives l.engine l.txn × IsAt l.course l.txn

abbrev pub decreases-steps : goal.decreases-steps
decreases-steps l = 2 ^ 64 - length l.txn.view.entries
