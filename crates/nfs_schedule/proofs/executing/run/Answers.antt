use Rattle.nfs_schedule.proofs.CallAloneLemmas.{goes_join}
use Rattle.nfs_schedule.proofs.CourseStepLemmas.{read_few}
use Rattle.nfs_schedule.proofs.executing.run.Goals as goal

pub steps-preserved-in-Some : goal.steps-preserved-in-Some
steps-preserved-in-Some c = (
  goes_join _ _ _ _ _ _ c.steps.invariant.0 c.make.ensures.goes_on,
  c.in_ok-course-in-Some.ensures.made.at,
  c.in_ok-course-in-Some.ensures.once c.steps.invariant.2,
)

pub steps-preserved : goal.steps-preserved
steps-preserved c = (
  goes_join _ _ _ _ _ _ c.steps.invariant.0 c.make-in-Reads.ensures.goes_on,
  c.in_ok-course-in-Reads.ensures.made.at,
  c.in_ok-course-in-Reads.ensures.once c.steps.invariant.2,
)

pub returns-in-Done-clause-few : goal.returns-in-Done-clause-few
returns-in-Done-clause-few c = read_few c.steps.txn c.steps.invariant.2 c.in-Done.ensures.0
