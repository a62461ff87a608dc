use Rattle.nfs_schedule.proofs.CourseStepLemmas.{first_is}
use Rattle.nfs_schedule.proofs.course.first_of.Goals as goal

pub returns : goal.returns
returns c = first_is _ _ _ _ c.in-Some.ensures.cases.0
