use Rattle.std.proofs.Common.{◌∙◌, ap}
use Rattle.nfs_schedule.proofs.CourseStepLemmas.{foreseen_next}
use Rattle.nfs_schedule.specs.Foreseen.{foreseen}
use Rattle.nfs_schedule.proofs.course.begin.Goals as goal

pub returns-in-Some : goal.returns-in-Some
returns-in-Some c =
    foreseen_next c.args.alloc _ _ c.requires (c.in-Some.ensures ∙ ap foreseen c.call.ensures)
