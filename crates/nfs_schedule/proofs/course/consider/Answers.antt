use Rattle.nfs_schedule.proofs.CourseStepLemmas.{fresh_next, need_next}
use Rattle.nfs_schedule.proofs.course.consider.Goals as goal

pub returns-in-Some : goal.returns-in-Some
returns-in-Some c =
    need_next _ _ c.requires c.in-Ok-Need.ensures.attempts _ _ _ _ c.in-Ok-Need.ensures.first c.in-Ok-Need.field-0-is
    c.into_iter.ensures.rest c.in-Some.ensures

pub returns-in-Ok-Fresh : goal.returns-in-Ok-Fresh
returns-in-Ok-Fresh c =
    fresh_next _ _ c.requires c.in-Ok-Fresh.ensures.attempts _ _ _ c.in-Ok-Fresh.field-0-is c.after_number.ensures
