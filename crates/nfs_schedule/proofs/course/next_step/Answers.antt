use Rattle.nfs_schedule.proofs.CourseStepLemmas.{asked_grown, asked_next, foreseen_last, numbers_next, planned_grown}
use Rattle.nfs_schedule.proofs.course.next_step.Goals as goal

pub go_on-requires : goal.go_on-requires
go_on-requires c = planned_grown _ _ c.requires _ c.in-Planned.is

pub go_on-requires-in-None : goal.go_on-requires-in-None
go_on-requires-in-None c = asked_grown _ _ c.requires _ _ c.in-Acquiring.is

pub returns-in-FirstHandle : goal.returns-in-FirstHandle
returns-in-FirstHandle c = foreseen_last _ _ c.requires _ _ _ c.in-FirstHandle.is

pub returns-in-Some : goal.returns-in-Some
returns-in-Some c = asked_next _ _ c.requires _ _ _ c.in-Acquiring.is c.in-Some.ensures

pub returns-in-Reserving : goal.returns-in-Reserving
returns-in-Reserving c = numbers_next _ _ c.requires _ _ _ c.in-Reserving.is c.after_number.ensures
