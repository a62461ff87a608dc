use Rattle.std.proofs.Common.{take}
use Rattle.nfs_schedule.specs.Events.{Drives}
use Rattle.nfs_schedule.proofs.model.driving.drive.Given as goal

abbrev pub invariant-loop-index : goal.invariant-loop-index
invariant-loop-index l =
    Drives l.initial.world (take l.index l.events) l.world l.initial.answers.items l.answers.items
