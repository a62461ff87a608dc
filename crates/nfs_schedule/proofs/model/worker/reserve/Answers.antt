use Rattle.std.proofs.Common.{arith}
use Rattle.nfs_schedule.proofs.WorkerStepLemmas.{reserve_fails, reserved, reserved_one}
use Rattle.nfs_schedule.proofs.model.worker.reserve.Goals as goal

pub returns-in-Ok : goal.returns-in-Ok
returns-in-Ok c =
    reserved_one _ _ _ _ _ _ c.requires.lives c.reserve.ensures.lives c.reserve.ensures.others c.reserve.ensures.book _
    c.if-left-gt1.true (omega (arith, c.if-left-gt1.true)) (rw c.in-Ok.is at c.reserve.ensures.reserved)

pub returns-in-Ok-2 : goal.returns-in-Ok-2
returns-in-Ok-2 c =
    reserved _ _ _ _ _ _ c.requires.lives c.reserve.ensures.lives c.reserve.ensures.others c.reserve.ensures.book
    c.if-left-gt1.false (rw c.in-Ok.is at c.reserve.ensures.reserved)

pub returns-in-Err : goal.returns-in-Err
returns-in-Err c =
    reserve_fails _ _ _ _ _ _ c.requires.lives c.reserve.ensures.lives c.reserve.ensures.others c.reserve.ensures.book
    _ (rw c.in-Err.is at c.reserve.ensures.reserved)
