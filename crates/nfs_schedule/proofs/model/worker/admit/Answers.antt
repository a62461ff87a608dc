use Rattle.nfs_schedule.proofs.RefusedRecordLemmas.{refused_so}
use Rattle.nfs_schedule.proofs.WorkerStepLemmas.{begun, left_alone, left_unanswered, repeated}
use Rattle.nfs_schedule.proofs.model.worker.admit.Goals as goal

pub returns-in-Ok-Begin-clause-step : goal.returns-in-Ok-Begin-clause-step
returns-in-Ok-Begin-clause-step c =
    let admits = rw c.in-Ok-Begin.field-0-is at c.in-Ok-Begin.ensures.admits in
    let lives = rw c.in-Ok-Begin.field-0-is at c.in-Ok-Begin.ensures.lives in
    rw c.in-Ok-Begin.field-0-is (begun _ _ _ _ admits lives.0 lives.1 c.in-Ok-Begin.ensures.shards)

pub returns-in-Ok-Repeat-clause-step : goal.returns-in-Ok-Repeat-clause-step
returns-in-Ok-Repeat-clause-step c =
    let admits = rw c.in-Ok-Repeat.field-0-is at c.in-Ok-Repeat.ensures.admits in
    let lives = rw c.in-Ok-Repeat.field-0-is at c.in-Ok-Repeat.ensures.lives in
    rw c.in-Ok-Repeat.field-0-is (repeated _ _ _ _ admits lives c.in-Ok-Repeat.ensures.shards)

pub returns-in-Ok-Repeat-clause-admits : goal.returns-in-Ok-Repeat-clause-admits
returns-in-Ok-Repeat-clause-admits c =
    let admits = rw c.in-Ok-Repeat.field-0-is at c.in-Ok-Repeat.ensures.admits in
    rw c.in-Ok-Repeat.field-0-is (admits, c.in-Ok-Repeat.ensures.shards)

pub returns-in-Ok-Running-clause-step : goal.returns-in-Ok-Running-clause-step
returns-in-Ok-Running-clause-step c =
    let lives = rw c.in-Ok-Running.field-0-is at c.in-Ok-Running.ensures.lives in
    left_alone _ _ _ _ lives c.leave.ensures

pub returns-in-Ok-Running-clause-admits : goal.returns-in-Ok-Running-clause-admits
returns-in-Ok-Running-clause-admits c =
    let admits = rw c.in-Ok-Running.field-0-is at c.in-Ok-Running.ensures.admits in
    let lives = rw c.in-Ok-Running.field-0-is at c.in-Ok-Running.ensures.lives in
    let unanswered = rw c.in-Ok-Running.field-0-is at c.leave.ensures in
    left_unanswered _ _ _ _ _ admits lives unanswered

pub returns-in-Err-clause-admits : goal.returns-in-Err-clause-admits
returns-in-Err-clause-admits c =
    refused_so _ _ _ _ _ _ c.in-Err.ensures.admits c.in-Err.ensures.err c.refuse_arrival.ensures
