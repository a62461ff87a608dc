use Rattle.nfs_schedule.proofs.model.worker.leave.Goals as goal

pub returns : goal.returns
returns c = c.into_parts-received.ensures.received
