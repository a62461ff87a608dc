use Rattle.nfs_schedule.proofs.CallAloneLemmas.{ends_after}
use Rattle.nfs_schedule.proofs.executing.carry_out.Goals as goal

pub returns-in-Ok-clause-ends : goal.returns-in-Ok-clause-ends
returns-in-Ok-clause-ends c = ends_after _ _ _ _ _ _ c.run.ensures.goes_on c.finish.ensures.ends

pub returns-in-Err-clause-ends : goal.returns-in-Err-clause-ends
returns-in-Err-clause-ends c = ends_after _ _ _ _ _ _ c.run.ensures.goes_on c.decline.ensures.ends
