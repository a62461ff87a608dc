use Rattle.nfs_schedule.proofs.WorkerStepLemmas.{blocked_leaves, failing_leaves}
use Rattle.nfs_schedule.proofs.model.worker.step.Goals as goal

pub returns-in-Blocked-clause-step : goal.returns-in-Blocked-clause-step
returns-in-Blocked-clause-step c =
    rw c.in-Blocked.is (blocked_leaves _ _ _ _ c.abort.ensures.release c.abort.ensures.leaving)

pub returns-in-Failing-clause-step : goal.returns-in-Failing-clause-step
returns-in-Failing-clause-step c =
    rw c.in-Failing.is
    (failing_leaves _ _ _ _ c.abort-in-Failing.ensures.release c.abort-in-Failing.ensures.leaving)
