use Rattle.nfs_schedule.proofs.StopLemmas.{call_gone}
use Rattle.nfs_schedule.proofs.model.stop.stop_call.Goals as goal

pub returns-clause-gone : goal.returns-clause-gone
returns-clause-gone c =
    (call_gone _ _ _ c.args.txn _ _ c.abort-release.ensures.release c.in-Some.ensures c.leave_unanswered.ensures.gone).0
