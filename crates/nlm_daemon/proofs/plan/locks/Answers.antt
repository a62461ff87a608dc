use Rattle.nlm_daemon.proofs.NlmPlanLemmas.{locks-wanted}
use Rattle.nlm_daemon.proofs.plan.locks.Goals as goal

pub returns : goal.returns
returns c =
    locks-wanted c.args.call.now c.args.draft.now c.in_ok-number.number c.in_ok-number.ensures c.bucket_index.result
    c.bucket_index.ensures.index _ c.in_ok-wish.ensures
