use Rattle.nlm_daemon.proofs.NlmPlanLemmas.{grant-wanted}
use Rattle.nlm_daemon.proofs.plan.granted.Goals as goal

pub returns : goal.returns
returns c =
    let n = c.in_ok-number.ensures in
    grant-wanted c.args.answer.now c.args.draft.now c.in_ok-number.number n.0 n.1 c.bucket_index.result
    c.bucket_index.ensures.index _ c.in_ok-wish.ensures
