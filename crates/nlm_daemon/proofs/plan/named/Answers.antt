use Rattle.nlm_daemon.proofs.NlmPlanLemmas.{file-wanted}
use Rattle.nlm_daemon.proofs.plan.named.Goals as goal

pub returns : goal.returns
returns c =
    file-wanted c.args.call.now c.args.draft.now c.in_ok-number.number c.in_ok-number.ensures _ c.in_ok-wish.ensures
