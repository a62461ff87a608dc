use Rattle.nlm_daemon.proofs.NlmPlanLemmas.{exports-wanted}
use Rattle.nlm_daemon.proofs.plan.first.Goals as goal

pub returns : goal.returns
returns c = exports-wanted c.args.call.now c.args.draft.now _ c.in_ok-wish.ensures
