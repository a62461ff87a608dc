use Rattle.nfs_names.proofs.NamePlanLemmas.{wishes-wanted}
use Rattle.nfs_names.proofs.plan.data.Goals as goal

pub returns : goal.returns
returns c =
    wishes-wanted c.args.draft.now c.in_ok-asked.asked c.in_ok-asked.ensures c.args.call.now
