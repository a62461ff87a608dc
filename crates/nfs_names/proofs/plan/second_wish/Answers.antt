use Rattle.nfs_names.proofs.NamePlanLemmas.{second-wanted}
use Rattle.nfs_names.proofs.plan.second_wish.Goals as goal

pub returns : goal.returns
returns c =
    second-wanted c.args.call.now c.args.draft.now c.in_ok-number.number c.in_ok-number.ensures c.missing.result
    c.missing.ensures
