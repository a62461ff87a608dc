use Rattle.nfs_names.proofs.NamePlanLemmas.{wish-wanted}
use Rattle.nfs_names.proofs.plan.parent.Goals as goal

pub returns : goal.returns
returns c = wish-wanted c.args.call.now c.args.draft.now _ c.in_ok-wish.ensures.may
