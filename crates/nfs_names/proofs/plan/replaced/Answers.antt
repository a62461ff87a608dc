use Rattle.nfs_names.proofs.NamePlanLemmas.{wish-wanted}
use Rattle.nfs_names.proofs.plan.replaced.Goals as goal

pub returns-in-Some : goal.returns-in-Some
returns-in-Some c = wish-wanted c.args.call.now c.args.draft.now _ c.in-Some.ensures
