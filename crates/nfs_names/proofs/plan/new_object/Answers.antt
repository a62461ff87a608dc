use Rattle.nfs_names.proofs.NamePlanLemmas.{wish-wanted}
use Rattle.nfs_names.proofs.plan.new_object.Goals as goal

pub returns-in-Some : goal.returns-in-Some
returns-in-Some c = wish-wanted c.args.call.now c.args.draft.now _ c.in-Some.ensures
