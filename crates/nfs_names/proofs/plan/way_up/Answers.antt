use Rattle.nfs_names.proofs.NamePlanLemmas.{wish-wanted}
use Rattle.nfs_names.proofs.plan.way_up.Goals as goal

pub returns-in-Inode : goal.returns-in-Inode
returns-in-Inode c = wish-wanted c.args.call.now c.args.draft.now _ c.in-Some.ensures.may
