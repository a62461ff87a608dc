use Rattle.nfs_mount.proofs.MountPlanLemmas.{wish-wanted}
use Rattle.nfs_mount.proofs.plan.object.Goals as goal

pub returns : goal.returns
returns c = wish-wanted c.args.draft.now _ c.in_ok-wish.ensures
