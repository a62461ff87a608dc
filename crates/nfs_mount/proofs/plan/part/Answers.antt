use Rattle.nfs_mount.proofs.MountPlanLemmas.{wish-wanted}
use Rattle.nfs_mount.proofs.plan.part.Goals as goal

pub returns-in-Some-part_wish : goal.returns-in-Some-part_wish
returns-in-Some-part_wish c = wish-wanted c.args.draft.now _ c.in-Some-part_wish.ensures
