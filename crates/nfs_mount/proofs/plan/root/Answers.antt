use Rattle.std.proofs.Common.{sym}
use Rattle.nfs_mount.proofs.MntLemmas.{root-lives}
use Rattle.nfs_mount.proofs.MountPlanLemmas.{wish-wanted}
use Rattle.nfs_mount.proofs.plan.root.Goals as goal

pub wish_there-requires : goal.wish_there-requires
wish_there-requires c =
    root-lives c.args.draft.now c.args.path.now c.in-Ok.exports.now c.in-Ok.ensures.exports
    (sym c.in_default-path_fault.ensures) c.in_ok-choice.choice (rw c.ctx.ensures at c.in_ok-choice.ensures) c.requires

pub returns-in-Some-wish_there : goal.returns-in-Some-wish_there
returns-in-Some-wish_there c = wish-wanted c.args.draft.now _ c.in-Some-wish_there.ensures
