use Rattle.std.proofs.Common.{inl, refl}
use Rattle.nfs_objects.specs.declared.address.Addr.TheVariants as addresses
use Rattle.nfs_mount.proofs.MountPlanLemmas.{table-wanted}
use Rattle.nfs_mount.proofs.plan.first.Goals as goal

pub returns : goal.returns
returns c = table-wanted c.args.draft.now addresses.Exports (inl refl) c.in_ok-wish.wish c.in_ok-wish.ensures
