use Rattle.std.proofs.Common.{[], subst, sym}
use Rattle.nfs_objects.proofs.MountTableLemmas.{none-listed}
use Rattle.nfs_objects.proofs.mounts.MountTable.new.Goals as goal
use Rattle.nfs_objects.specs.MountTables.{AreListed}

pub invariant_of-result : goal.invariant_of-result
invariant_of-result c =
    subst (λ older. AreListed older 0 c.new-2.result) (sym c.new.ensures)
    (subst (AreListed [] 0) (sym c.new-2.ensures) none-listed)
