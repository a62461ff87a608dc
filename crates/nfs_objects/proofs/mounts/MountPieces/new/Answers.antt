use Rattle.nfs_objects.proofs.MountTableLemmas.{held-none}
use Rattle.nfs_objects.proofs.mounts.MountPieces.new.Goals as goal

pub invariant_of-result : goal.invariant_of-result
invariant_of-result c = held-none
