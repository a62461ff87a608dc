-- Of the pieces seen so far those mounts are kept that stay.
use Rattle.std.proofs.Common.{map, not, take}
use Rattle.std.specs.Arc.{arc_value}
use Rattle.nfs_objects.proofs.MountTableLemmas.{AreSifted}
use Rattle.nfs_objects.specs.Leaving.{leaves}
use Rattle.nfs_objects.proofs.mounts.MountPieces.without.Given as goal

abbrev pub invariant-loop-piece : goal.invariant-loop-piece
invariant-loop-piece l =
    AreSifted (λ m. not (leaves l.leaving m)) (map arc_value (take l.piece-index l.old))
    (map arc_value l.pieces.items) l.len
