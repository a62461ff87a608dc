use Rattle.std.proofs.Common.{◌<◌, ◌++◌, ap, arith, length, map, subst, sym}
use Rattle.std.specs.Arc.{arc_value}
use Rattle.nfs_objects.proofs.MountTableLemmas.{next-apart}
use Rattle.nfs_objects.proofs.mounts.add_pieces.Goals as goal
use Rattle.nfs_objects.specs.MountTables.{AreDistinct, is_same, joined}

pub add_piece-requires : goal.add_piece-requires
add_piece-requires c =
    let added = joined (map arc_value c.loop-other.pieces.items) in
    let within : c.loop-other.other-index < length c.args.others.now = omega arith in
    subst AreDistinct (ap (λ xs. added ++ xs) (sym c.in_ok-try_clone.ensures))
    (next-apart arc_value c.args.others.now c.loop-other.other-index c.other-item.result within c.other-item.is
    (joined (map arc_value c.args.pieces.now.items)) added c.loop-other.invariant.added
    is_same c.requires)
