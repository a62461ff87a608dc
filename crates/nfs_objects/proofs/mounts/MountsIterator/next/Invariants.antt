use Rattle.std.proofs.Common.{◌≡◌, ◌++◌, length, map}
use Rattle.std.specs.Arc.{arc_value}
use Rattle.nfs_objects.specs.MountTables.{joined}
use Rattle.nfs_objects.proofs.mounts.MountsIterator.next.Given as goal

abbrev pub invariant-pieces : goal.invariant-pieces
invariant-pieces l =
    l.fn.self
    ≡ l.self-inside.front.now ++ joined (map arc_value l.self-inside.pieces.now) ++ l.self-inside.others.now

abbrev pub decreases-pieces : goal.decreases-pieces
decreases-pieces l = length l.self-inside.pieces.now
