-- The pieces seen so far were added.
use Rattle.std.proofs.Common.{◌≡◌, ◌++◌, map, take}
use Rattle.std.specs.Arc.{arc_value}
use Rattle.nfs_objects.proofs.mounts.add_pieces.Given as goal
use Rattle.nfs_objects.specs.MountTables.{ArePacked, joined}

abbrev pub invariant-loop-other : goal.invariant-loop-other
invariant-loop-other l = record {
  added : joined (map arc_value l.pieces.items)
      ≡ joined (map arc_value l.initial.pieces.items) ++ joined (map arc_value (take l.other-index l.others));
  packed : ArePacked 256 (map arc_value l.initial.pieces.items) → ArePacked 256 (map arc_value l.pieces.items);
}
