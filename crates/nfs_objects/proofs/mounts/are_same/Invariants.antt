use Rattle.std.proofs.Common.{◌≡◌}
use Rattle.std.specs.Cmp.Lexicographic.{pointwise}
use Rattle.nfs_objects.specs.Same.{same_mount}
use Rattle.nfs_objects.proofs.mounts.are_same.Given as goal

abbrev pub invariant-loop-mount : goal.invariant-loop-mount
invariant-loop-mount l = pointwise same_mount l.fn.mounts l.fn.others ≡ pointwise same_mount l.mounts l.others
