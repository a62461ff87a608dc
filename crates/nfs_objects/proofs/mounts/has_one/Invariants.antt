use Rattle.std.proofs.Common.{◌≡◌}
use Rattle.std.specs.List.{list_any}
use Rattle.nfs_objects.proofs.mounts.has_one.Given as goal
use Rattle.nfs_objects.specs.Leaving.{leaves}

abbrev pub invariant-loop-mount : goal.invariant-loop-mount
invariant-loop-mount l = list_any (leaves l.fn.leaving) l.fn.mounts ≡ list_any (leaves l.fn.leaving) l.mounts
