-- What is listed so far, and what the iterator has left, are the table.
use Rattle.std.proofs.Common.{◌≡◌, ◌++◌, option_copied}
use Rattle.nfs_objects.specs.Stands.{mounts_in}
use Rattle.nfs_mount.proofs.lists.mount_list.Given as goal

abbrev pub invariant-loop-mount : goal.invariant-loop-mount
invariant-loop-mount l =
    (goal.iterator-loop-mount).can_next l.mount-iterator ×
    (goal.iterator-loop-mount).is_finite l.mount-iterator ×
    (l.mounts.items ++ l.mount-iterator ≡ mounts_in (option_copied l.kept))
