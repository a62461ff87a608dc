-- The names that were taken from both are the same, so what is rest_behind the export's front stays.
use Rattle.std.proofs.Common.{◌≡◌}
use Rattle.nfs_machine.specs.Paths.{parts}
use Rattle.nfs_mount.proofs.NameFrontLemmas.{rest_behind}
use Rattle.nfs_mount.proofs.paths.names_below.Given as goal

abbrev pub invariant-loop-own : goal.invariant-loop-own
invariant-loop-own l =
    (goal.iterator-loop-own).can_next l.own-iterator ×
    (goal.iterator-loop-own).is_finite l.own-iterator ×
    (rest_behind l.own-iterator l.rest ≡ rest_behind (parts l.export) (parts l.path))
