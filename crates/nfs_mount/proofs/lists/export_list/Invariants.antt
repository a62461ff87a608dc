-- The exports so far are listed.
use Rattle.std.proofs.Common.{◌≡◌, take}
use Rattle.nfs_machine.specs.MountSteps.{listed_exports}
use Rattle.nfs_mount.proofs.lists.export_list.Given as goal

abbrev pub invariant-loop-export : goal.invariant-loop-export
invariant-loop-export l = l.nodes.items ≡ listed_exports (take l.export-index l.exports)
