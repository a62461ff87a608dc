use Rattle.std.proofs.Common.{◌≡◌, take}
use Rattle.nfs_machine.specs.Exports.{numbered_exports}
use Rattle.nfs_objects.proofs.exports.ExportTable.opening.Given as goal

-- each export so far has its number
abbrev pub invariant-loop-index : goal.invariant-loop-index
invariant-loop-index l = l.list.items ≡ numbered_exports 1 (take l.index l.exports)
