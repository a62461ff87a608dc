use Rattle.std.proofs.Common.{◌≡◌, take}
use Rattle.nfs_machine.specs.Replacing.{new_count}
use Rattle.nfs_objects.proofs.exports.ExportTable.new_count.Given as goal

-- of the exports so far
abbrev pub invariant-loop-export : goal.invariant-loop-export
invariant-loop-export l = l.count ≡ new_count l.self.exports (take l.export-index l.exports)
