use Rattle.std.proofs.Common.{◌≡◌, map}
use Rattle.nfs_machine.specs.ExportFaults.{export_of}
use Rattle.nfs_machine.specs.Exports.{export_value}
use Rattle.nfs_machine.proofs.exports.Exports.new.Given as goal

-- each text so far has become its export
abbrev pub invariant-loop-path : goal.invariant-loop-path
invariant-loop-path l = map export_value l.exports.items ≡ map export_of l.yielded
