use Rattle.std.proofs.Common.{◌≡◌, ◌-◌, ◌^◌, min, sum_by, take}
use Rattle.nfs_machine.specs.Exports.{export_value}
use Rattle.nfs_machine.specs.declared.exports.Export.{Export}
use Rattle.nfs_engine.specs.Commits.{export_bytes}
use Rattle.nfs_engine.proofs.lengths.exports_size.Given as goal

abbrev pub invariant-loop-export : goal.invariant-loop-export
invariant-loop-export l = l.size ≡
    min (sum_by (λ (e : Export). export_bytes (export_value e)) (take l.export-index l.exports)) (2 ^ 64 - 1)
