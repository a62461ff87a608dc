use Rattle.std.proofs.Common.{◌≡◌, take, drop}
use Rattle.nfs_machine.specs.ExportFaults.{export_fault, first_fault}
use Rattle.nfs_machine.proofs.export_faults.check_list.Given as goal

-- the exports so far have no fault: the first is to be found among those left
abbrev pub invariant-loop-index : goal.invariant-loop-index
invariant-loop-index l = export_fault l.list ≡ first_fault (take l.index l.list) (drop l.index l.list)
