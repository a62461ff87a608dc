use Rattle.std.proofs.Common.{◌≡◌, length}
use Rattle.std.specs.List.{list_all}
use Rattle.nfs_machine.specs.ExportFaults.{is_export_part}
use Rattle.nfs_machine.specs.Paths.{pieces}
use Rattle.nfs_machine.proofs.export_faults.are_export_parts.Given as goal

-- the parts left decide as all parts do
abbrev pub invariant-parts : goal.invariant-parts
invariant-parts l = list_all is_export_part (pieces l.rest) ≡ list_all is_export_part (pieces l.text)

abbrev pub decreases-parts : goal.decreases-parts
decreases-parts l = length l.rest
