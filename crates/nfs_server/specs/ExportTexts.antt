-- Exports as texts give them: PATH,MODE,HOST[,HOST..].
use Rattle.std.specs.Prelude.{◌≡◌, ◌==◌, ℕ, List, [], map, drop, Some, None, unwrap_or, slice_get}
use Rattle.std.specs.List.{slice_split}
use Rattle.nfs_machine.specs.ExportFaults.{export_fault, export_of}
use Rattle.nfs_machine.specs.Exports.{ExportValue}
use Rattle.nfs_machine.specs.declared.exports.ExportError.{ExportError}
use Rattle.nfs_machine.specs.declared.exports.ExportText.{ExportText}

-- an export's path, mode and hosts
abbrev pub Parts : Type 0
Parts = List ℕ × List ℕ × List (List ℕ)

-- what stands between the commas
abbrev pub export_parts : List ℕ → Parts
export_parts text =
    let fields = slice_split (λ b. b == 44) text in
    (unwrap_or (slice_get fields 0) [], unwrap_or (slice_get fields 1) [], drop 2 fields)

abbrev pub parts_of : ExportText → Parts
parts_of export = (export.path, export.mode, export.hosts.items)

-- exports of these parts are faultless, and are these
abbrev pub AreExports : List Parts → List ExportValue → Type 0
AreExports parts exports =
    (list : List ExportText) × (map parts_of list ≡ parts) × (export_fault list ≡ None) × (exports ≡ map export_of list)

-- exports of these parts are at fault
abbrev pub AreAtFault : List Parts → ExportError → Type 0
AreAtFault parts e = (list : List ExportText) × (map parts_of list ≡ parts) × (export_fault list ≡ Some e)
