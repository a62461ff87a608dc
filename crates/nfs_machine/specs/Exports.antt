-- The exports, which of them admit a host, and how they are numbered.
use Rattle.std.specs.Prelude.{ℕ, ◌+◌, Bool, false, ◌||◌, List, [], ◌∷◌, Option, Some, None, find}
use Rattle.std.specs.Prelude.{◌==◌}
use Rattle.std.specs.List.{list_any}
use Rattle.nfs_machine.specs.Bytes.{same_bytes}
use Rattle.nfs_machine.specs.declared.exports.Export.{Export}

-- an export as it is given: its path, whether it is read only, and the hosts that it admits
pub record ExportValue : Type 0 where
  pub path : List ℕ
  pub read_only : Bool
  pub hosts : List (List ℕ)

abbrev pub export_value : Export → ExportValue
export_value e = record { path = e.path; read_only = e.read_only; hosts = e.hosts.items }

-- an export that lives, with its number and the number of its root, a directory
pub record LivingExport : Type 0 where
  pub number : ℕ
  pub root : ℕ
  pub value : ExportValue
  pub open value use *

-- `*`, which stands for every host
abbrev pub every_host : List ℕ
every_host = 42 ∷ []

abbrev pub admits : ExportValue → List ℕ → Bool
admits e host = list_any (λ h. same_bytes h host || same_bytes h every_host) e.hosts

-- the export with a number
abbrev pub export_at : List LivingExport → ℕ → Option LivingExport
export_at exports number = find (λ (e : LivingExport). e.number == number) exports

-- whether there is such an export and it admits the host
abbrev pub export_admits : Option LivingExport → List ℕ → Bool
export_admits export host = elim export [ None ↦ false | Some e ↦ admits e.value host ]

-- exports in the order given, numbered from a number on; the root of each has the export's number
abbrev pub numbered_exports : ℕ → List ExportValue → List LivingExport
numbered_exports number [] = []
numbered_exports number (e ∷ exports) = record { number = number; root = number; value = e } ∷
    numbered_exports (number + 1) exports

-- the exports that a server opens with: numbers are from 1
abbrev pub opening_exports : List ExportValue → List LivingExport
opening_exports exports = numbered_exports 1 exports
