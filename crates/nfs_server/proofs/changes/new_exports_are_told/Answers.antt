-- What is found by its path, or not, is so in both lists.
use Rattle.std.proofs.Common.{◌≡◌, false, true, List, [], ◌∷◌, map, refl}
use Rattle.std.specs.Prelude.{◌||◌, Some, find, if◌then◌else◌, is_none, not}
use Rattle.nfs_machine.specs.Bytes.{same_bytes}
use Rattle.nfs_machine.specs.Exports.{ExportValue, LivingExport}
use Rattle.nfs_machine.specs.Replacing.{is_new}
use Rattle.nfs_server.specs.Changes.{has_path}
use Rattle.nfs_server.proofs.changes.new_exports_are_told.Goals as goal

told : (living : List LivingExport) (e : ExportValue) →
    is_new living e ≡ not (has_path (map (λ (l : LivingExport). l.value) living) e.path)
told [] e = refl
told (l ∷ living) e =
    elim (same_bytes l.path e.path) as
    (λ b. is_none (if b then Some l else find (λ (m : LivingExport). same_bytes m.path e.path) living)
    ≡ not (b || has_path (map (λ (m : LivingExport). m.value) living) e.path)) [
      | true ↦ refl
      | false ↦ told living e
    ]

pub returns : goal.returns
returns c = told
