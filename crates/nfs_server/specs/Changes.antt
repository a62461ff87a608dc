-- What exports that come would change of those that stand.
use Rattle.std.specs.Prelude.{◌≡◌, ℕ, Bool, not, List, [], ◌++◌, map, codes, if◌then◌else◌}
use Rattle.std.specs.Fmt.{decimal}
use Rattle.std.specs.List.{count_by, flat_map, list_any}
use Rattle.nfs_machine.specs.Bytes.{same_bytes}
use Rattle.nfs_machine.specs.Exports.{ExportValue, LivingExport}
use Rattle.nfs_machine.specs.Replacing.{is_new}

-- whether one of these has the path
abbrev pub has_path : List ExportValue → (path : List ℕ) → Bool
has_path exports path = list_any (λ (e : ExportValue). same_bytes e.path path) exports

-- the word and the path of each of these whose path none of the others has
abbrev pub told_but : (word : List ℕ) (others exports : List ExportValue) → List ℕ
told_but word others exports =
    flat_map (λ (e : ExportValue). if has_path others e.path then [] else word ++ e.path) exports

-- how many exports stay, whose paths both lists have; which go, with their files; and which come
abbrev pub changes_line : (standing coming : List ExportValue) → List ℕ
changes_line standing coming =
    codes "keeps " ++ decimal (count_by (λ (e : ExportValue). has_path coming e.path) standing)
    ++ told_but (codes ", drops ") coming standing ++ told_but (codes ", adds ") standing coming ++ codes "\n"

-- the machine makes an export new just where none that stands has its path
abbrev pub TellsNew : Type 0
TellsNew = (living : List LivingExport) (e : ExportValue) →
    is_new living e ≡ not (has_path (map (λ (l : LivingExport). l.value) living) e.path)
