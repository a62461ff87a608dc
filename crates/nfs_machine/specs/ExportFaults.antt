-- Which lists of exports a server is started with, and what is told of the others.
use Rattle.std.specs.Prelude.{◌≡◌, ℕ, ◌+◌, Bool, not, ◌&&◌, ◌||◌, List, [], ◌∷◌, ◌++◌}
use Rattle.std.specs.Prelude.{length, map}
use Rattle.std.specs.Prelude.{drop, Option, Some, None, nat_le, nat_lt, codes, if◌then◌else◌, ◌==◌}
use Rattle.std.specs.List.{list_any, list_all}
use Rattle.std.specs.Option.{option_or}
use Rattle.nfs_machine.specs.Bytes.{same_bytes}
use Rattle.nfs_machine.specs.Exports.{ExportValue}
use Rattle.nfs_machine.specs.Paths.{begins_with_slash, is_dots, pieces, slash}
use Rattle.nfs_machine.specs.declared.exports.ExportError.{ExportError}
use Rattle.nfs_machine.specs.declared.exports.ExportError.TheVariants.{BadPath, BadMode, NoHost, DoublePath, TooMany}
use Rattle.nfs_machine.specs.declared.exports.ExportText.{ExportText}

-- the export that a text means
abbrev pub export_of : ExportText → ExportValue
export_of text = record { path = text.path; read_only = same_bytes text.mode (codes "ro"); hosts = text.hosts.items }

-- from one byte to so many
abbrev pub has_length : ℕ → List ℕ → Bool
has_length most text = nat_le 1 (length text) && nat_le (length text) most

-- a part of an export's path: a name without a comma
abbrev pub is_export_part : List ℕ → Bool
is_export_part part = has_length 255 part && not (list_any (λ b. b == 44) part) && not (is_dots part)

-- "/", or parts that are each led by a slash
abbrev pub is_export_path : List ℕ → Bool
is_export_path path =
    nat_le (length path) 1024 && begins_with_slash path &&
    (same_bytes path (slash ∷ []) || list_all is_export_part (pieces (drop 1 path)))

abbrev pub is_export_mode : List ℕ → Bool
is_export_mode mode = same_bytes mode (codes "rw") || same_bytes mode (codes "ro")

abbrev pub are_export_hosts : List (List ℕ) → Bool
are_export_hosts hosts = nat_le 1 (length hosts) && nat_le (length hosts) 1024 && list_all (has_length 255) hosts

-- what is wrong with the export that follows these: the first of path, mode, hosts, and a path that one of these has
abbrev pub fault_of : List ExportText → ExportText → Option ExportError
fault_of earlier text =
    let number = length earlier + 1 in
    if not (is_export_path text.path) then Some (BadPath number)
    else (if not (is_export_mode text.mode) then Some (BadMode number)
    else (if not (are_export_hosts text.hosts.items) then Some (NoHost number)
    else (if list_any (λ (e : ExportText). same_bytes e.path text.path) earlier then Some
    (DoublePath number) else None)))

abbrev pub first_fault : List ExportText → List ExportText → Option ExportError
first_fault earlier [] = None
first_fault earlier (text ∷ list) = option_or (fault_of earlier text) (first_fault (earlier ++ text ∷ []) list)

-- too many exports, or what is wrong with the first that is at fault
abbrev pub export_fault : List ExportText → Option ExportError
export_fault list = if nat_lt 64 (length list) then Some TooMany else first_fault [] list

-- exports that a server may be started with
abbrev pub AreFaultless : List ExportValue → Type 0
AreFaultless exports = (list : List ExportText) × (export_fault list ≡ None) × (exports ≡ map export_of list)
