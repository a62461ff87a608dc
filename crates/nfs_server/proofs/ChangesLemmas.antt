-- Exports as the code has them, and as definitions do.
use Rattle.std.proofs.Common.{◌≡◌, ℕ, ◌+◌, List, [], ◌∷◌, ◌++◌, map, take, refl, ap, ◌∙◌, append-nil}
use Rattle.std.specs.Prelude.{◌||◌, if◌then◌else◌}
use Rattle.std.specs.List.{list_any}
use Rattle.std.proofs.lemmas.Grind.{flat_map-append}
use Rattle.std.proofs.lemmas.List.{map-append}
use Rattle.nfs_machine.specs.Bytes.{same_bytes}
use Rattle.nfs_machine.specs.Exports.{ExportValue, export_value}
use Rattle.nfs_machine.specs.declared.exports.Export.{Export}
use Rattle.nfs_server.specs.Changes.{has_path, told_but}

pub any_path : (exports : List Export) (path : List ℕ) →
    list_any (λ (e : Export). same_bytes e.path path) exports ≡ has_path (map export_value exports) path
any_path [] path = refl
any_path (e ∷ exports) path = ap (λ b. same_bytes e.path path || b) (any_path exports path)

-- one export more
pub told_more : (word : List ℕ) (others : List ExportValue) (exports : List Export) (i : ℕ) (e : Export) →
    take (i + 1) exports ≡ take i exports ++ e ∷ [] →
    told_but word others (map export_value (take (i + 1) exports))
    ≡ told_but word others (map export_value (take i exports))
    ++ (if has_path others e.path then [] else word ++ e.path)
told_more word others exports i e more =
    ap (λ (es : List Export). told_but word others (map export_value es)) more
    ∙ ap (λ (es : List ExportValue). told_but word others es) (map-append export_value (take i exports) (e ∷ []))
    ∙ flat_map-append (λ (e : ExportValue). if has_path others e.path then [] else word ++ e.path)
    (map export_value (take i exports)) (export_value e ∷ [])
    ∙ ap (λ (l : List ℕ). told_but word others (map export_value (take i exports)) ++ l) (append-nil _)
