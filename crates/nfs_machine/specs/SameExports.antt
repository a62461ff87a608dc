-- When two exports are one, and two lists of them.
use Rattle.std.proofs.Common.{refl, subst, sym}
use Rattle.std.specs.Prelude.{◌≡◌, Bool, true, false, ◌&&◌, List}
use Rattle.std.specs.Bool.{Decides, beq}
use Rattle.std.specs.Cmp.Lexicographic.{bytes_decides, pointwise, pointwise_decides}
use Rattle.std.specs.Cmp.{IsEquivalence, decided, first_so, on_equiv, second_so}
use Rattle.nfs_machine.specs.Bytes.{same_bytes}
use Rattle.nfs_machine.specs.Exports.{ExportValue, export_value}
use Rattle.nfs_machine.specs.declared.exports.Export.{Export}

abbrev pub same_export : ExportValue → ExportValue → Bool
same_export a b =
    same_bytes a.path b.path && (beq a.read_only b.read_only && pointwise same_bytes a.hosts b.hosts)

abbrev pub same_exports : List ExportValue → List ExportValue → Bool
same_exports = pointwise same_export

abbrev pub is_same_export : Export → Export → Bool
is_same_export a b = same_export (export_value a) (export_value b)

-- ---- these tests tell exports apart
bool_decides : (a b : Bool) → Decides (beq a b) (a ≡ b)
bool_decides true true = (λ e. refl, λ e. refl)
bool_decides true false = (λ e. cc, λ e. cc)
bool_decides false true = (λ e. cc, λ e. cc)
bool_decides false false = (λ e. refl, λ e. refl)

export_same : (a b : ExportValue) → same_export a b ≡ true → a ≡ b
export_same a b e =
    let rest = second_so (same_bytes a.path b.path) _ e in
    λ i. record {
      path = (bytes_decides a.path b.path).0 (first_so (same_bytes a.path b.path) _ e) i;
      read_only = (bool_decides a.read_only b.read_only).0 (first_so (beq a.read_only b.read_only) _ rest) i;
      hosts = (pointwise_decides bytes_decides a.hosts b.hosts).0 (second_so (beq a.read_only b.read_only) _ rest) i;
    }

export_own : (a : ExportValue) → same_export a a ≡ true
export_own a = λ i.
    (bytes_decides a.path a.path).1 refl i && ((bool_decides a.read_only a.read_only).1 refl i &&
    (pointwise_decides bytes_decides a.hosts a.hosts).1 refl i)

pub export_decides : (a b : ExportValue) → Decides (same_export a b) (a ≡ b)
export_decides a b = (export_same a b, λ e. subst (λ x. same_export a x ≡ true) e (export_own a))

pub exports_decide : (a b : List ExportValue) → Decides (same_exports a b) (a ≡ b)
exports_decide = pointwise_decides export_decides

-- and so does each answer that is one of theirs
pub export_told : (r : Bool) (a b : ExportValue) → r ≡ same_export a b → Decides r (a ≡ b)
export_told r a b is = subst (λ t. Decides t (a ≡ b)) (sym is) (export_decides a b)

pub exports_told : (r : Bool) (a b : List ExportValue) → r ≡ same_exports a b → Decides r (a ≡ b)
exports_told r a b is = subst (λ t. Decides t (a ≡ b)) (sym is) (exports_decide a b)

pub is_same_equivalence : IsEquivalence is_same_export
is_same_equivalence = on_equiv export_value (decided same_export export_decides)
