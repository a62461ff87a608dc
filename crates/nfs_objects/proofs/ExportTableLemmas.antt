-- Exports that are numbered in the order given, one after another.
use Rattle.std.proofs.Common.{◌≡◌, ◌==◌, ℕ, zero, suc, ◌+◌, ◌<◌, ◌≤◌, false, cond, List, []}
use Rattle.std.proofs.Common.{◌∷◌, ◌++◌, length, map, take, get_or, Some, slice_get, refl, sym, subst, ap}
use Rattle.std.proofs.Common.{◌∙◌, arith}
use Rattle.std.specs.List.{AllByRecursion}
use Rattle.std.specs.Option.{option_map}
use Rattle.std.proofs.lemmas.List.{take_all}
use Rattle.std.proofs.lemmas.Option.{slice_get-map, slice_get_read}
use Rattle.nfs_machine.proofs.ExportOrderLemmas.{all-numbered, length-numbered, opened-apart, with_number}
use Rattle.nfs_machine.proofs.MapChangeLemmas.{itself}
use Rattle.nfs_machine.specs.ExportFaults.{AreFaultless}
use Rattle.nfs_machine.specs.Exports.{ExportValue, LivingExport, export_at, export_value, numbered_exports}
use Rattle.nfs_machine.specs.Exports.{opening_exports}
use Rattle.nfs_machine.specs.WellFormed.{AllApart, AreApart, IsNumbered}
use Rattle.nfs_machine.specs.declared.exports.Export.{Export}
use Rattle.nfs_objects.specs.ExportTables.{AllNamedApart, AreNamedApart, ExportTableValue, IsExportTable}
use Rattle.nfs_objects.proofs.SeenLemmas.{all-map}

pub few : (es : List ExportValue) → AreFaultless es → length es ≤ 64
few es faultless = (opened-apart es faultless).0

-- the next export has the next number
pub numbered-next : (es : List ExportValue) (k i : ℕ) (e : ExportValue) → slice_get es i ≡ Some e →
    numbered_exports k (take (i + 1) es) ≡ numbered_exports k (take i es) ++ with_number (k + i) e ∷ []
numbered-next [] k i e at = cc
numbered-next (x ∷ es) k zero e at =
    let same : x ≡ e = cc in
    ap (λ y. with_number k y ∷ []) same
    ∙ ap (λ n. with_number n e ∷ []) (let none : k ≡ k + 0 = omega arith in none)
numbered-next (x ∷ es) k (suc i) e at =
    ap (λ n. numbered_exports k (take n (x ∷ es))) (let step : suc i + 1 ≡ suc (i + 1) = omega arith in step)
    ∙ ap (λ ys. with_number k x ∷ ys) (numbered-next es (k + 1) i e at
    ∙ ap (λ n. numbered_exports (k + 1) (take i es) ++ with_number n e ∷ [])
    (let next : k + 1 + i ≡ k + suc i = omega arith in next))

named-apart : (exports : List LivingExport) → AllApart exports → AllNamedApart exports
named-apart [] all = tt
named-apart (e ∷ exports) all = (
  all-map (AreApart e) (AreNamedApart e) (λ x apart. record { numbers = apart.numbers; paths = apart.paths })
      exports all.0,
  named-apart exports all.1,
)

-- what a server opens with is a table
pub opening-table : (es : List ExportValue) → AreFaultless es →
    IsExportTable (record { exports = opening_exports es; last = length es })
opening-table es faultless =
    let all = opened-apart es faultless in
    record {
      few = (let counted = length-numbered es 1 in omega (arith, counted, all.0));
      numbered = all-numbered (IsNumbered (length es)) es 1
          (λ n e low high. (low, omega (arith, all.0, high), omega (arith, high)));
      apart = named-apart (opening_exports es) all.1;
    }

-- each export of a table is found by its number
pub found-by-number : (exports : List LivingExport) (i : ℕ) (e : LivingExport) → AllApart exports →
    slice_get exports i ≡ Some e → export_at exports e.number ≡ Some e
found-by-number [] i e all at = cc
found-by-number (x ∷ exports) zero e all at =
    let same : x ≡ e = cc in
    subst (λ (y : LivingExport). cond (x.number == y.number) (Some x) (export_at exports y.number) ≡ Some y) same
    (ap (λ b. cond b (Some x) (export_at exports x.number)) (itself x.number))
found-by-number (x ∷ exports) (suc i) e all at =
    ap (λ b. cond b (Some x) (export_at exports e.number)) (behind exports i all.0 at)
    ∙ found-by-number exports i e all.1 at
  where
    behind : (es : List LivingExport) (i : ℕ) → AllByRecursion (AreApart x) es → slice_get es i ≡ Some e →
        (x.number == e.number) ≡ false
    behind [] i each here = cc
    behind (y ∷ es) zero each here =
        let same : y ≡ e = cc in
        subst (λ (z : LivingExport). (x.number == z.number) ≡ false) same each.0.numbers
    behind (y ∷ es) (suc i) each here = behind es i each.1 here

-- the export at a place of the list
pub item-at : (exports : List ExportValue) (list : List Export) (i : ℕ) (e : Export) →
    map export_value list ≡ exports → i < length list → e ≡ get_or list i e →
    slice_get exports i ≡ Some (export_value e)
item-at exports list i e is less at =
    ap (λ l. slice_get l i) (sym is) ∙ slice_get-map export_value list i
    ∙ ap (option_map export_value) (slice_get_read list (length list) i e refl less at)

-- one more export with its number
pub one-more : (es : List ExportValue) (i : ℕ) (e : ExportValue) (old new : List LivingExport)
    (made : LivingExport) →
    old ≡ numbered_exports 1 (take i es) → new ≡ old ++ made ∷ [] → made ≡ with_number (i + 1) e →
    slice_get es i ≡ Some e → new ≡ numbered_exports 1 (take (i + 1) es)
one-more es i e old new made so_far is same at =
    is ∙ ap (λ xs. xs ++ made ∷ []) so_far ∙ ap (λ x. numbered_exports 1 (take i es) ++ x ∷ []) same
    ∙ ap (λ n. numbered_exports 1 (take i es) ++ with_number n e ∷ [])
    (let turned : i + 1 ≡ 1 + i = omega arith in turned)
    ∙ sym (numbered-next es 1 i e at)

-- where each has its number, they are a table
pub all-numbered-table : (es : List ExportValue) (i last : ℕ) (list : List LivingExport) → AreFaultless es →
    list ≡ numbered_exports 1 (take i es) → length es ≤ i → last ≡ length es →
    IsExportTable (record { exports = list; last = last })
all-numbered-table es i last list faultless is all counted =
    let whole : list ≡ opening_exports es = is ∙ ap (numbered_exports 1) (take_all i es all) in
    subst (λ (t : ExportTableValue). IsExportTable t) (λ j. record { exports = sym whole j; last = sym counted j })
    (opening-table es faultless)

-- an export with these texts is the same
pub same-export : (path : List ℕ) (hosts : List (List ℕ)) (e : Export) →
    path ≡ e.path → hosts ≡ e.hosts.items →
    ◌≡◌ {A = ExportValue} (record { path = path; read_only = e.read_only; hosts = hosts }) (export_value e)
same-export path hosts e texts admitted =
    λ i. record { path = texts i; read_only = e.read_only; hosts = admitted i }
