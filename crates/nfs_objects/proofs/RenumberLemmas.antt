-- Tables of exports that replace others.
use Rattle.std.proofs.Common.{◌≡◌, ◌==◌, ℕ, suc, ◌+◌, ◌<◌, ◌≤◌, ◌^◌, Bool, true, false, cond, List, [], ◌∷◌, ◌++◌}
use Rattle.std.proofs.Common.{get_or, length, map, max, drop, Option, Some, None, option_map, is_none, slice_get, take}
use Rattle.std.proofs.Common.{refl, sym, ◌∙◌, ap, subst, arith}
use Rattle.std.proofs.lemmas.List.{append-nil, append_assoc, drop_all}
use Rattle.std.proofs.lemmas.List.Sums.{count_by-le-length, count_by_more_no, count_by_more_yes}
use Rattle.std.proofs.lemmas.Option.{get_or_from_slice_get, slice_get_within}
use Rattle.std.specs.List.{AllByRecursion, count_by}
use Rattle.nfs_machine.proofs.MapChangeLemmas.{apart}
use Rattle.nfs_machine.proofs.StepKeepsLemmas.{room}
use Rattle.nfs_machine.proofs.RenumberedExportsLemmas.{count-more, faultless-paths, length-renumbered, renumbered-apart}
use Rattle.nfs_machine.proofs.RenumberedExportsLemmas.{renumbered-numbered, with-path}
use Rattle.nfs_machine.specs.Bytes.{same_bytes}
use Rattle.nfs_machine.specs.ExportFaults.{AreFaultless}
use Rattle.nfs_machine.specs.Exports.{ExportValue, LivingExport}
use Rattle.nfs_machine.specs.Replacing.{export_with_path, is_exhausted, is_new, new_count, renumbered}
use Rattle.nfs_machine.specs.WellFormed.{AllApart, AreApart, IsNumbered}
use Rattle.nfs_objects.proofs.ExportTableLemmas.{few}
use Rattle.nfs_objects.proofs.EntryPlaceLemmas.{rest-from}
use Rattle.nfs_objects.specs.ExportTables.{AllNamedApart, AreNamedApart, ExportTableValue, IsExportTable}

-- how a list goes on whose first export was found so, or not
abbrev by-found : List LivingExport → (root : ℕ → ℕ) → (last : ℕ) → ExportValue → List ExportValue →
    Option LivingExport → List LivingExport
by-found living root last e es found = elim found [
  | Some was ↦ record { number = was.number; root = was.root; value = e } ∷ renumbered living root last es
  | None ↦ record { number = suc last; root = root (suc last); value = e } ∷ renumbered living root (suc last) es
]

-- ---- what is true of a table, whatever its roots
-- the same export with its number for its root
abbrev by-number : LivingExport → LivingExport
by-number e = record { number = e.number; root = e.number; value = e.value }

path-by-number : (living : List LivingExport) (path : List ℕ) →
    export_with_path (map by-number living) path ≡ option_map by-number (export_with_path living path)
path-by-number [] path = refl
path-by-number (x ∷ living) path =
    elim (same_bytes x.path path) as (λ b. cond b (Some (by-number x)) (export_with_path (map by-number living) path)
    ≡ option_map by-number (cond b (Some x) (export_with_path living path)))
    [ true ↦ refl | false ↦ path-by-number living path ]

renumbered-by-number : (living : List LivingExport) (root : ℕ → ℕ) (last : ℕ) (es : List ExportValue) →
    renumbered (map by-number living) (λ n. n) last es ≡ map by-number (renumbered living root last es)
renumbered-by-number living root last [] = refl
renumbered-by-number living root last (e ∷ es) =
    ap (by-found (map by-number living) (λ n. n) last e es) (path-by-number living e.path)
    ∙ elim (export_with_path living e.path) as (λ o. by-found (map by-number living) (λ n. n) last e es
    (option_map by-number o) ≡ map by-number (by-found living root last e es o)) [
      | Some was ↦ λ i. record { number = was.number; root = was.number; value = e } ∷
          renumbered-by-number living root last es i
      | None ↦ λ i. record { number = suc last; root = suc last; value = e } ∷
          renumbered-by-number living root (suc last) es i
    ]

same-new : (living : List LivingExport) (e : ExportValue) → is_new (map by-number living) e ≡ is_new living e
same-new living e =
    ap is_none (path-by-number living e.path)
    ∙ elim (export_with_path living e.path) as (λ o. is_none (option_map by-number o) ≡ is_none o)
    [ Some was ↦ refl | None ↦ refl ]

same-count : (living : List LivingExport) (es : List ExportValue) →
    new_count (map by-number living) es ≡ new_count living es
same-count living es = λ i. count_by (λ (e : ExportValue). same-new living e i) es

apart-by-number : (xs : List LivingExport) → AllNamedApart xs → AllApart (map by-number xs)
apart-by-number [] all = tt
apart-by-number (x ∷ xs) all = (each xs all.0, apart-by-number xs all.1)
  where
    each : (ys : List LivingExport) → AllByRecursion (AreNamedApart x) ys →
        AllByRecursion (AreApart (by-number x)) (map by-number ys)
    each [] all = tt
    each (y ∷ ys) all = (
      record { numbers = all.0.numbers; roots = all.0.numbers; paths = all.0.paths },
      each ys all.1,
    )

named-by-number : (xs : List LivingExport) → AllApart (map by-number xs) → AllNamedApart xs
named-by-number [] all = tt
named-by-number (x ∷ xs) all = (each xs all.0, named-by-number xs all.1)
  where
    each : (ys : List LivingExport) → AllByRecursion (AreApart (by-number x)) (map by-number ys) →
        AllByRecursion (AreNamedApart x) ys
    each [] all = tt
    each (y ∷ ys) all = (record { numbers = all.0.numbers; paths = all.0.paths }, each ys all.1)

numbered-there : (last : ℕ) (xs : List LivingExport) → AllByRecursion (IsNumbered last) xs →
    AllByRecursion (IsNumbered last) (map by-number xs)
numbered-there last [] all = tt
numbered-there last (x ∷ xs) all = (all.0, numbered-there last xs all.1)

numbered-here : (last : ℕ) (xs : List LivingExport) → AllByRecursion (IsNumbered last) (map by-number xs) →
    AllByRecursion (IsNumbered last) xs
numbered-here last [] all = tt
numbered-here last (x ∷ xs) all = (all.0, numbered-here last xs all.1)

-- none of their roots is a number above the last
roots-below : (last top : ℕ) (xs : List LivingExport) → AllByRecursion (IsNumbered last) xs →
    AllByRecursion (λ (x : LivingExport). (n : ℕ) → last < n → n ≤ top → (x.root == n) ≡ false) (map by-number xs)
roots-below last top [] all = tt
roots-below last top (x ∷ xs) all = (
  λ n above high. apart x.number n
      (λ same. (let less : x.number ≤ last = all.0.2 in omega (arith, same, less, above))),
  roots-below last top xs all.1,
)

-- the exports that replace those of a table are one
pub replaced-table : (t : ExportTableValue) (root : ℕ → ℕ) (es : List ExportValue) → IsExportTable t →
    AreFaultless es → is_exhausted t.exports t.last es ≡ false → IsExportTable (record
    { exports = renumbered t.exports root t.last es; last = t.last + new_count t.exports es })
replaced-table t root es is faultless free =
    let top : ℕ = t.last + new_count t.exports es in
    let living : List LivingExport = map by-number t.exports in
    let all = apart-by-number t.exports is.apart in
    let numbered = numbered-there t.last t.exports is.numbered in
    let lives = roots-below t.last top t.exports is.numbered in
    let high : t.last + new_count living es ≤ top = (let n = same-count t.exports es in omega (arith, n)) in
    let same = renumbered-by-number t.exports root t.last es in
    record {
      few = (let counted = length-renumbered t.exports root t.last es in omega (arith, counted, few es faultless));
      numbered = numbered-here top (renumbered t.exports root t.last es) (subst (AllByRecursion (IsNumbered top)) same
          (renumbered-numbered living (λ n. n) t.last top all numbered lives
          (λ e f low less high. apart e f (λ one. omega (arith, one, less)))
          (room t.exports t.last es free) t.last es (omega arith) high));
      apart = named-by-number (renumbered t.exports root t.last es) (subst AllApart same
          (renumbered-apart living (λ n. n) t.last top all numbered lives
          (λ e f low less high. apart e f (λ one. omega (arith, one, less)))
          t.last es (omega arith) high (faultless-paths es faultless)));
    }

-- ---- one by one
first-same : {a b : LivingExport} → a ∷ [] ≡ b ∷ [] → a ≡ b
first-same same = cc

-- the exports before a place are renumbered, and this is the last number so far
pub record IsSoFar (t : ExportTableValue) (root : ℕ → ℕ) (es : List ExportValue) (i last : ℕ)
    (list : List LivingExport) : Type 0 where
  pub listed : list ++ renumbered t.exports root last (drop i es) ≡ renumbered t.exports root t.last es
  pub counted : last + new_count t.exports (drop i es) ≡ t.last + new_count t.exports es
  pub above : t.last ≤ last

module _ (t : ExportTableValue) (root : ℕ → ℕ) (es : List ExportValue) where
  pub none-yet : IsSoFar t root es 0 t.last []
  none-yet = record { listed = refl; counted = refl; above = omega arith }

  -- at the end these are all
  pub all-listed : (i last : ℕ) (list : List LivingExport) → IsSoFar t root es i last list → length es ≤ i →
      list ≡ renumbered t.exports root t.last es
  all-listed i last list so all =
      sym (append-nil list) ∙ ap (λ rest. list ++ renumbered t.exports root last rest) (sym (drop_all i es all))
      ∙ so.listed

  pub all-counted : (i last : ℕ) (list : List LivingExport) → IsSoFar t root es i last list → length es ≤ i →
      last ≡ t.last + new_count t.exports es
  all-counted i last list so all =
      let none : new_count t.exports (drop i es) ≡ 0 = ap (new_count t.exports) (drop_all i es all) in
      omega (arith, none, so.counted)

  module _ (i last : ℕ) (list : List LivingExport) (so : IsSoFar t root es i last list) (e : ExportValue)
      (at : slice_get es i ≡ Some e) where
    rest : drop i es ≡ e ∷ drop (i + 1) es
    rest = rest-from es i e at

    -- how many are new is the count of the rest, and one where this one is
    counts : (found : Option LivingExport) → export_with_path t.exports e.path ≡ found →
        new_count t.exports (drop i es) ≡ cond {A = ℕ} (is_none found) 1 0 + new_count t.exports (drop (i + 1) es)
    counts found there =
        ap (new_count t.exports) rest ∙ count-more t.exports e (drop (i + 1) es)
        ∙ ap (λ (o : Option LivingExport). cond {A = ℕ} (is_none o) 1 0 + new_count t.exports (drop (i + 1) es)) there

    counts-new : export_with_path t.exports e.path ≡ None →
        new_count t.exports (drop i es) ≡ 1 + new_count t.exports (drop (i + 1) es)
    counts-new none = counts None none

    -- a new number fits
    pub new-fits : export_with_path t.exports e.path ≡ None → is_exhausted t.exports t.last es ≡ false →
        last + 1 < 2 ^ 32
    new-fits none free =
        let one = counts-new none in
        let more : t.last < t.last + new_count t.exports es = omega (arith, one, so.counted, so.above) in
        let fits = room t.exports t.last es free more in
        omega (arith, one, so.counted, fits)

    -- and is not above the last that is to be
    pub new-below : export_with_path t.exports e.path ≡ None → last + 1 ≤ t.last + new_count t.exports es
    new-below none = (let one = counts-new none in omega (arith, one, so.counted))

    -- one more export
    pub one-more : (made : LivingExport) (n : ℕ) → AllByRecursion (IsNumbered t.last) t.exports →
        made ∷ [] ≡ renumbered t.exports root last (e ∷ []) → n ≡ max last made.number →
        IsSoFar t root es (i + 1) n (list ++ made ∷ [])
    one-more made n numbered is greatest = by (export_with_path t.exports e.path) refl is
      where
        goes-on : (found : Option LivingExport) → export_with_path t.exports e.path ≡ found →
            made ∷ renumbered t.exports root n (drop (i + 1) es) ≡
            by-found t.exports root last e (drop (i + 1) es) found →
            (list ++ made ∷ []) ++ renumbered t.exports root n (drop (i + 1) es) ≡
            renumbered t.exports root t.last es
        goes-on found there same =
            append_assoc list (made ∷ []) (renumbered t.exports root n (drop (i + 1) es))
            ∙ ap (λ xs. list ++ xs) (same ∙ sym (ap (by-found t.exports root last e (drop (i + 1) es)) there)
            ∙ ap (renumbered t.exports root last) (sym rest))
            ∙ so.listed

        by : (found : Option LivingExport) → export_with_path t.exports e.path ≡ found →
            made ∷ [] ≡ by-found t.exports root last e [] found → IsSoFar t root es (i + 1) n (list ++ made ∷ [])
        by (Some was) there one =
            let same : made ≡ record { number = was.number; root = was.root; value = e } = first-same one in
            let number : made.number ≡ was.number = ap (λ (x : LivingExport). x.number) same in
            let low : was.number ≤ t.last =
            (with-path (IsNumbered t.last) t.exports e.path was there numbered).0.2 in
            let stays : n ≡ last = omega (arith, greatest, number, low, so.above) in
            let counted : new_count t.exports (drop i es) ≡ 0 + new_count t.exports (drop (i + 1) es) =
            counts (Some was) there in
            record {
              listed = goes-on (Some was) there
                  (λ j. same j ∷ renumbered t.exports root (stays j) (drop (i + 1) es));
              counted = omega (arith, counted, so.counted, stays);
              above = omega (arith, so.above, stays);
            }
        by None there one =
            let same : made ≡ record { number = suc last; root = root (suc last); value = e } = first-same one in
            let number : made.number ≡ suc last = ap (λ (x : LivingExport). x.number) same in
            let next : n ≡ suc last = omega (arith, greatest, number) in
            let counted = counts-new there in
            record {
              listed = goes-on None there
                  (λ j. same j ∷ renumbered t.exports root (next j) (drop (i + 1) es));
              counted = omega (arith, counted, so.counted, next);
              above = omega (arith, so.above, next);
            }

-- ---- how many are new
pub few-new : (living : List LivingExport) (es : List ExportValue) → AreFaultless es → new_count living es ≤ 64
few-new living es faultless =
    let less = count_by-le-length (is_new living) es in
    let all = few es faultless in
    omega (arith, less, all)

-- with one export more
module _ (living : List LivingExport) (es : List ExportValue) (i : ℕ) (e : ExportValue) (at : slice_get es i ≡ Some e)
    (count : ℕ) (so : count ≡ new_count living (take i es)) where
  there : (b : Bool) → is_new living e ≡ b → is_new living (get_or es i e) ≡ b
  there b is = ap (is_new living) (get_or_from_slice_get es i e e at) ∙ is

  pub one-new : is_new living e ≡ true → count + 1 ≡ new_count living (take (i + 1) es)
  one-new new = ap (λ n. n + 1) so
      ∙ sym (count_by_more_yes (is_new living) es i e (slice_get_within es i e at) (there true new))

  pub none-new : is_new living e ≡ false → count ≡ new_count living (take (i + 1) es)
  none-new old = so ∙ sym (count_by_more_no (is_new living) es i e (slice_get_within es i e at) (there false old))
