-- Exports that are numbered anew.
use Rattle.std.proofs.Common.{◌≡◌, ◌==◌, ◌⊎◌, ℕ, suc, ◌+◌, ◌<◌, ◌≤◌, ◌^◌, true, false, cond, List, [], ◌∷◌, length}
use Rattle.std.proofs.Common.{Some, None, is_none, inl, inr, refl, sym, ◌∙◌, ap, subst, arith}
use Rattle.std.proofs.lemmas.List.Sums.{sum_by-cons}
use Rattle.std.specs.Cmp.Lexicographic.{bytes_decides}
use Rattle.std.specs.Cmp.{unsigned_Decides}
use Rattle.std.specs.List.{AllByRecursion}
use Rattle.nfs_machine.specs.Bytes.{same_bytes}
use Rattle.nfs_machine.specs.ExportFaults.{AreFaultless}
use Rattle.nfs_machine.specs.Exports.{ExportValue, LivingExport, numbered_exports}
use Rattle.nfs_machine.specs.Paths.{parts}
use Rattle.nfs_machine.specs.Replacing.{export_with_path, is_new, new_count, renumbered}
use Rattle.nfs_machine.specs.WellFormed.{AllApart, AreApart, IsNumbered}
use Rattle.nfs_machine.proofs.MapChangeLemmas.{apart}
use Rattle.nfs_machine.proofs.ExportOrderLemmas.{opened-apart}
use Rattle.nfs_machine.proofs.WellFormedLemmas.{all_both}

-- the export with a path has the path, and what all have
pub with-path : (P : LivingExport → Type 0) (exports : List LivingExport) (path : List ℕ) (e : LivingExport) →
    export_with_path exports path ≡ Some e → AllByRecursion P exports → P e × (e.path ≡ path)
with-path P [] path e found all = cc
with-path P (x ∷ exports) path e found all =
    elim (same_bytes x.path path) as (λ b. same_bytes x.path path ≡ b →
    cond b (Some x) (export_with_path exports path) ≡ Some e → P e × (e.path ≡ path)) [
      | true ↦ λ t is. (let same : x ≡ e = cc in
          subst (λ (y : LivingExport). P y × (y.path ≡ path)) same (all.0, (bytes_decides x.path path).0 t))
      | false ↦ λ t is. with-path P exports path e is all.1
    ] refl found

-- two that are found by paths are one, or apart
apart-mirror : (a b : LivingExport) → AreApart a b → AreApart b a
apart-mirror a b x = record {
  numbers = apart b.number a.number
      (λ e. (let no : true ≡ false = sym ((unsigned_Decides a.number b.number).1 (sym e)) ∙ x.numbers in cc));
  roots = apart b.root a.root
      (λ e. (let no : true ≡ false = sym ((unsigned_Decides a.root b.root).1 (sym e)) ∙ x.roots in cc));
  paths = λ e. x.paths (sym e);
}

found-apart : (exports : List LivingExport) (p q : List ℕ) (a b : LivingExport) → AllApart exports →
    export_with_path exports p ≡ Some a → export_with_path exports q ≡ Some b → (a ≡ b) ⊎ AreApart a b
found-apart [] p q a b all one other = cc
found-apart (x ∷ exports) p q a b all one other =
    elim (same_bytes x.path p) as (λ c. cond c (Some x) (export_with_path exports p) ≡ Some a
    → (a ≡ b) ⊎ AreApart a b) [
      | true ↦ λ is.
          let first : x ≡ a = cc in
          elim (same_bytes x.path q) as (λ c. cond c (Some x) (export_with_path exports q) ≡ Some b
          → (a ≡ b) ⊎ AreApart a b) [
            | true ↦ λ js. inl (let second : x ≡ b = cc in sym first ∙ second)
            | false ↦ λ js. inr (subst (λ (y : LivingExport). AreApart y b) first
                (with-path (AreApart x) exports q b js all.0).0)
          ] other
      | false ↦ λ is.
          elim (same_bytes x.path q) as (λ c. cond c (Some x) (export_with_path exports q) ≡ Some b
          → (a ≡ b) ⊎ AreApart a b) [
            | true ↦ λ js. inr (let second : x ≡ b = cc in
                subst (λ (y : LivingExport). AreApart a y) second
                (apart-mirror x a (with-path (AreApart x) exports p a is all.0).0))
            | false ↦ λ js. found-apart exports p q a b all.1 is js
          ] other
    ] one

pub count-more : (living : List LivingExport) (e : ExportValue) (es : List ExportValue) →
    new_count living (e ∷ es) ≡ cond {A = ℕ} (is_new living e) 1 0 + new_count living es
count-more living e es = sum_by-cons (λ x. cond {A = ℕ} (is_new living x) 1 0) e es

-- paths differ
abbrev pub PathsApart : List ExportValue → Type 0
PathsApart [] = Unit {0}
PathsApart (e ∷ es) = AllByRecursion (λ (f : ExportValue). parts e.path ≡ parts f.path → ⊥) es × PathsApart es

module _ (living : List LivingExport) (root : ℕ → ℕ) (last : ℕ) (top : ℕ) (all : AllApart living)
    (numbered : AllByRecursion (IsNumbered last) living)
    (lives : AllByRecursion (λ (x : LivingExport). (e : ℕ) → last < e → e ≤ top → (x.root == root e) ≡ false) living)
    (roots : (e f : ℕ) → last < e → e < f → f ≤ top → (root e == root f) ≡ false) where
  -- one that was exported, from all that follow
  kept-apart : (e : ExportValue) (was : LivingExport) → export_with_path living e.path ≡ Some was
      → (at : ℕ) (es : List ExportValue) → last ≤ at → at + new_count living es ≤ top
      → AllByRecursion (λ (f : ExportValue). parts e.path ≡ parts f.path → ⊥) es
      → AllByRecursion (AreApart (record { number = was.number; root = was.root; value = e }))
      (renumbered living root at es)
  kept-apart e was found at [] low high others = tt
  kept-apart e was found at (f ∷ es) low high others =
      elim (export_with_path living f.path) as (λ o. export_with_path living f.path ≡ o →
      AllByRecursion (AreApart (record { number = was.number; root = was.root; value = e }))
      (elim o [
        | Some then ↦ record { number = then.number; root = then.root; value = f } ∷ renumbered living root at es
        | None ↦ record { number = suc at; root = root (suc at); value = f } ∷ renumbered living root (suc at) es
      ])) [
        | Some then ↦ λ is.
            let fewer = count-more living f es in (
              elim (found-apart living e.path f.path was then all found is) [
                | inl same ↦ absurd (others.0
                    (ap parts (sym (with-path (λ x. Unit {0}) living e.path was found (every living)).1
                    ∙ ap (λ (x : LivingExport). x.path) same
                    ∙ (with-path (λ x. Unit {0}) living f.path then is (every living)).1)))
                | inr x ↦ record { numbers = x.numbers; roots = x.roots; paths = others.0 }
              ],
              kept-apart e was found at es low (omega (arith, fewer, high)) others.1,
            )
        | None ↦ λ is.
            let fewer = count-more living f es in
            let one : is_new living f ≡ true = ap is_none is in
            let more : new_count living (f ∷ es) ≡ 1 + new_count living es =
            fewer ∙ ap (λ b. cond {A = ℕ} b 1 0 + new_count living es) one in
            let own = (with-path (λ x. IsNumbered last x
            × ((n : ℕ) → last < n → n ≤ top → (x.root == root n) ≡ false)) living e.path was found
            (all_both (IsNumbered last) (λ x. (n : ℕ) → last < n → n ≤ top → (x.root == root n) ≡ false) living
            numbered lives)).0 in (
              record {
                numbers = apart was.number (suc at)
                    (λ same. (let less : was.number ≤ last = own.0.2 in omega (arith, same, less, low)));
                roots = own.1 (suc at) (omega (arith, low)) (omega (arith, more, high));
                paths = others.0;
              },
              kept-apart e was found (suc at) es (omega (arith, low)) (omega (arith, more, high)) others.1,
            )
      ] refl
    where
      every : (xs : List LivingExport) → AllByRecursion (λ x. Unit {0}) xs
      every [] = tt
      every (x ∷ xs) = (tt, every xs)

  -- a new one, with this number, from all that follow
  new-apart : (e : ExportValue) (number : ℕ) → last < number → (at : ℕ) (es : List ExportValue) → number ≤ at
      → at + new_count living es ≤ top
      → AllByRecursion (λ (f : ExportValue). parts e.path ≡ parts f.path → ⊥) es
      → AllByRecursion (AreApart (record { number = number; root = root number; value = e }))
      (renumbered living root at es)
  new-apart e number above at [] low high others = tt
  new-apart e number above at (f ∷ es) low high others =
      elim (export_with_path living f.path) as (λ o. export_with_path living f.path ≡ o →
      AllByRecursion (AreApart (record { number = number; root = root number; value = e }))
      (elim o [
        | Some then ↦ record { number = then.number; root = then.root; value = f } ∷ renumbered living root at es
        | None ↦ record { number = suc at; root = root (suc at); value = f } ∷ renumbered living root (suc at) es
      ])) [
        | Some then ↦ λ is.
            let fewer = count-more living f es in
            let own = (with-path (λ x. IsNumbered last x
            × ((n : ℕ) → last < n → n ≤ top → (x.root == root n) ≡ false)) living f.path then is
            (all_both (IsNumbered last) (λ x. (n : ℕ) → last < n → n ≤ top → (x.root == root n) ≡ false) living
            numbered lives)).0 in (
              record {
                numbers = apart number then.number
                    (λ same. (let less : then.number ≤ last = own.0.2 in omega (arith, same, less, above)));
                roots = apart (root number) then.root
                    (λ same. (let no : true ≡ false = sym ((unsigned_Decides then.root (root number)).1 (sym same))
                    ∙ own.1 number above (omega (arith, low, high)) in cc));
                paths = others.0;
              },
              new-apart e number above at es low (omega (arith, fewer, high)) others.1,
            )
        | None ↦ λ is.
            let fewer = count-more living f es in
            let one : is_new living f ≡ true = ap is_none is in
            let more : new_count living (f ∷ es) ≡ 1 + new_count living es =
            fewer ∙ ap (λ b. cond {A = ℕ} b 1 0 + new_count living es) one in (
              record {
                numbers = apart number (suc at) (λ same. omega (arith, same, low));
                roots = roots number (suc at) above (omega (arith, low)) (omega (arith, more, high));
                paths = others.0;
              },
              new-apart e number above (suc at) es (omega (arith, low)) (omega (arith, more, high)) others.1,
            )
      ] refl

  -- all are apart
  pub renumbered-apart : (at : ℕ) (es : List ExportValue) → last ≤ at → at + new_count living es ≤ top → PathsApart es
      → AllApart (renumbered living root at es)
  renumbered-apart at [] low high others = tt
  renumbered-apart at (e ∷ es) low high others =
      elim (export_with_path living e.path) as (λ o. export_with_path living e.path ≡ o →
      AllApart (elim o [
        | Some then ↦ record { number = then.number; root = then.root; value = e } ∷ renumbered living root at es
        | None ↦ record { number = suc at; root = root (suc at); value = e } ∷ renumbered living root (suc at) es
      ])) [
        | Some then ↦ λ is.
            let fewer = count-more living e es in
            let high' : at + new_count living es ≤ top = omega (arith, fewer, high) in
            (kept-apart e then is at es low high' others.0, renumbered-apart at es low high' others.1)
        | None ↦ λ is.
            let fewer = count-more living e es in
            let one : is_new living e ≡ true = ap is_none is in
            let more : new_count living (e ∷ es) ≡ 1 + new_count living es =
            fewer ∙ ap (λ b. cond {A = ℕ} b 1 0 + new_count living es) one in
            let high' : suc at + new_count living es ≤ top = omega (arith, more, high) in
            let low' : last ≤ suc at = omega (arith, low) in (
              new-apart e (suc at) (omega (arith, low)) (suc at) es (omega arith) high' others.0,
              renumbered-apart (suc at) es low' high' others.1,
            )
      ] refl

  -- each is numbered, up to the new last one
  pub renumbered-numbered : (last < top → top < 2 ^ 32) → (at : ℕ) (es : List ExportValue) → last ≤ at
      → at + new_count living es ≤ top
      → AllByRecursion (IsNumbered top) (renumbered living root at es)
  renumbered-numbered fits at [] low high = tt
  renumbered-numbered fits at (e ∷ es) low high =
      elim (export_with_path living e.path) as (λ o. export_with_path living e.path ≡ o →
      AllByRecursion (IsNumbered top) (elim o [
        | Some then ↦ record { number = then.number; root = then.root; value = e } ∷ renumbered living root at es
        | None ↦ record { number = suc at; root = root (suc at); value = e } ∷ renumbered living root (suc at) es
      ])) [
        | Some then ↦ λ is.
            let fewer = count-more living e es in
            let own = (with-path (IsNumbered last) living e.path then is numbered).0 in
            let less : then.number ≤ last = own.2 in (
              (own.0, own.1, omega (arith, less, low, high)),
              renumbered-numbered fits at es low
                  (omega (arith, fewer, high)),
            )
        | None ↦ λ is.
            let fewer = count-more living e es in
            let one : is_new living e ≡ true = ap is_none is in
            let more : new_count living (e ∷ es) ≡ 1 + new_count living es =
            fewer ∙ ap (λ b. cond {A = ℕ} b 1 0 + new_count living es) one in (
              (
                omega arith,
                (let whole = fits (omega (arith, low, more, high)) in omega (arith, more, high, whole)),
                omega (arith, more, high),
              ),
              renumbered-numbered fits (suc at) es (omega (arith, low)) (omega (arith, more, high)),
            )
      ] refl

-- a faultless list has other paths
numbered-paths : (k : ℕ) (es : List ExportValue) → AllApart (numbered_exports k es) → PathsApart es
numbered-paths k [] all = tt
numbered-paths k (e ∷ es) all = (others (k + 1) es all.0, numbered-paths (k + 1) es all.1)
  where
    others : (n : ℕ) (fs : List ExportValue)
        → AllByRecursion (AreApart (record { number = k; root = k; value = e })) (numbered_exports n fs)
        → AllByRecursion (λ (f : ExportValue). parts e.path ≡ parts f.path → ⊥) fs
    others n [] each = tt
    others n (f ∷ fs) each = ((each.0).paths, others (n + 1) fs each.1)

pub faultless-paths : (es : List ExportValue) → AreFaultless es → PathsApart es
faultless-paths es faultless = numbered-paths 1 es (opened-apart es faultless).1

pub length-renumbered : (living : List LivingExport) (root : ℕ → ℕ) (last : ℕ) (es : List ExportValue) →
    length (renumbered living root last es) ≡ length es
length-renumbered living root last [] = refl
length-renumbered living root last (e ∷ es) =
    elim (export_with_path living e.path) as (λ o. length {A = LivingExport} (elim o [
      | Some then ↦ record { number = then.number; root = then.root; value = e } ∷ renumbered living root last es
      | None ↦ record { number = suc last; root = root (suc last); value = e } ∷ renumbered living root (suc last) es
    ]) ≡ suc (length es)) [
      | Some then ↦ ap suc (length-renumbered living root last es)
      | None ↦ ap suc (length-renumbered living root (suc last) es)
    ]
