-- Exports stay with their roots where the objects of the roots live on; and what roots are.
use Rattle.std.proofs.Common.{◌≡◌, ◌==◌, ℕ, ◌≤◌, Bool, true, false, ◌||◌, cond, List, []}
use Rattle.std.proofs.Common.{◌∷◌, length, Some, None, refl, sym, ◌∙◌, ap, subst}
use Rattle.std.specs.Prelude.{IsSome}
use Rattle.std.specs.Cmp.{unsigned_Decides}
use Rattle.std.specs.FinMap.{get}
use Rattle.std.specs.List.{AllByRecursion, list_any}
use Rattle.nfs_machine.specs.Attributes.{is_directory}
use Rattle.nfs_machine.specs.Exports.{LivingExport, export_at}
use Rattle.nfs_machine.specs.Laws.{KeepsExports}
use Rattle.nfs_machine.specs.State.{Living, State}
use Rattle.nfs_machine.specs.WellFormed.{AllApart, ExportsStand, HasRoot, IsNumbered, is_root}
use Rattle.nfs_machine.proofs.MapChangeLemmas.{itself}
use Rattle.nfs_machine.proofs.WellFormedLemmas.{LivesOn, all_both, all_map}

-- what is true of all exports is true of the one with a number
pub export-all : (P : LivingExport → Type 0) (exports : List LivingExport) (number : ℕ) (e : LivingExport) →
    AllByRecursion P exports → export_at exports number ≡ Some e → P e
export-all P [] number e all found = cc
export-all P (x ∷ exports) number e all found =
    elim (x.number == number) as (λ b. cond b (Some x) (export_at exports number) ≡ Some e → P e) [
      | true ↦ λ is. (let same : x ≡ e = cc in subst P same all.0)
      | false ↦ λ is. export-all P exports number e all.1 is
    ] found

-- and it has that number
pub export-number : (exports : List LivingExport) (number : ℕ) (e : LivingExport) →
    export_at exports number ≡ Some e → e.number ≡ number
export-number [] number e found = cc
export-number (x ∷ exports) number e found =
    elim (x.number == number) as
    (λ b. (x.number == number) ≡ b → cond b (Some x) (export_at exports number) ≡ Some e →
    e.number ≡ number) [
      | true ↦ λ t is. (let same : x ≡ e = cc in subst (λ (y : LivingExport). y.number ≡ number) same
          ((unsigned_Decides x.number number).0 t))
      | false ↦ λ t is. export-number exports number e is
    ] refl found

abbrev pub roots_at : ℕ → LivingExport → Bool
roots_at number e = e.root == number

-- a root is that of an export
pub root-of : (P : LivingExport → Type 0) (exports : List LivingExport) (number : ℕ) →
    AllByRecursion P exports → list_any (roots_at number) exports ≡ true → (e : LivingExport) × P e ×
    (e.root ≡ number)
root-of P [] number all is = cc
root-of P (e ∷ exports) number all is =
    elim (e.root == number) as
    (λ b. (e.root == number) ≡ b → (b || list_any (roots_at number) exports) ≡ true → (x : LivingExport) ×
    P x × (x.root ≡ number)) [
      | true ↦ λ t i. (e, all.0, (unsigned_Decides e.root number).0 t)
      | false ↦ λ t i. root-of P exports number all.1 i
    ] refl is

or-later : (a b : Bool) → b ≡ true → (a || b) ≡ true
or-later true b e = refl
or-later false b e = e

-- the root of each is one
pub each-root : (exports : List LivingExport) →
    AllByRecursion (λ (e : LivingExport). list_any (roots_at e.root) exports ≡ true) exports
each-root [] = tt
each-root (e ∷ exports) = (
  ap (λ b. b || list_any (roots_at e.root) exports) (itself e.root),
  all_map (λ (x : LivingExport). list_any (roots_at x.root) exports ≡ true)
      (λ (x : LivingExport). list_any (roots_at x.root) (e ∷ exports) ≡ true)
      (λ x is. or-later (e.root == x.root) (list_any (roots_at x.root) exports) is) exports (each-root exports),
)

module _ (m : State) (stand : ExportsStand m) (number : ℕ) where
  -- what is free is no root
  pub free-no_root : get m.objects number ≡ None → is_root m number ≡ false
  free-no_root free =
      elim (is_root m number) as (λ b. is_root m number ≡ b → b ≡ false) [
        | true ↦ λ is. (let r = root-of
            (HasRoot m) m.exports number stand.rooted is in let lives = r.1.lives in
            let none : get m.objects r.0.root ≡ None = ap (get m.objects) r.2 ∙ free in cc)
        | false ↦ λ is. refl
      ] refl

  -- nor is what is no directory
  pub plain-no_root : (o : Living) → get m.objects number ≡ Some o → is_directory o.content ≡ false →
      is_root m number ≡ false
  plain-no_root o at plain =
      elim (is_root m number) as (λ b. is_root m number ≡ b → b ≡ false) [
        | true ↦ λ is.
            let r = root-of (HasRoot m) m.exports number stand.rooted is in
            let both : Some r.1.root ≡ Some o = sym r.1.lives ∙ ap (get m.objects) r.2 ∙ at in
            let same : r.1.root ≡ o = cc in
            let no : true ≡ false = sym r.1.directory ∙ ap
            (λ (x : Living). is_directory x.content) same ∙ plain in cc
        | false ↦ λ is. refl
      ] refl

module _ (old new : State) (keeps : KeepsExports old new) where
  -- the root of each lives on
  module _ (on : (n : ℕ) (o : Living) → get old.objects n ≡ Some o → is_root old n ≡ true → LivesOn new n o)
    where
      rooted-on : AllByRecursion (HasRoot old) old.exports → AllByRecursion (HasRoot new) old.exports
      rooted-on rooted =
          all_map (λ (e : LivingExport). HasRoot old e × (is_root old e.root ≡ true)) (HasRoot new)
          (λ e both. (let l = on e.root (both.0).root
          (both.0).lives both.1 in
          record {
            root = l.object;
            lives = l.lives;
            own = l.export ∙ (both.0).own;
            directory = l.kind ∙ (both.0).directory;
          }))
          old.exports (all_both (HasRoot old) (λ (e : LivingExport). is_root old e.root ≡ true) old.exports rooted
          (each-root old.exports))

      pub stand-on : ExportsStand old → ExportsStand new
      stand-on s = record {
        few = subst (λ (es : List LivingExport). length es ≤ 64) (sym keeps.exports) s.few;
        numbered = subst (λ last. AllByRecursion (IsNumbered last) new.exports) (sym keeps.last)
            (subst (AllByRecursion (IsNumbered old.last_export)) (sym keeps.exports) s.numbered);
        apart = subst AllApart (sym keeps.exports) s.apart;
        rooted = subst (AllByRecursion (HasRoot new)) (sym keeps.exports) (rooted-on s.rooted);
      }

  -- the export of what lives lives on
  pub exported-on : (was is : Living) → is.export ≡ was.export → IsSome (export_at old.exports was.export) →
      IsSome (export_at new.exports is.export)
  exported-on was is same some = subst (λ (es : List LivingExport). IsSome (export_at es is.export))
      (sym keeps.exports) (subst (λ k. IsSome (export_at old.exports k)) (sym same) some)
