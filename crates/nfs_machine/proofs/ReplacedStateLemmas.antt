-- A state whose exports were replaced is well formed.
use Rattle.std.proofs.Common.{◌≡◌, ◌==◌, ◌⊎◌, ℕ, zero, suc, ◌+◌, ◌<◌, ◌≤◌, ◌^◌, Bool, true, false, cond, List, [], ◌∷◌}
use Rattle.std.proofs.Common.{Option, Some, None, is_some, is_none, inl, inr, refl, sym, ◌∙◌, ap, subst, arith}
use Rattle.std.proofs.Common.{unwrap_or}
use Rattle.std.proofs.lemmas.List.Sums.{sum_by-cons}
use Rattle.std.specs.Cmp.{unsigned_Decides}
use Rattle.std.specs.FinMap.{FinMap, get, get-retain_keys, nat_cmp-IsAntisymmetric, values, entries}
use Rattle.std.specs.List.{AllByRecursion, count_by, list_any, sum_by, IsDistinct}
use Rattle.std.specs.Option.{option_map_or, option_and_then}
use Rattle.std.specs.Ordering.{nat_cmp}
use Rattle.nfs_wire.specs.declared.attributes.Time.{Time}
use Rattle.side_wire.specs.Messages.{HasLockForm}
use Rattle.side_wire.specs.declared.message.Message.{Message}
use Rattle.nfs_machine.specs.Attributes.{entries_of, is_living_directory, names_in, names_of}
use Rattle.nfs_machine.specs.Checks.{entry_of}
use Rattle.nfs_machine.specs.ExportFaults.{AreFaultless}
use Rattle.nfs_machine.specs.Exports.{ExportValue, LivingExport, export_at}
use Rattle.nfs_machine.specs.FileLists.{of_file}
use Rattle.nfs_machine.specs.Grants.{AllHeldUp}
use Rattle.nfs_machine.specs.Laws.{GivesOnce, KeepsCookies, Lived, NumbersOnce}
use Rattle.nfs_machine.specs.Locks.{AreListed, mode_at, modes_conflict, same_owner, same_sharer}
use Rattle.nfs_machine.specs.LocksFormed.{AreOfFiles, AreWaiting, IsFile, NoConflict, NoLocksConflict, NoSharesConflict}
use Rattle.nfs_machine.specs.LocksFormed.{count_of}
use Rattle.nfs_machine.specs.OneFile.{IsHeldUp}
use Rattle.nfs_machine.specs.Replacing.{AreFreshRoots, ReplaceStep, Replaces, RootChoice, export_with_path}
use Rattle.nfs_machine.specs.Replacing.{is_exhausted, new_count, new_root, renumbered, replaced, staying, with_roots}
use Rattle.nfs_machine.specs.Replacing.{of_living}
use Rattle.nfs_machine.specs.SideLaws.{LocksFit, OwnersFit}
use Rattle.nfs_machine.specs.State.{Directory, Entry, Living, State, Link, Lock, Owner, PendingGrant, Request, Share}
use Rattle.nfs_machine.specs.Times.{time_of}
use Rattle.nfs_machine.specs.WellFormed.{AllApart, CookiesRise, ExportsStand, HasRoot, IsDirectoryOf, IsNumbered, Leads}
use Rattle.nfs_machine.specs.WellFormed.{WellFormed, is_root}
use Rattle.nfs_machine.specs.declared.context.Ctx.{Ctx}
use Rattle.nfs_machine.proofs.MapChangeLemmas.{apart, itself, weight}
use Rattle.nfs_machine.proofs.DistinctLemmas.{distinct-none}
use Rattle.nfs_machine.proofs.ExportedLemmas.{each-root, export-all, export-number, root-of, roots_at}
use Rattle.nfs_machine.proofs.FileMapLemmas.{get-relisted, grants-left, has-left, kept, kept-is, total-entries}
use Rattle.nfs_machine.proofs.FirmLemmas.{Firm, files-relisted, firm-of, formed-of, none-listed, none-waiting}
use Rattle.nfs_machine.proofs.ExportOrderLemmas.{opened-apart}
use Rattle.nfs_machine.proofs.RenumberedExportsLemmas.{count-more, faultless-paths, length-renumbered, renumbered-apart}
use Rattle.nfs_machine.proofs.RenumberedExportsLemmas.{renumbered-numbered, with-path}
use Rattle.nfs_machine.proofs.MapSumLemmas.{get-inserted, sum-none}
use Rattle.nfs_machine.proofs.MapWeightLemmas.{weights-agree}
use Rattle.nfs_machine.proofs.WellFormedLemmas.{all_both, all_map}

-- ---- lists
own-number : (xs : List LivingExport) → AllApart xs
    → AllByRecursion (λ (e : LivingExport). export_at xs e.number ≡ Some e) xs
own-number [] all = tt
own-number (x ∷ xs) all = (
  ap (λ b. cond b (Some x) (export_at xs x.number)) (itself x.number),
  all_map (λ e. (AreOther e) × (export_at xs e.number ≡ Some e)) (λ e. export_at (x ∷ xs) e.number ≡ Some e)
      (λ e both. ap (λ b. cond b (Some x) (export_at xs e.number)) both.0 ∙ both.1) xs
      (all_both AreOther (λ e. export_at xs e.number ≡ Some e) xs (all_map _ AreOther (λ e a. a.numbers) xs all.0)
      (own-number xs all.1)),
)
  where
    AreOther : LivingExport → Type 0
    AreOther e = (x.number == e.number) ≡ false

pub some-number : (xs : List LivingExport)
    → AllByRecursion (λ (e : LivingExport). is_some (export_at xs e.number) ≡ true) xs
some-number [] = tt
some-number (x ∷ xs) = (
  ap (λ b. is_some (cond b (Some x) (export_at xs x.number))) (itself x.number),
  all_map (λ e. is_some (export_at xs e.number) ≡ true) (λ e. is_some (export_at (x ∷ xs) e.number) ≡ true)
      (λ e has. later e (x.number == e.number) has) xs (some-number xs),
)
  where
    later : (e : LivingExport) (b : Bool) → is_some (export_at xs e.number) ≡ true →
        is_some (cond b (Some x) (export_at xs e.number)) ≡ true
    later e true has = refl
    later e false has = has

-- where each export comes from
module _ (living : List LivingExport) (root : ℕ → ℕ) where
  abbrev pub Comes : (low high : ℕ) → LivingExport → Type 0
  Comes low high x = ((was : LivingExport) × (export_with_path living x.path ≡ Some was) × (x.number ≡ was.number)
      × (x.root ≡ was.root))
      ⊎ ((low < x.number) × (x.number ≤ high) × (x.root ≡ root x.number))

  pub comes : (low high at : ℕ) (es : List ExportValue) → low ≤ at → at + new_count living es ≤ high
      → AllByRecursion (Comes low high) (renumbered living root at es)
  comes low high at [] less most = tt
  comes low high at (e ∷ es) less most =
      elim (export_with_path living e.path) as (λ o. export_with_path living e.path ≡ o
      → AllByRecursion (Comes low high) (elim o [
        | Some then ↦ record { number = then.number; root = then.root; value = e } ∷ renumbered living root at es
        | None ↦ record { number = suc at; root = root (suc at); value = e } ∷ renumbered living root (suc at) es
      ])) [
        | Some then ↦ λ is. (let fewer = count-more living e es in
            (inl (then, is, refl, refl), comes low high at es less (omega (arith, fewer, most))))
        | None ↦ λ is.
            let more : new_count living (e ∷ es) ≡ 1 + new_count living es = count-more living e es
            ∙ ap (λ o. cond {A = ℕ} (is_none o) 1 0 + new_count living es) is in (
              inr (omega (arith, less), omega (arith, more, most), refl),
              comes low high (suc at) es (omega (arith, less)) (omega (arith, more, most)),
            )
      ] refl

  -- each new number is that of an export
  pub is-numbered : (n at : ℕ) (es : List ExportValue) → at < n → n ≤ at + new_count living es
      → is_some (export_at (renumbered living root at es) n) ≡ true
  is-numbered n at [] above most =
      absurd (let none : new_count living [] ≡ 0 = refl in omega (arith, above, most, none))
  is-numbered n at (e ∷ es) above most =
      elim (export_with_path living e.path) as (λ o. export_with_path living e.path ≡ o → is_some (export_at (elim o [
        | Some then ↦ record { number = then.number; root = then.root; value = e } ∷ renumbered living root at es
        | None ↦ record { number = suc at; root = root (suc at); value = e } ∷ renumbered living root (suc at) es
      ]) n) ≡ true) [
        | Some then ↦ λ is.
            let same : new_count living (e ∷ es) ≡ 0 + new_count living es = count-more living e es
            ∙ ap (λ o. cond {A = ℕ} (is_none o) 1 0 + new_count living es) is in
            elim (then.number == n) as (λ b. is_some
            (cond b (Some (record { number = then.number; root = then.root; value = e }))
            (export_at (renumbered living root at es) n)) ≡ true)
            [ true ↦ refl | false ↦ is-numbered n at es above (omega (arith, same, most)) ]
        | None ↦ λ is.
            let more : new_count living (e ∷ es) ≡ 1 + new_count living es = count-more living e es
            ∙ ap (λ o. cond {A = ℕ} (is_none o) 1 0 + new_count living es) is in
            elim (suc at == n) as (λ b. (suc at == n) ≡ b
            → is_some (cond b (Some (record { number = suc at; root = root (suc at); value = e }))
            (export_at (renumbered living root (suc at) es) n)) ≡ true) [
              | true ↦ λ here. refl
              | false ↦ λ other. elim (less-or (suc at) n) [
                | inl less ↦ is-numbered n (suc at) es less (omega (arith, more, most))
                | inr not ↦ absurd (let same : suc at ≡ n = omega (arith, not, above) in
                    (let no : true ≡ false = sym ((unsigned_Decides (suc at) n).1 same) ∙ other in cc))
              ]
            ] refl
      ] refl
    where
      less-or : (a b : ℕ) → (a < b) ⊎ (b ≤ a)
      less-or a zero = inr (omega arith)
      less-or zero (suc b) = inl (omega arith)
      less-or (suc a) (suc b) = elim (less-or a b) [ inl x ↦ inl (omega (arith, x)) | inr x ↦ inr (omega (arith, x)) ]

-- ---- the roots
module _ (choose : ℕ → RootChoice) (time : Time) (last : ℕ) (base : FinMap nat_cmp Living) where
  abbrev pub InRange : (count e : ℕ) → Type 0
  InRange count e = (last < e) × (e ≤ last + count)

  abbrev pub Elsewhere : (count n : ℕ) → Type 0
  Elsewhere count n = (e : ℕ) → InRange count e → ((choose e).number == n) ≡ false

  abbrev pub IsRootAt : (count n : ℕ) → Type 0
  IsRootAt count n = (e : ℕ) × InRange count e × ((choose e).number ≡ n)

  pub where-root : (count n : ℕ) → IsRootAt count n ⊎ Elsewhere count n
  where-root zero n = inr (λ e within. (let low = within.0 in let high = within.1 in absurd (omega (arith, low, high))))
  where-root (suc count) n =
      elim ((choose (last + suc count)).number == n) as (λ b. ((choose (last + suc count)).number == n) ≡ b →
      IsRootAt (suc count) n ⊎ Elsewhere (suc count) n) [
        | true ↦ λ here. inl (
          last + suc count,
          (omega arith, omega arith),
          (unsigned_Decides (choose (last + suc count)).number n).0 here,
        )
        | false ↦ λ other. elim (where-root count n) [
          | inl at ↦ inl (at.0, (at.1.0, (let high = at.1.1 in omega (arith, high))), at.2)
          | inr none ↦ inr (λ e within. by e within (e == last + suc count) refl other none)
        ]
      ] refl
    where
      by : (e : ℕ) → InRange (suc count) e → (b : Bool) → (e == last + suc count) ≡ b →
          ((choose (last + suc count)).number == n) ≡ false → Elsewhere count n → ((choose e).number == n) ≡ false
      by e within true same other none =
          ap (λ x. (choose x).number == n) ((unsigned_Decides e (last + suc count)).0 same) ∙ other
      by e within false differs other none = none e (within.0, below (within.1) differs)
        where
          below : e ≤ last + suc count → (e == last + suc count) ≡ false → e ≤ last + count
          below most differ' = elim (le-or e (last + count)) [
            | inl less ↦ less
            | inr more ↦ absurd (let same : e ≡ last + suc count = omega (arith, more, most) in
                (let no : true ≡ false = sym ((unsigned_Decides e (last + suc count)).1 same) ∙ differ' in cc))
          ]
            where
              le-or : (a b : ℕ) → (a ≤ b) ⊎ (b < a)
              le-or zero b = inl (omega arith)
              le-or (suc a) zero = inr (omega arith)
              le-or (suc a) (suc b) =
                  elim (le-or a b) [ inl x ↦ inl (omega (arith, x)) | inr x ↦ inr (omega (arith, x)) ]

  pub elsewhere-get : (count n : ℕ) → Elsewhere count n → get (with_roots choose time last count base) n ≡ get base n
  elsewhere-get zero n none = refl
  elsewhere-get (suc count) n none =
      let top : last + suc count ≤ last + suc count = omega arith in
      let above : last < last + suc count = omega arith in
      let off : (n == (choose (last + suc count)).number) ≡ false = apart n (choose (last + suc count)).number
      (λ same. (let no : true ≡ false = sym ((unsigned_Decides (choose (last + suc count)).number n).1 (sym same))
      ∙ none (last + suc count) (above, top) in cc)) in
      get-inserted (with_roots choose time last count base) (choose (last + suc count)).number
      (new_root (last + suc count) (choose (last + suc count)).generation time) n
      ∙ ap (λ b. cond b (Some (new_root (last + suc count) (choose (last + suc count)).generation time))
      (get (with_roots choose time last count base) n)) off
      ∙ elsewhere-get count n (λ e within. none e (within.0, (let high = within.1 in omega (arith, high))))

  pub root-get : (count : ℕ)
      → ((e f : ℕ) → last < e → e < f → f ≤ last + count → ((choose e).number == (choose f).number) ≡ false)
      → (e : ℕ) → InRange count e → get (with_roots choose time last count base) (choose e).number ≡
      Some (new_root e (choose e).generation time)
  root-get zero differ e within = absurd (let low = within.0 in let high = within.1 in omega (arith, low, high))
  root-get (suc count) differ e within =
      get-inserted (with_roots choose time last count base) (choose (last + suc count)).number
      (new_root (last + suc count) (choose (last + suc count)).generation time) (choose e).number
      ∙ by (e == last + suc count) refl
      (root-get count (λ f g low between high. differ f g low between (omega (arith, high))) e)
    where
      by : (b : Bool) → (e == last + suc count) ≡ b → (InRange count e →
          get (with_roots choose time last count base) (choose e).number
          ≡ Some (new_root e (choose e).generation time))
          → cond ((choose e).number == (choose (last + suc count)).number)
          (Some (new_root (last + suc count) (choose (last + suc count)).generation time))
          (get (with_roots choose time last count base) (choose e).number)
          ≡ Some (new_root e (choose e).generation time)
      by true is rest =
          let same : e ≡ last + suc count = (unsigned_Decides e (last + suc count)).0 is in
          ap (λ b. cond b (Some (new_root (last + suc count) (choose (last + suc count)).generation time))
          (get (with_roots choose time last count base) (choose e).number))
          ((unsigned_Decides (choose e).number (choose (last + suc count)).number).1 (ap (λ x. (choose x).number) same))
          ∙ ap (λ x. Some (new_root x (choose x).generation time)) (sym same)
      by false differs rest =
          let less : e < last + suc count = below within.1 differs in
          ap (λ b. cond b (Some (new_root (last + suc count) (choose (last + suc count)).generation time))
          (get (with_roots choose time last count base) (choose e).number))
          (differ e (last + suc count) within.0 less (omega arith))
          ∙ rest (within.0, omega (arith, less))
        where
          below : e ≤ last + suc count → (e == last + suc count) ≡ false → e < last + suc count
          below most differ' = elim (lt-or e (last + suc count)) [
            | inl less ↦ less
            | inr more ↦ absurd (let same : e ≡ last + suc count = omega (arith, more, most) in
                (let no : true ≡ false = sym ((unsigned_Decides e (last + suc count)).1 same) ∙ differ' in cc))
          ]
            where
              lt-or : (a b : ℕ) → (a < b) ⊎ (b ≤ a)
              lt-or a zero = inr (omega arith)
              lt-or zero (suc b) = inl (omega arith)
              lt-or (suc a) (suc b) =
                  elim (lt-or a b) [ inl x ↦ inl (omega (arith, x)) | inr x ↦ inr (omega (arith, x)) ]

-- ---- the state
module _ (m : State) (exports : List ExportValue) (choose : ℕ → RootChoice) (spent : ℕ → ℕ → Bool) (time : Time)
    (fresh : AreFreshRoots m choose spent m.last_export (new_count m.exports exports)) where
  abbrev root : ℕ → ℕ
  root e = (choose e).number

  abbrev count : ℕ
  count = new_count m.exports exports

  abbrev top : ℕ
  top = m.last_export + count

  abbrev living : List LivingExport
  living = renumbered m.exports root m.last_export exports

  abbrev stay : FinMap nat_cmp Living
  stay = staying living m.objects

  abbrev new : State
  new = replaced m exports choose spent time

  abbrev pub Within : ℕ → Type 0
  Within e = InRange choose time m.last_export stay count e

  -- a number that is chosen is that of nothing that lived
  pub free : (e : ℕ) → Within e → get m.objects (root e) ≡ None
  free e within = (fresh.fresh e within.0 within.1).free

  pub lived-elsewhere : (n : ℕ) (o : Living) → get m.objects n ≡ Some o
      → Elsewhere choose time m.last_export stay count n
  lived-elsewhere n o at e within = apart (root e) n (λ same.
      (let both : None ≡ Some o = sym (free e within) ∙ ap (get m.objects) same ∙ at in cc))

  abbrev stays : Option Living → Bool
  stays o = option_map_or (λ (x : Living). is_some (export_at living x.export)) o false

  pub got : (n : ℕ) → get stay n ≡ cond (stays (get m.objects n)) (get m.objects n) None
  got n = get-retain_keys m.objects (λ q. stays (get m.objects q)) n
      (λ x tied. ap (λ q. stays (get m.objects q)) (sym (nat_cmp-IsAntisymmetric n x tied)))

  -- what lives on
  pub on : (n : ℕ) (o : Living) → get m.objects n ≡ Some o → is_some (export_at living o.export) ≡ true
      → get new.objects n ≡ Some o
  on n o at lives = elsewhere-get choose time m.last_export stay count n (lived-elsewhere n o at)
      ∙ got n ∙ ap (λ b. cond b (get m.objects n) None) (ap stays at ∙ lives) ∙ at

  pub rooted : (e : ℕ) → Within e → get new.objects (root e) ≡ Some (new_root e (choose e).generation time)
  rooted e within = root-get choose time m.last_export stay count fresh.apart e within

  pub record IsOld (n : ℕ) (o : Living) : Type 0 where
    pub at : get m.objects n ≡ Some o
    pub lives : is_some (export_at living o.export) ≡ true

  pub record IsNew (n : ℕ) (o : Living) : Type 0 where
    pub e : ℕ
    pub within : Within e
    pub at : root e ≡ n
    pub is : new_root e (choose e).generation time ≡ o

  -- what lives is what lived, of an export that lives, or a root
  pub what-lives : (n : ℕ) (o : Living) → get new.objects n ≡ Some o → IsOld n o ⊎ IsNew n o
  what-lives n o at = elim (where-root choose time m.last_export stay count n) [
    | inl r ↦ inr (record {
      e = r.0;
      within = r.1;
      at = r.2;
      is = (let both : Some (new_root r.0 (choose r.0).generation time) ≡ Some o =
          sym (rooted r.0 r.1) ∙ ap (get new.objects) r.2 ∙ at in cc);
    })
    | inr none ↦ inl (of (get m.objects n) refl
        (sym (got n) ∙ sym (elsewhere-get choose time m.last_export stay count n none) ∙ at))
  ]
    where
      of : (x : Option Living) → get m.objects n ≡ x → cond (stays (get m.objects n)) (get m.objects n) None ≡ Some o
          → IsOld n o
      of None is there = (let no : None ≡ Some o = sym (ap (λ x. cond (stays x) x None) is) ∙ there in cc)
      of (Some x) is there =
          by (is_some (export_at living x.export)) refl (sym (ap (λ x. cond (stays x) x None) is) ∙ there)
        where
          by : (b : Bool) → is_some (export_at living x.export) ≡ b → cond b (Some x) None ≡ Some o → IsOld n o
          by true lives both = (let same : x ≡ o = cc in record {
            at = is ∙ ap Some same;
            lives = subst (λ (y : Living). is_some (export_at living y.export) ≡ true) same lives;
          })
          by false gone both = cc

  -- ---- locks
  abbrev on-it : ℕ → Bool
  on-it n = is_some (get stay n)

  list-is : (A : Type 0) (lists : FinMap nat_cmp (List A)) (n : ℕ)
      → of_file (of_living stay lists) n ≡ cond (on-it n) (of_file lists n) []
  list-is A lists n =
      ap (λ o. unwrap_or o []) (get-relisted (λ file list. cond (on-it file) list []) lists n)
      ∙ elim (get lists n) as (λ o. unwrap_or (option_and_then (λ list. kept (cond (on-it n) list [])) o) []
      ≡ cond (on-it n) (unwrap_or o []) []) [
        | None ↦ nothing (on-it n)
        | Some list ↦ kept-is (cond (on-it n) list [])
      ]
    where
      nothing : (b : Bool) → ◌≡◌ {A = List A} [] (cond b [] [])
      nothing true = refl
      nothing false = refl

  -- what is true of no list, and of each that is kept
  each-kept : (A : Type 0) (lists : FinMap nat_cmp (List A)) (P : ℕ → List A → Type 0) → ((q : ℕ) → P q [])
      → ((q : ℕ) → P q (of_file lists q))
      → (q : ℕ) → P q (of_file (of_living stay lists) q)
  each-kept A lists P none all q = subst (P q) (sym (list-is A lists q))
      (elim (on-it q) as (λ b. P q (cond b (of_file lists q) [])) [ true ↦ all q | false ↦ none q ])

  listed-on : (A : Type 0) (lists : FinMap nat_cmp (List A)) (n : ℕ) (list : List A)
      → get (of_living stay lists) n ≡ Some list → on-it n ≡ true
  listed-on A lists n list at = by (on-it n) refl
    where
      none : (o : Option (List A)) → option_and_then (λ (l : List A). kept {A = A} []) o ≡ Some list → ⊥
      none None is = cc
      none (Some l) is = cc

      by : (b : Bool) → on-it n ≡ b → on-it n ≡ true
      by true is = is
      by false is = absurd (none (get lists n)
          (sym (ap (λ b. option_and_then (λ (l : List A). kept (cond b l [])) (get lists n)) is)
          ∙ sym (get-relisted (λ file list. cond (on-it file) list []) lists n) ∙ at))

  file-on : (n : ℕ) → IsFile m.objects n → on-it n ≡ true → IsFile new.objects n
  file-on n file live =
      let lives : is_some (export_at living file.object.export) ≡ true =
      by (is_some (export_at living file.object.export)) refl
      (ap is_some (sym (got n ∙ ap (λ x. cond (stays x) x None) file.lives)) ∙ live) in
      record { object = file.object; lives = on n file.object file.lives lives; regular = file.regular }
    where
      by : (b : Bool) → is_some (export_at living file.object.export) ≡ b → is_some (cond b (Some file.object) None)
          ≡ true → is_some (export_at living file.object.export) ≡ true
      by true is some = is
      by false is some = cc

  files-kept : (A : Type 0) (lists : FinMap nat_cmp (List A)) → AreOfFiles m.objects lists
      → AreOfFiles new.objects (of_living stay lists)
  files-kept A lists of =
      let anew = files-relisted m.objects lists of (λ file list. cond (on-it file) list []) in
      record {
        files = λ n list at. file-on n (anew.files n list at) (listed-on A lists n list at);
        some = anew.some;
      }

  none-apart : (a b : Owner) (offset : ℕ) → same_owner a b ≡ false
      → modes_conflict (mode_at [] a offset) (mode_at [] b offset) ≡ false
  none-apart a b offset other = refl

  pub apart-kept : NoConflict m → NoConflict new
  apart-kept none q = (
    each-kept Lock m.locks (λ n l. NoLocksConflict l) (λ n. none-apart) (λ n. (none n).0) q,
    each-kept Share m.shares (λ n l. NoSharesConflict l) (λ n. tt) (λ n. (none n).1) q,
  )

  pub waits-kept : AllHeldUp m → AllHeldUp new
  waits-kept held q =
      subst (λ (l : List Lock). AllByRecursion (IsHeldUp l) (of_file (of_living stay m.waiting) q))
      (sym (list-is Lock m.locks q))
      (subst (AllByRecursion (IsHeldUp (cond (on-it q) (of_file m.locks q) []))) (sym (list-is Request m.waiting q))
      (elim (on-it q) as (λ b. AllByRecursion (IsHeldUp (cond b (of_file m.locks q) []))
      (cond b (of_file m.waiting q) []))
      [ true ↦ held q | false ↦ tt ]))

  abbrev goes : PendingGrant → Bool
  goes g = is_none (get stay g.file)

  pub firm-kept : Firm m → Firm new
  firm-kept l = record {
    locks = files-kept Lock m.locks l.locks;
    shares = files-kept Share m.shares l.shares;
    waiting = files-kept Request m.waiting l.waiting;
    listed = each-kept Lock m.locks (λ q (x : List Lock). AreListed x) (λ q. none-listed) l.listed;
    sharers = each-kept Share m.shares (λ q (x : List Share). IsDistinct same_sharer x)
        (λ q. distinct-none same_sharer) l.sharers;
    requests = each-kept Request m.waiting AreWaiting none-waiting l.requests;
    pending = λ n g at.
        let left = grants-left goes m.granted n g at in
        let is = l.pending n g left.0 in
        record {
          file = file-on g.file is.file (alive (get stay g.file) left.1);
          range = is.range;
          own = is.own;
          suits = is.suits;
        };
    numbers = λ n.
        let was = l.numbers n in
        let fewer = has-left goes m.granted n in
        omega (arith, was, fewer, fewer-wait n);
  }
    where
      alive : (o : Option Living) → is_none o ≡ false → is_some o ≡ true
      alive None e = cc
      alive (Some x) e = refl

      fewer-wait : (n : ℕ) → sum_by (count_of n) (values (of_living stay m.waiting)) ≤ sum_by (count_of n)
          (values m.waiting)
      fewer-wait n = total-entries (count_of n) refl (λ file list. cond (on-it file) list [])
          (λ q list. elim (on-it q) as (λ b. count_of n (cond b list []) ≤ count_of n list)
          [ true ↦ omega arith | false ↦ omega arith ]) (entries m.waiting)

  -- ---- what each step keeps
  pub gives-once : GivesOnce m new
  gives-once = record {
    kept = fresh.kept;
    handles = λ n g lives. elim (what-lives n lives.object lives.lives) [
      | inl was ↦ inl (record { object = lives.object; lives = was.at; generation_is = lives.generation_is })
      | inr r ↦
          let is : g ≡ (choose r.e).generation =
          sym lives.generation_is ∙ ap (λ (x : Living). x.generation) (sym r.is) in
          let own = fresh.fresh r.e r.within.0 r.within.1 in
          inr (
            ap (λ k. m.spent k g) (sym r.at) ∙ ap (m.spent (root r.e)) is ∙ own.never_given,
            ap (λ k. spent k g) (sym r.at) ∙ ap (spent (root r.e)) is ∙ own.given,
            subst (λ k. k < 2 ^ 64) r.at own.number_fits,
            subst (λ k. k < 2 ^ 64) (sym is) own.generation_fits,
          )
    ];
  }

  -- what lived and lives is the same object
  pub same-object : (n : ℕ) (was is : Living) → get m.objects n ≡ Some was → get new.objects n ≡ Some is → is ≡ was
  same-object n was is at there = elim (what-lives n is there) [
    | inl old ↦ (let both : Some is ≡ Some was = sym old.at ∙ at in cc)
    | inr r ↦ (let both : None ≡ Some was = sym (free r.e r.within) ∙ ap (get m.objects) r.at ∙ at in cc)
  ]

  pub still-lives : (n : ℕ) (is : Living) → get m.objects n ≡ Some is → get new.objects n ≡ Some is
      → is_some (export_at living is.export) ≡ true
  still-lives n is at there = elim (what-lives n is there) [
    | inl old ↦ old.lives
    | inr r ↦ (let both : None ≡ Some is = sym (free r.e r.within) ∙ ap (get m.objects) r.at ∙ at in cc)
  ]

  pub cookies-kept : KeepsCookies m new
  cookies-kept n was is at there name e f one other same =
      let alike : is ≡ was = same-object n was is at there in
      let both : Some f ≡ Some e = sym other ∙ ap (λ (x : Living). entry_of (entries_of x.content) name) alike
      ∙ one in cc

  pub bounds-kept : LocksFit m → LocksFit new
  bounds-kept fit q = (
    each-kept Lock m.locks (λ n l. OwnersFit l) (λ n owner offset has. absurd (has refl)) (λ n. (fit n).0) q,
    each-kept Request m.waiting (λ n l. AllByRecursion (λ (r : Request). HasLockForm r.asked) l) (λ n. tt)
        (λ n. (fit n).1) q,
  )

  module _ (w : WellFormed m) (faultless : AreFaultless exports) (fits : m.last_export < top → top < 2 ^ 32) where
    -- ---- exports
    old : ExportsStand m
    old = w.exports

    all-come : AllByRecursion (Comes m.exports root m.last_export top) living
    all-come = comes m.exports root m.last_export top m.last_export exports (omega arith) (omega arith)

    -- what is true of each export that lived
    abbrev Was : LivingExport → Type 0
    Was e = (IsNumbered m.last_export e × HasRoot m e) × (export_at m.exports e.number ≡ Some e)

    were : AllByRecursion Was m.exports
    were = all_both (λ e. IsNumbered m.last_export e × HasRoot m e) (λ e. export_at m.exports e.number ≡ Some e)
        m.exports
        (all_both (IsNumbered m.last_export) (HasRoot m) m.exports old.numbered old.rooted)
        (own-number m.exports old.apart)

    roots-apart : AllByRecursion (λ (x : LivingExport). (e : ℕ) → m.last_export < e → e ≤ top
        → (x.root == root e) ≡ false) m.exports
    roots-apart = all_map (HasRoot m) (λ x. (e : ℕ) → m.last_export < e → e ≤ top → (x.root == root e) ≡ false)
        (λ x has e low high. apart x.root (root e) (λ same.
        (let both : Some has.root ≡ None = sym has.lives ∙ ap (get m.objects) same ∙ free e (low, high) in cc)))
        m.exports old.rooted

    all-some : AllByRecursion (λ (e : LivingExport). is_some (export_at living e.number) ≡ true) living
    all-some = some-number living

    has-root : (x : LivingExport) → Comes m.exports root m.last_export top x
        × (is_some (export_at living x.number) ≡ true) → HasRoot new x
    has-root x (inl (was, found, number, at), some) =
        let own = (with-path Was m.exports x.path was found were).0 in
        let has = own.0.1 in
        record {
          root = has.root;
          lives = ap (get new.objects) at ∙ on was.root has.root has.lives
              (ap (λ n. is_some (export_at living n)) (has.own ∙ sym number) ∙ some);
          own = has.own ∙ sym number;
          directory = has.directory;
        }
    has-root x (inr (low, high, at), some) = record {
      root = new_root x.number (choose x.number).generation time;
      lives = ap (get new.objects) at ∙ rooted x.number (low, high);
      own = refl;
      directory = refl;
    }

    pub exports-formed : ExportsStand new
    exports-formed = record {
      few = (let long = length-renumbered m.exports root m.last_export exports in
          let most = (opened-apart exports faultless).0 in
          omega (arith, long, most));
      numbered = renumbered-numbered m.exports root m.last_export top old.apart old.numbered roots-apart
          (λ e f low between high. fresh.apart e f low between high) fits m.last_export exports (omega arith)
          (omega arith);
      apart = renumbered-apart m.exports root m.last_export top old.apart old.numbered roots-apart
          (λ e f low between high. fresh.apart e f low between high) m.last_export exports (omega arith) (omega arith)
          (faultless-paths exports faultless);
      rooted = all_map (λ x. Comes m.exports root m.last_export top x × (is_some (export_at living x.number) ≡ true))
          (HasRoot new) has-root living
          (all_both (Comes m.exports root m.last_export top) (λ x. is_some (export_at living x.number) ≡ true) living
          all-come all-some);
    }

    -- ---- names
    none-named : (n : ℕ) (es : List Entry) → AllByRecursion (λ (e : Entry). (e.number == n) ≡ false) es
        → count_by (λ (e : Entry). e.number == n) es ≡ 0
    none-named n [] all = refl
    none-named n (e ∷ es) all =
        let here : cond {A = ℕ} (e.number == n) 1 0 ≡ 0 = ap (λ b. cond {A = ℕ} b 1 0) all.0 in
        let there : sum_by (λ (e : Entry). cond {A = ℕ} (e.number == n) 1 0) es ≡ 0 = none-named n es all.1 in
        omega (arith, here, there, sum_by-cons (λ (e : Entry). cond {A = ℕ} (e.number == n) 1 0) e es)

    -- what lives at a number, if anything does, stays
    abbrev IsSafe : ℕ → Type 0
    IsSafe n = (o : Living) → get m.objects n ≡ Some o → is_some (export_at living o.export) ≡ true

    gone-names : (n q : ℕ) (o : Living) → IsSafe n → get m.objects q ≡ Some o
        → is_some (export_at living o.export) ≡ false
        → names_in n o ≡ 0
    gone-names n q o safe at gone =
        none-named n (entries_of o.content) (all_map (Leads m o) (λ e. (e.number == n) ≡ false)
        (λ e leads. apart e.number n (λ same.
        (let lives = safe leads.object (ap (get m.objects) (sym same) ∙ leads.lives) in
        let no : true ≡ false = sym lives ∙ ap (λ x. is_some (export_at living x)) leads.export ∙ gone in cc)))
        (entries_of o.content) (w.names q o at).leads)

    names-same : (n : ℕ) → IsSafe n → names_of new n ≡ names_of m n
    names-same n safe = weights-agree (names_in n) new.objects m.objects
        (λ q. elim (where-root choose time m.last_export stay count q) [
          | inl r ↦
              ap (weight (names_in n)) (ap (get new.objects) (sym r.2) ∙ rooted r.0 r.1)
              ∙ sym (ap (weight (names_in n)) (ap (get m.objects) (sym r.2) ∙ free r.0 r.1))
          | inr none ↦
              ap (weight (names_in n)) (elsewhere-get choose time m.last_export stay count q none ∙ got q)
              ∙ by q (get m.objects q) refl
        ])
      where
        by : (q : ℕ) (x : Option Living) → get m.objects q ≡ x
            → weight (names_in n) (cond (stays (get m.objects q)) (get m.objects q) None)
            ≡ weight (names_in n) (get m.objects q)
        by q None is = ap (λ x. weight (names_in n) (cond (stays x) x None)) is ∙ sym (ap (weight (names_in n)) is)
        by q (Some o) is =
            ap (λ x. weight (names_in n) (cond (stays x) x None)) is
            ∙ elim (is_some (export_at living o.export)) as (λ b. is_some (export_at living o.export) ≡ b →
            weight (names_in n) (cond b (Some o) None) ≡ names_in n o)
            [ true ↦ λ e. refl | false ↦ λ gone. sym (gone-names n q o safe is gone) ] refl
            ∙ sym (ap (weight (names_in n)) is)

    unnamed : (n : ℕ) → get m.objects n ≡ None → names_of m n ≡ 0
    unnamed n none = sum-none (names_in n) m.objects (λ q o at. none-named n (entries_of o.content)
        (all_map (Leads m o) (λ e. (e.number == n) ≡ false) (λ e leads. apart e.number n (λ same.
        (let both : None ≡ Some leads.object = sym none ∙ ap (get m.objects) (sym same) ∙ leads.lives in cc)))
        (entries_of o.content) (w.names q o at).leads))

    -- ---- roots
    no-root : (n : ℕ) (o : Living) → get m.objects n ≡ Some o → is_root m n ≡ false → is_root new n ≡ false
    no-root n o at plain = elim (is_root new n) as (λ b. is_root new n ≡ b → b ≡ false) [
      | false ↦ λ is. refl
      | true ↦ λ is.
          let r = root-of (Comes m.exports root m.last_export top) living n all-come is in
          absurd (by r.0 r.1 r.2)
    ] refl
      where
        by : (x : LivingExport) → Comes m.exports root m.last_export top x → x.root ≡ n → ⊥
        by x (inl (was, found, number, is)) here =
            let is_one = (with-path (λ e. list_any (roots_at e.root) m.exports ≡ true) m.exports x.path was found
            (each-root m.exports)).0 in
            let no : true ≡ false = sym is_one ∙ ap (is_root m) (sym is ∙ here) ∙ plain in cc
        by x (inr (low, high, is)) here =
            let both : None ≡ Some o = sym (free x.number (low, high)) ∙ ap (get m.objects) (sym is ∙ here) ∙ at in cc

    -- an export of the new list with a number that was used is the one that it was
    same-was : (e : LivingExport) → Was e → is_some (export_at living e.number) ≡ true → is_root new e.root ≡ true
    same-was e was some = by (export_at living e.number) refl some
      where
        from : (y : LivingExport) → export_at living e.number ≡ Some y → Comes m.exports root m.last_export top y
            → is_root new e.root ≡ true
        from y found (inl (before, at, number, is)) =
            let own = (with-path Was m.exports y.path before at were).0 in
            let same : before ≡ e = (let both : Some before ≡ Some e = sym own.1
            ∙ ap (export_at m.exports) (sym number ∙ export-number living e.number y found) ∙ was.1 in cc) in
            ap (is_root new) (sym (is ∙ ap (λ (x : LivingExport). x.root) same))
            ∙ export-all (λ x. list_any (roots_at x.root) living ≡ true) living e.number y (each-root living) found
        from y found (inr (low, high, is)) =
            absurd (let used : e.number ≤ m.last_export = was.0.0.2 in
            let number = export-number living e.number y found in
            omega (arith, used, number, low))

        by : (o : Option LivingExport) → export_at living e.number ≡ o → is_some o ≡ true → is_root new e.root ≡ true
        by None found some = cc
        by (Some y) found some =
            from y found (export-all (Comes m.exports root m.last_export top) living e.number y all-come found)

    pub still-root : (n : ℕ) (o : Living) → get m.objects n ≡ Some o → is_some (export_at living o.export) ≡ true
        → is_root m n ≡ true
        → is_root new n ≡ true
    still-root n o at lives is =
        let r = root-of Was m.exports n were is in
        let own : o.export ≡ (r.0).number =
        (let both : Some (r.1.0.1).root ≡ Some o = sym (r.1.0.1).lives ∙ ap (get m.objects) r.2 ∙ at in
        let same : (r.1.0.1).root ≡ o = cc in ap (λ (x : Living). x.export) (sym same) ∙ (r.1.0.1).own) in
        ap (is_root new) (sym r.2) ∙ same-was r.0 r.1 (ap (λ x. is_some (export_at living x)) (sym own) ∙ lives)

    new-numbered : (e : ℕ) → Within e → is_some (export_at living e) ≡ true
    new-numbered e within = is-numbered m.exports root e m.last_export exports within.0 within.1

    pub is-new-root : (e : ℕ) → Within e → is_root new (root e) ≡ true
    is-new-root e within = by (export_at living e) refl (new-numbered e within)
      where
        from : (y : LivingExport) → export_at living e ≡ Some y → Comes m.exports root m.last_export top y
            → is_root new (root e) ≡ true
        from y found (inl (before, at, number, is)) =
            absurd (let used : before.number ≤ m.last_export =
            (with-path (IsNumbered m.last_export) m.exports y.path before at old.numbered).0.2 in
            let own = export-number living e y found in let low = within.0 in omega (arith, used, number, own, low))
        from y found (inr (low, high, is)) =
            ap (is_root new) (sym (is ∙ ap root (export-number living e y found)))
            ∙ export-all (λ x. list_any (roots_at x.root) living ≡ true) living e y (each-root living) found

        by : (o : Option LivingExport) → export_at living e ≡ o → is_some o ≡ true → is_root new (root e) ≡ true
        by None found some = cc
        by (Some y) found some =
            from y found (export-all (Comes m.exports root m.last_export top) living e y all-come found)

    -- ---- all of it
    root-content : (entries : List Entry) (last : ℕ) → Directory [] 2 ≡ Directory entries last
        → CookiesRise 2 entries last
    root-content entries last is =
        let none : [] ≡ entries = cc in
        let two : 2 ≡ last = cc in
        subst (λ k. CookiesRise 2 entries k) two (subst (λ (xs : List Entry). CookiesRise 2 xs 2) none (omega arith))

    -- in the new state a name leads where it led
    leads-on : (o : Living) (e : Entry) → is_some (export_at living o.export) ≡ true → Leads m o e → Leads new o e
    leads-on o e lives leads = record {
      object = leads.object;
      lives = on e.number leads.object leads.lives (ap (λ x. is_some (export_at living x)) leads.export ∙ lives);
      export = leads.export;
      no_root = no-root e.number leads.object leads.lives leads.no_root;
    }

    pub formed : WellFormed new
    formed = record {
      exports = exports-formed;
      exported = λ n o at. elim (what-lives n o at) [
        | inl was ↦ was.lives
        | inr r ↦ subst (λ (x : Living). is_some (export_at living x.export) ≡ true) r.is (new-numbered r.e r.within)
      ];
      names = λ n o at. elim (what-lives n o at) [
        | inl was ↦ record {
          once = (w.names n o was.at).once;
          leads = all_map (Leads m o) (Leads new o) (λ e leads. leads-on o e was.lives leads) (entries_of o.content)
              (w.names n o was.at).leads;
        }
        | inr r ↦ subst (λ (x : Living). IsDirectoryOf new x) r.is (record { once = tt; leads = tt })
      ];
      cookies = λ n o entries last at is. elim (what-lives n o at) [
        | inl was ↦ w.cookies n o entries last was.at is
        | inr r ↦ root-content entries last (ap (λ (x : Living). x.content) r.is ∙ is)
      ];
      named = λ n o at no. elim (what-lives n o at) [
        | inl was ↦
            let plain : is_root m n ≡ false = elim (is_root m n) as (λ b. is_root m n ≡ b → b ≡ false) [
              | false ↦ λ e. refl
              | true ↦ λ e. (let yes = still-root n o was.at was.lives e in let both : true ≡ false = sym yes ∙ no in
                  cc)
            ] refl in
            let some = w.named n o was.at plain in
            let same = names-same n (safe-at n o was.at was.lives) in omega (arith, some, same)
        | inr r ↦ (let both : true ≡ false = sym (is-new-root r.e r.within) ∙ ap (is_root new) r.at ∙ no in cc)
      ];
      one_name = λ n o at kind. elim (what-lives n o at) [
        | inl was ↦ (let one = w.one_name n o was.at kind in let same = names-same n (safe-at n o was.at was.lives) in
            omega (arith, one, same))
        | inr r ↦
            let none : get m.objects n ≡ None = ap (get m.objects) (sym r.at) ∙ free r.e r.within in
            let same = names-same n (λ x there. (let both : None ≡ Some x = sym none ∙ there in cc)) in
            omega (arith, same, unnamed n none)
      ];
      depth = w.depth;
      deeper = λ n o at. elim (what-lives n o at) [
        | inl was ↦ all_map
            (λ (e : Entry). (is_living_directory (get m.objects e.number) ≡ true → w.depth n < w.depth e.number)
            × Leads m o e)
            (λ (e : Entry). is_living_directory (get new.objects e.number) ≡ true → w.depth n < w.depth e.number)
            (λ e both kind. both.0 (ap is_living_directory (both.1.lives ∙ sym (on e.number both.1.object both.1.lives
            (ap (λ x. is_some (export_at living x)) both.1.export ∙ was.lives))) ∙ kind)) (entries_of o.content)
            (all_both (λ (e : Entry). is_living_directory (get m.objects e.number) ≡ true
            → w.depth n < w.depth e.number) (Leads m o)
            (entries_of o.content) (w.deeper n o was.at) (w.names n o was.at).leads)
        | inr r ↦ subst (λ (x : Living). AllByRecursion
            (λ (e : Entry). is_living_directory (get new.objects e.number) ≡ true →
            w.depth n < w.depth e.number) (entries_of x.content)) r.is tt
      ];
      given = λ n o at. elim (what-lives n o at) [
        | inl was ↦ fresh.kept n o.generation (w.given n o was.at)
        | inr r ↦ subst (λ (x : Living). spent n x.generation ≡ true) r.is
            (ap (λ k. spent k (choose r.e).generation) (sym r.at) ∙ (fresh.fresh r.e r.within.0 r.within.1).given)
      ];
      texts = λ n o text at is. elim (what-lives n o at) [
        | inl was ↦ w.texts n o text was.at is
        | inr r ↦ (let no : Directory [] 2 ≡ Link text = ap (λ (x : Living). x.content) r.is ∙ is in cc)
      ];
      locks = formed-of new (firm-kept (firm-of m w.locks)) (apart-kept w.locks.apart) (waits-kept w.locks.held_up);
      mounts = w.mounts;
    }
      where
        safe-at : (n : ℕ) (o : Living) → get m.objects n ≡ Some o → is_some (export_at living o.export) ≡ true
            → IsSafe n
        safe-at n o at lives x there = (let both : Some o ≡ Some x = sym at ∙ there in let same : o ≡ x = cc in
            subst (λ (y : Living). is_some (export_at living y.export) ≡ true) same lives)

    -- the names of what lives on are as they were
    pub names-kept : (n : ℕ) (was is : Living) → get m.objects n ≡ Some was → get new.objects n ≡ Some is
        → names_of new n ≡ names_of m n
    names-kept n was is at there =
        let same = same-object n was is at there in
        names-same n (λ x here. (let both : Some was ≡ Some x = sym at ∙ here in let one : was ≡ x = cc in
        subst (λ (y : Living). is_some (export_at living y.export) ≡ true) one
        (still-lives n was at (there ∙ ap Some same))))

    -- what lives under a number that was used lived under it
    pub numbers-once : NumbersOnce m new
    numbers-once = record {
      last = omega arith;
      lived = λ number e found used. by e found used
          (export-all (Comes m.exports root m.last_export top) living number e all-come found);
    }
      where
        by : {number : ℕ} (e : LivingExport) → export_at living number ≡ Some e → number ≤ m.last_export
            → Comes m.exports root m.last_export top e → Lived m e
        by {number} e found used (inl (was, at, same, is)) =
            let own = with-path Was m.exports e.path was at were in
            record {
              was = was;
              there = ap (export_at m.exports) same ∙ own.0.1;
              root = is;
              path = sym own.1;
            }
        by {number} e found used (inr (low, high, is)) =
            absurd (let own = export-number living number e found in omega (arith, own, low, used))

-- ---- the step
-- the exports are replaced, by a list without fault, and no number is above 32 bits
pub record IsReplaced (old : State) (time : Time) (exports : List ExportValue) (new : State) : Type 0 where
  pub faultless : AreFaultless exports
  pub free : is_exhausted old.exports old.last_export exports ≡ false
  pub replaces : Replaces old time exports new

abbrev ReplacedUnless : State → Time → List ExportValue → State → Bool → Type 0
ReplacedUnless old time exports new b = elim b [ true ↦ new ≡ old | false ↦ Replaces old time exports new ]

pub same-or-replaced : (old : State) (ctx : Ctx) (exports : List ExportValue) (messages : List Message) (new : State)
    → ReplaceStep old ctx exports messages new → (new ≡ old) ⊎ IsReplaced old (time_of ctx.moment) exports new
unfolding ReplaceStep
same-or-replaced old ctx exports messages new (faultless, none, step) =
    by (is_exhausted old.exports old.last_export exports) refl step
  where
    by : (b : Bool) → is_exhausted old.exports old.last_export exports ≡ b
        → ReplacedUnless old (time_of ctx.moment) exports new b
        → (new ≡ old) ⊎ IsReplaced old (time_of ctx.moment) exports new
    by true is same = inl same
    by false free replaces = inr (record { faultless = faultless; free = free; replaces = replaces })
