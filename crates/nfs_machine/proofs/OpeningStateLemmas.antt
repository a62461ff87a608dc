-- The state that a server starts with: its roots live, one for each export, and nothing else; so it is well formed.
use Rattle.std.proofs.Common.{◌≡◌, ◌≢◌, ◌==◌, ◌||◌, ℕ, zero, suc, ◌+◌, ◌-◌, ◌<◌}
use Rattle.std.proofs.Common.{◌≤◌, ◌&&◌, ◌⊎◌, inl, inr, true, false, cond, nat_le, List, [], ◌∷◌}
use Rattle.std.proofs.Common.{length, Some, None, is_some, unwrap_or, refl, sym, ◌∙◌, ap, subst, arith}
use Rattle.std.proofs.Common.{if◌then◌else◌}
use Rattle.std.proofs.lemmas.Bool.Decides.{nat_tests}
use Rattle.std.specs.Cmp.{nat_cmp_total, unsigned_Decides}
use Rattle.std.specs.FinMap.{FinMap, contains_key, empty, get, insert, get-insert, get-empty, values}
use Rattle.std.specs.List.{AllByRecursion, IsDistinct, list_any, slice_get, sum_by}
use Rattle.std.specs.Prelude.{IsSome}
use Rattle.std.specs.Option.{option_map}
use Rattle.std.specs.Ordering.{nat_cmp, eq_by_cmp}
use Rattle.nfs_wire.specs.declared.attributes.Time.{Time}
use Rattle.nfs_machine.specs.Attributes.{entries_of, is_living_directory, names_in, names_of}
use Rattle.nfs_machine.specs.Exports.{ExportValue, export_at, numbered_exports, opening_exports}
use Rattle.nfs_machine.specs.FileLists.{of_file}
use Rattle.nfs_machine.specs.OneFile.{IsHeldUp}
use Rattle.nfs_machine.specs.Laws.{OpeningIsFormed}
use Rattle.nfs_machine.specs.LockLaws.{OpeningIsApart, OpeningWaitsForNone}
use Rattle.nfs_machine.specs.Locks.{AreListed, same_sharer}
use Rattle.nfs_machine.specs.LocksFormed.{AreOfFiles, AreWaiting, LocksFormed, NoLocksConflict, NoSharesConflict}
use Rattle.nfs_machine.specs.LocksFormed.{count_of}
use Rattle.nfs_machine.specs.Opening.{opening, opening_root, opening_roots, time_of}
use Rattle.nfs_machine.specs.State.{Directory, Link, Entry, Living}
use Rattle.nfs_machine.specs.WellFormed.{AllApart, CookiesRise, ExportsStand, HasRoot, IsDirectoryOf, IsNumbered}
use Rattle.nfs_machine.specs.WellFormed.{WellFormed, is_root}
use Rattle.nfs_machine.specs.declared.moment.Moment.{Moment}
use Rattle.nfs_machine.proofs.DistinctLemmas.{distinct-none}
use Rattle.nfs_machine.proofs.ExportedLemmas.{roots_at}
use Rattle.nfs_machine.proofs.FirmLemmas.{none-listed, none-waiting}
use Rattle.nfs_machine.proofs.ExportOrderLemmas.{all-numbered, length-numbered, opened-apart, opened-at, with_number}
use Rattle.nfs_machine.proofs.MapSumLemmas.{sum-none}

pub le_or : (a b : ℕ) → (a ≤ b) ⊎ (b < a)
le_or a b = elim (nat_le a b) as (λ t. nat_le a b ≡ t → (a ≤ b) ⊎ (b < a)) [
  | true ↦ λ e. inl (grind (arith, nat_tests))
  | false ↦ λ e. inr (grind (arith, nat_tests))
] refl

module _ (time : Time) where
  insert_here : (m : FinMap nat_cmp Living) (k n : ℕ) (o : Living) → n ≡ k → get (insert m k o) n ≡ Some o
  insert_here m k n o e = get-insert nat_cmp_total m k o n
      ∙ ap (λ b. cond b (Some o) (get m n)) (let t : eq_by_cmp nat_cmp n k ≡ true = grind (arith, nat_tests) in t)

  insert_there : (m : FinMap nat_cmp Living) (k n : ℕ) (o : Living) → n ≢ k → get (insert m k o) n ≡ get m n
  insert_there m k n o e = get-insert nat_cmp_total m k o n
      ∙ ap (λ b. cond b (Some o) (get m n)) (let t : eq_by_cmp nat_cmp n k ≡ false = grind (arith, nat_tests) in t)

  pub root_found : (es : List ExportValue) (k n : ℕ) → k ≤ n → n < k + length es
      → get (opening_roots k es time) n ≡ Some (opening_root n time)
  root_found [] k n low high = absurd (omega (arith, low, high))
  root_found (e ∷ es) k n low high =
      elim (le_or n k) [
        | inl h ↦ (let same : n ≡ k = omega (arith, low, h) in insert_here (opening_roots (k + 1) es time) k n
            (opening_root k time) same ∙ ap (λ j. Some (opening_root j time)) (sym same))
        | inr h ↦
            insert_there (opening_roots (k + 1) es time) k n (opening_root k time) (λ same. omega (arith, h, same))
            ∙ root_found es (k + 1) n (omega (arith, h)) (omega (arith, high))
      ]

  pub root_none : (es : List ExportValue) (k n : ℕ) → (n < k) ⊎ (k + length es ≤ n)
      → get (opening_roots k es time) n ≡ None
  root_none [] k n out = get-empty nat_cmp n
  root_none (e ∷ es) k n (inl below) =
      insert_there (opening_roots (k + 1) es time) k n (opening_root k time) (λ same. omega (arith, below, same))
      ∙ root_none es (k + 1) n (inl (omega (arith, below)))
  root_none (e ∷ es) k n (inr above) =
      insert_there (opening_roots (k + 1) es time) k n (opening_root k time) (λ same. omega (arith, above, same))
      ∙ root_none es (k + 1) n (inr (omega (arith, above)))

-- nothing is held or waited for
pub none_of : {A : Type 0} (file : ℕ) → of_file {A = A} empty file ≡ []
none_of file = ap (λ o. unwrap_or o []) (get-empty nat_cmp file)

pub nothing_conflicts : OpeningIsApart
nothing_conflicts es moment file = (
  subst NoLocksConflict (sym (none_of file)) (λ a b offset other. refl),
  subst NoSharesConflict (sym (none_of file)) tt,
)

pub nothing_waits : OpeningWaitsForNone
nothing_waits es moment file =
    subst (AllByRecursion (IsHeldUp (of_file (opening es moment).locks file))) (sym (none_of file)) tt

module _ (es : List ExportValue) (moment : Moment) where
  abbrev time : Time
  time = time_of moment

  -- the last generation that a number was given
  abbrev last_given : ℕ → ℕ
  last_given n = if nat_le 1 n && nat_le n (length es) then 1 else 0

  -- what lives is the root with its number, whose generation was given
  abbrev IsRoot : ℕ → Living → Type 0
  IsRoot n o = (opening_root n time ≡ o) × (last_given n ≡ 1)

  pub only_roots : (n : ℕ) (o : Living) → get (opening_roots 1 es time) n ≡ Some o → IsRoot n o
  only_roots n o at = elim (le_or 1 n) [
    | inl low ↦ elim (le_or n (length es)) [
      | inl h ↦
          let some : Some (opening_root n time) ≡ Some o = sym (root_found time es 1 n low (omega (arith, h))) ∙ at in (
            (let same : opening_root n time ≡ o = cc in same),
            (let e : last_given n ≡ 1 = grind (arith, nat_tests) in e),
          )
      | inr h ↦ (let none : None ≡ Some o = sym (root_none time es 1 n (inr (omega (arith, h)))) ∙ at in absurd cc)
    ]
    | inr below ↦ (let none : None ≡ Some o = sym (root_none time es 1 n (inl below)) ∙ at in absurd cc)
  ]

  pub root_range : (n : ℕ) (o : Living) → get (opening_roots 1 es time) n ≡ Some o → (1 ≤ n) ×
      (n ≤ length es)
  root_range n o at = elim (le_or 1 n) [
    | inl low ↦ elim (le_or n (length es)) [
      | inl h ↦ (low, h)
      | inr h ↦ (let none : None ≡ Some o = sym
          (root_none time es 1 n (inr (omega (arith, h)))) ∙ at in absurd cc)
    ]
    | inr below ↦ (let none : None ≡ Some o = sym (root_none time es 1 n (inl below)) ∙ at in absurd cc)
  ]

  root_cookies : (entries : List Entry) (last : ℕ) → Directory [] 2 ≡ Directory entries last
      → CookiesRise 2 entries last
  root_cookies entries last is =
      let none : [] ≡ entries = cc in
      let two : 2 ≡ last = cc in
      subst (λ k. CookiesRise 2 entries k) two (subst (λ (xs : List Entry). CookiesRise 2 xs 2) none (omega arith))

  -- the root of each export lives
  pub roots_stand : length es ≤ 64 → AllApart (opening_exports es) → ExportsStand (opening es moment)
  roots_stand few apart = record {
    few = omega (arith, length-numbered es 1, few);
    numbered = all-numbered (IsNumbered (length es)) es 1
        (λ n e low high. (low, omega (arith, few, high), omega (arith, high)));
    apart = apart;
    rooted = all-numbered (HasRoot (opening es moment)) es 1
        (λ n e low high. record
        { root = opening_root n time; lives = root_found time es 1 n low high; own = refl; directory = refl });
  }

  -- each object is of an export
  exported : (n : ℕ) → 1 ≤ n → n ≤ length es → IsSome (export_at (opening_exports es) n)
  exported n low high =
      let place : n ≡ 1 + (n - 1) = omega (arith, low) in
      subst (λ k. IsSome (export_at (opening_exports es) k)) (sym place)
      (ap is_some (opened-at es (n - 1)) ∙ there es (n - 1) (omega (arith, low, high)))
    where
      there : (xs : List ExportValue) (i : ℕ) → i < length xs →
          is_some (option_map (with_number (1 + (n - 1))) (slice_get xs i)) ≡ true
      there [] i less = absurd (omega (arith, less))
      there (x ∷ xs) zero less = refl
      there (x ∷ xs) (suc i) less = there xs i (omega (arith, less))

  -- each root is one
  pub is_root-opened : (n : ℕ) → 1 ≤ n → n ≤ length es → is_root (opening es moment) n ≡ true
  is_root-opened n low high = any es 1 low (omega (arith, high))
    where
      any : (xs : List ExportValue) (k : ℕ) → k ≤ n → n < k + length xs →
          list_any (roots_at n) (numbered_exports k xs) ≡ true
      any [] k low high = absurd (omega (arith, low, high))
      any (x ∷ xs) k low high =
          elim (k == n) as (λ b. (k == n) ≡ b →
          (b || list_any (roots_at n) (numbered_exports (k + 1) xs)) ≡ true) [
            | true ↦ λ e. refl
            | false ↦ λ e. any xs (k + 1)
                (let other : k ≢ n = λ same.
                (let no : true ≡ false = sym ((unsigned_Decides k n).1 same) ∙ e in cc) in omega
                (arith, low, other)) (omega (arith, high))
          ] refl

  -- no file has anything
  no_lists : {A : Type 0} → AreOfFiles {A = A} (opening es moment).objects empty
  no_lists = record {
    files = λ file list at. (let none : None ≡ Some list = sym (get-empty nat_cmp file) ∙ at in cc);
    some = λ file at. (let none : None ≡ Some [] = sym (get-empty nat_cmp file) ∙ at in cc);
  }

  no_locks_formed : LocksFormed (opening es moment)
  no_locks_formed = record {
    locks = no_lists;
    shares = no_lists;
    waiting = no_lists;
    listed = λ file. subst AreListed (sym (none_of file)) none-listed;
    sharers = λ file. subst (IsDistinct same_sharer) (sym (none_of file)) (distinct-none same_sharer);
    requests = λ file. subst (AreWaiting file) (sym (none_of file)) (none-waiting file);
    apart = nothing_conflicts es moment;
    held_up = nothing_waits es moment;
    pending = λ number grant at. (let none : None ≡ Some grant = sym (get-empty nat_cmp number) ∙ at in cc);
    numbers = λ number.
        let waits : sum_by (count_of number) (values (opening es moment).waiting) ≡ 0 =
        sum-none (count_of number) empty
        (λ q v at. (let none : None ≡ Some v = sym (get-empty nat_cmp q) ∙ at in cc)) in
        let pending : cond {A = ℕ} (contains_key (opening es moment).granted number) 1 0 ≡ 0 =
        ap (λ o. cond {A = ℕ} (is_some o) 1 0) (get-empty nat_cmp number) in
        omega (arith, waits, pending);
  }

  -- no names, and so nothing below a root
  pub roots_formed : length es ≤ 64 → AllApart (opening_exports es) → WellFormed (opening es moment)
  roots_formed few apart = record {
    exports = roots_stand few apart;
    exported = λ n o at.
        (let r = root_range n o at in subst (λ k. IsSome (export_at (opening_exports es) k))
        (ap (λ (x : Living). x.export) (only_roots n o at).0) (exported n r.0 r.1));
    names = λ n o at. subst (IsDirectoryOf (opening es moment)) (only_roots n o at).0
        (record { once = tt; leads = tt });
    cookies = λ n o entries last at is. root_cookies entries last
        (ap (λ (x : Living). x.content) (only_roots n o at).0 ∙ is);
    named = λ n o at other.
        (let r = root_range n o at in let no : true ≡ false = sym (is_root-opened n r.0 r.1) ∙ other in cc);
    one_name = λ n o at kind.
        let none : names_of (opening es moment) n ≡ 0 = sum-none (names_in n) (opening_roots 1 es time)
        (λ q v there. subst (λ (x : Living). names_in n x ≡ 0) (only_roots q v there).0 refl) in
        omega arith;
    depth = λ n. 0;
    deeper = λ n o at.
        subst (λ (x : Living). AllByRecursion
        (λ (e : Entry). is_living_directory (get (opening_roots 1 es time) e.number) ≡ true
        → 0 < 0) (entries_of x.content)) (only_roots n o at).0 tt;
    given = λ n o at. (let r = only_roots n o at in subst (λ (x : Living). nat_le x.generation (last_given n) ≡ true)
        r.0 (ap (nat_le 1) r.1));
    texts = λ n o text at is. (let no : Directory [] 2 ≡ Link text = ap (λ (x : Living). x.content)
        (only_roots n o at).0 ∙ is in cc);
    locks = no_locks_formed;
    mounts = record { once = tt; few = omega arith };
  }

pub opening_formed : OpeningIsFormed
opening_formed es moment faultless = (let a = opened-apart es faultless in roots_formed es moment a.0 a.1)
