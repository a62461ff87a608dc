-- What the opening writes make of nothing stands for the machine's opening state: the roots live, and nothing else.
use Rattle.std.proofs.Common.{◌≡◌, ℕ, zero, suc, ◌+◌, ◌==◌, ◌<◌, ◌≤◌, ◌⊎◌, inl, inr}
use Rattle.std.proofs.Common.{true, false, cond, max, nat_le, ◌&&◌, ◌/◌, ◌%◌, if◌then◌else◌}
use Rattle.std.proofs.Common.{List, [], ◌∷◌, ◌++◌, length, map, option_map, Option, Some, None, IsSome, refl}
use Rattle.std.proofs.Common.{sym}
use Rattle.std.proofs.Common.{◌∙◌, ap, subst, arith}
use Rattle.std.proofs.lemmas.Bool.Decides.{nat_tests}
use Rattle.std.proofs.lemmas.Bool.{and_parts}
use Rattle.std.proofs.lemmas.List.{length-map}
use Rattle.std.specs.Arc.{arc_value}
use Rattle.std.specs.declared.alloc.Global.{Global}
use Rattle.std.specs.declared.sync.Arc.{Arc}
use Rattle.std.specs.Cmp.{nat_cmp_total, unsigned_Decides}
use Rattle.std.specs.FinMap.{FinMap, empty, get, get-empty, insert, nat_cmp-IsAntisymmetric, same_map}
use Rattle.std.specs.Ordering.{nat_cmp}
use Rattle.nfs_wire.specs.declared.attributes.Time.{Time}
use Rattle.nfs_machine.proofs.OpeningStateLemmas.{le_or, only_roots, opening_formed, root_found, root_none}
use Rattle.nfs_machine.proofs.OpeningStateLemmas.{is_root-opened}
use Rattle.nfs_machine.proofs.OpeningStateLemmas.{root_range}
use Rattle.nfs_machine.proofs.ExportOrderLemmas.{opened-apart}
use Rattle.nfs_machine.proofs.MapSumLemmas.{get-inserted}
use Rattle.nfs_machine.specs.Attributes.{block, is_directory, links_of}
use Rattle.nfs_machine.specs.ExportFaults.{AreFaultless}
use Rattle.nfs_machine.specs.Exports.{ExportValue, LivingExport, opening_exports}
use Rattle.nfs_machine.specs.Opening.{opening, opening_root, opening_roots}
use Rattle.nfs_machine.specs.Run.{Record, Run}
use Rattle.nfs_machine.specs.State.{Entry, Living}
use Rattle.nfs_machine.specs.Times.{time_of}
use Rattle.nfs_machine.specs.WellFormed.{IsParent}
use Rattle.nfs_machine.specs.declared.moment.Moment.{Moment}
use Rattle.nfs_objects.proofs.BitSetLemmas.{has-none}
use Rattle.nfs_objects.proofs.DirectoryStoreLemmas.{no-entries}
use Rattle.nfs_objects.proofs.StandsInExportLemmas.{inode-as, inode-stands}
use Rattle.nfs_objects.proofs.UsageSumLemmas.{both-sums, counted-by, used-by}
use Rattle.nfs_objects.proofs.TallyLemmas.{insert-total, none-total, total}
use Rattle.nfs_objects.specs.Stands.{IsFitting, StoreMeaning, export_table_of, exports_of, inode_in, inode_of}
use Rattle.nfs_objects.specs.Stands.{links_kept}
use Rattle.nfs_objects.specs.Bits.{has, no_bits}
use Rattle.nfs_objects.specs.FileMaps.{FileMapValue}
use Rattle.nfs_objects.specs.Stands.{Beside, HoldsEntries, IsMapped, IsStored, StandDirectories, StandFiles, bytes_at}
use Rattle.nfs_objects.specs.Stands.{directory_entries, entry_map_of, file_of, living_in, living_of_inode, map_in}
use Rattle.nfs_objects.specs.Stands.{map_of}
use Rattle.nfs_objects.specs.Stands.{lives_in, mounts_of, parent_kept}
use Rattle.nfs_objects.specs.Store.{Store, with_write, with_writes}
use Rattle.nfs_objects.specs.Sums.{group_of, no_usage, one_using, stored_usage, usage_in}
use Rattle.nfs_objects.specs.declared.address.Addr.{Addr}
use Rattle.nfs_objects.specs.declared.address.Addr.TheVariants.{Exports, Inode, Map, Block, Page, Part, Mounts}
use Rattle.nfs_objects.specs.declared.address.Addr.TheVariants.{Usage as UsageOf}
use Rattle.nfs_objects.specs.declared.address.Addr.TheVariants.{Locks}
use Rattle.nfs_objects.specs.ExportTables.{ExportTableValue}
use Rattle.nfs_objects.specs.Values.{write_value}
use Rattle.nfs_objects.specs.declared.change.Write.{Write}
use Rattle.nfs_objects.specs.declared.object.Inode.{Inode as Stored}
use Rattle.nfs_objects.specs.declared.object.Object.{Object}
use Rattle.nfs_objects.specs.declared.object.Object.TheVariants as objects
use Rattle.nfs_objects.specs.declared.usage.Usage.{Usage}
use Rattle.nfs_objects.proofs.LocksStandLemmas.{none-locked}
use Rattle.nfs_engine.proofs.StartBoundsLemmas.{opening-within}
use Rattle.nfs_engine.specs.Book.{BookValue, LeadsFrom, StandsFor, store_in}
use Rattle.nfs_engine.specs.Tables.{ObjectsValue, store_of}
use Rattle.nfs_engine.specs.Opening.{no_store, opening_writes, root_of, root_usage, root_writes, root_writes_of}

-- more writes are made one after the other
writes-more : (ws more : List (Addr × Option Object)) (s : Store) →
    with_writes s (ws ++ more) ≡ with_writes (with_writes s ws) more
writes-more [] more s = refl
writes-more (w ∷ ws) more s = writes-more ws more (with_write s w.0 w.1)

-- ---- the store with the roots of so many exports
module _ (base : Store) (time : Time) (key : List ℕ) where
  abbrev roots : ℕ → Store
  roots n = with_writes base (root_writes n time key)

  one_more : (n : ℕ) → roots (suc n) ≡ with_writes (roots n) (root_writes_of (suc n) time key)
  unfolding root_writes
  one_more n = writes-more (root_writes n time key) (root_writes_of (suc n) time key) base

  none_yet : roots 0 ≡ base
  unfolding root_writes
  none_yet = refl

  exports_at : (n : ℕ) → (roots n).at Exports ≡ base.at Exports
  exports_at zero = ap (λ (s : Store). s.at Exports) none_yet
  exports_at (suc n) = ap (λ (s : Store). s.at Exports) (one_more n) ∙ exports_at n

  mounts_at : (n : ℕ) → (roots n).at Mounts ≡ base.at Mounts
  mounts_at zero = ap (λ (s : Store). s.at Mounts) none_yet
  mounts_at (suc n) = ap (λ (s : Store). s.at Mounts) (one_more n) ∙ mounts_at n

  locks_at : (n b : ℕ) → (roots n).at (Locks b) ≡ base.at (Locks b)
  locks_at zero b = ap (λ (s : Store). s.at (Locks b)) none_yet
  locks_at (suc n) b = ap (λ (s : Store). s.at (Locks b)) (one_more n) ∙ locks_at n b

  maps_at : (n k page : ℕ) → (roots n).at (Map k page) ≡ base.at (Map k page)
  maps_at zero k page = ap (λ (s : Store). s.at (Map k page)) none_yet
  maps_at (suc n) k page = ap (λ (s : Store). s.at (Map k page)) (one_more n) ∙ maps_at n k page

  blocks_at : (n k i : ℕ) → (roots n).at (Block k i) ≡ base.at (Block k i)
  blocks_at zero k i = ap (λ (s : Store). s.at (Block k i)) none_yet
  blocks_at (suc n) k i = ap (λ (s : Store). s.at (Block k i)) (one_more n) ∙ blocks_at n k i

  pages_at : (n k page : ℕ) → (roots n).at (Page k page) ≡ base.at (Page k page)
  pages_at zero k page = ap (λ (s : Store). s.at (Page k page)) none_yet
  pages_at (suc n) k page = ap (λ (s : Store). s.at (Page k page)) (one_more n) ∙ pages_at n k page

  parts_at : (n k bucket part : ℕ) → (roots n).at (Part k bucket part) ≡ base.at (Part k bucket part)
  parts_at zero k bucket part = ap (λ (s : Store). s.at (Part k bucket part)) none_yet
  parts_at (suc n) k bucket part =
      ap (λ (s : Store). s.at (Part k bucket part)) (one_more n) ∙ parts_at n k bucket part

  inode_more : (n k : ℕ) → (roots (suc n)).at (Inode k)
      ≡ cond (suc n == k) (Some (objects.Inode (root_of (suc n) time key))) ((roots n).at (Inode k))
  inode_more n k = ap (λ (s : Store). s.at (Inode k)) (one_more n)

  last_more : (n k : ℕ) → (roots (suc n)).last k ≡ cond (suc n == k) (max ((roots n).last k) 1) ((roots n).last k)
  last_more n k = ap (λ (s : Store). s.last k) (one_more n)

  usage_more : (n e g : ℕ) → (roots (suc n)).at (UsageOf e g)
      ≡ cond ((suc n == e) && (group_of (suc n) == g)) (Some (objects.Usage (one_using block)))
      ((roots n).at (UsageOf e g))
  usage_more n e g = ap (λ (s : Store). s.at (UsageOf e g)) (one_more n)

  -- nothing at other numbers
  module _ (empty_at : (k : ℕ) → base.at (Inode k) ≡ None) (never : (k : ℕ) → base.last k ≡ 0) where
    apart : (n k : ℕ) → (k < 1) ⊎ (suc n < k) → (suc n == k) ≡ false
    apart n k (inl low) = grind (arith, nat_tests)
    apart n k (inr high) = grind (arith, nat_tests)

    fewer : (n k : ℕ) → (k < 1) ⊎ (suc n < k) → (k < 1) ⊎ (n < k)
    fewer n k (inl low) = inl low
    fewer n k (inr high) = inr (omega (arith, high))

    nothing_at : (n k : ℕ) → (k < 1) ⊎ (n < k) → ((roots n).at (Inode k) ≡ None) × ((roots n).last k ≡ 0)
    nothing_at zero k out = (
      ap (λ (s : Store). s.at (Inode k)) none_yet ∙ empty_at k,
      ap (λ (s : Store). s.last k) none_yet ∙ never k,
    )
    nothing_at (suc n) k out =
        let other = apart n k out in
        let before = nothing_at n k (fewer n k out) in (
          inode_more n k
              ∙ ap (λ b. cond b (Some (objects.Inode (root_of (suc n) time key))) ((roots n).at (Inode k))) other
              ∙ before.0,
          last_more n k ∙ ap (λ b. cond b (max ((roots n).last k) 1) ((roots n).last k)) other ∙ before.1,
        )

    root_at : (n k : ℕ) → 1 ≤ k → k ≤ n →
        ((roots n).at (Inode k) ≡ Some (objects.Inode (root_of k time key))) × ((roots n).last k ≡ 1)
    root_at zero k low high = absurd (omega (arith, low, high))
    root_at (suc n) k low high =
        elim (le_or k n) [
          | inl h ↦
              let other : (suc n == k) ≡ false = grind (arith, nat_tests) in
              let before = root_at n k low h in (
                inode_more n k
                    ∙ ap (λ b. cond b (Some (objects.Inode (root_of (suc n) time key))) ((roots n).at (Inode k))) other
                    ∙ before.0,
                last_more n k ∙ ap (λ b. cond b (max ((roots n).last k) 1) ((roots n).last k)) other ∙ before.1,
              )
          | inr h ↦
              let same : suc n ≡ k = omega (arith, h, high) in
              let here = (unsigned_Decides (suc n) k).1 same in
              let before = nothing_at n k (inr h) in (
                inode_more n k
                    ∙ ap (λ b. cond b (Some (objects.Inode (root_of (suc n) time key))) ((roots n).at (Inode k))) here
                    ∙ ap (λ j. Some (objects.Inode (root_of j time key))) same,
                last_more n k ∙ ap (λ b. cond b (max ((roots n).last k) 1) ((roots n).last k)) here
                    ∙ ap (λ x. max x 1) before.1,
              )
        ]

    lasts_small : (n k : ℕ) → (roots n).last k ≤ 1
    lasts_small n k =
        elim (le_or 1 k) [
          | inr low ↦ omega (arith, (nothing_at n k (inl low)).1)
          | inl low ↦ elim (le_or k n) [
            | inl high ↦ omega (arith, (root_at n k low high).1)
            | inr high ↦ omega (arith, (nothing_at n k (inr high)).1)
          ]
        ]

  usages_at : ((e g : ℕ) → base.at (UsageOf e g) ≡ None) → (n e g : ℕ) →
      (roots n).at (UsageOf e g) ≡ stored_usage (root_usage n e g)
  unfolding root_usage
  usages_at empty_at zero e g = ap (λ (s : Store). s.at (UsageOf e g)) none_yet ∙ empty_at e g
  usages_at empty_at (suc n) e g =
      usage_more n e g
      ∙ ap (cond ((suc n == e) && (group_of (suc n) == g)) (Some (objects.Usage (one_using block))))
      (usages_at empty_at n e g)
      ∙ elim ((suc n == e) && (group_of (suc n) == g)) as (λ b. cond b (Some (objects.Usage (one_using block)))
      (stored_usage (root_usage n e g)) ≡ stored_usage (cond b (one_using block) (root_usage n e g)))
      [ true ↦ refl | false ↦ refl ]

-- ---- what the roots use
root_beyond : (n e g : ℕ) → n < e → root_usage n e g ≡ no_usage
unfolding root_usage
root_beyond zero e g h = refl
root_beyond (suc n) e g h =
    ap (λ b. cond (b && (group_of (suc n) == g)) (one_using block) (root_usage n e g))
    (let other : (suc n == e) ≡ false = grind (arith, nat_tests) in other)
    ∙ root_beyond n e g (omega (arith, h))

-- what objects use in a group, of a map
abbrev sums : (e g : ℕ) → FinMap nat_cmp Living → Usage
sums e g m = record { used = total (used-by e g) m; objects = total (counted-by e g) m }

-- the roots as a map, from the last one
module _ (time : Time) where
  roots_below : ℕ → FinMap nat_cmp Living
  roots_below zero = empty
  roots_below (suc n) = insert (roots_below n) (suc n) (opening_root (suc n) time)

  put_apart : (n q : ℕ) → (q == suc n) ≡ false → get (roots_below (suc n)) q ≡ get (roots_below n) q
  unfolding roots_below
  put_apart n q other = get-inserted (roots_below n) (suc n) (opening_root (suc n) time) q
      ∙ ap (λ b. cond b (Some (opening_root (suc n) time)) (get (roots_below n) q)) other

  below_none : (n q : ℕ) → (q < 1) ⊎ (n < q) → get (roots_below n) q ≡ None
  unfolding roots_below
  below_none zero q out = get-empty nat_cmp q
  below_none (suc n) q (inl low) = put_apart n q (grind (arith, nat_tests)) ∙ below_none n q (inl low)
  below_none (suc n) q (inr high) = put_apart n q (grind (arith, nat_tests))
      ∙ below_none n q (inr (omega (arith, high)))

  below_found : (n q : ℕ) → 1 ≤ q → q ≤ n → get (roots_below n) q ≡ Some (opening_root q time)
  unfolding roots_below
  below_found zero q low high = absurd (omega (arith, low, high))
  below_found (suc n) q low high =
      elim (le_or q n) [
        | inl h ↦ put_apart n q (grind (arith, nat_tests)) ∙ below_found n q low h
        | inr h ↦
            let same : q ≡ suc n = omega (arith, h, high) in
            get-inserted (roots_below n) (suc n) (opening_root (suc n) time) q
            ∙ ap (λ b. cond b (Some (opening_root (suc n) time)) (get (roots_below n) q))
            ((unsigned_Decides q (suc n)).1 same)
            ∙ ap (λ k. Some (opening_root k time)) (sym same)
      ]

  same_roots : (es : List ExportValue) → opening_roots 1 es time ≡ roots_below (length es)
  same_roots es = same_map nat_cmp_total nat_cmp-IsAntisymmetric _ _ (λ q.
      elim (le_or 1 q) [
        | inr low ↦ root_none time es 1 q (inl low) ∙ sym (below_none (length es) q (inl low))
        | inl low ↦ elim (le_or q (length es)) [
          | inl h ↦ root_found time es 1 q low (omega (arith, h)) ∙ sym (below_found (length es) q low h)
          | inr h ↦ root_none time es 1 q (inr (omega (arith, h))) ∙ sym (below_none (length es) q (inr h))
        ]
      ])

  -- their sums
  module _ (e g : ℕ) where
    abbrev used_sum : FinMap nat_cmp Living → ℕ
    used_sum m = total (used-by e g) m

    abbrev count_sum : FinMap nat_cmp Living → ℕ
    count_sum m = total (counted-by e g) m

    root_sums : (n : ℕ) → sums e g (roots_below n) ≡ root_usage n e g
    unfolding roots_below root_usage
    root_sums zero = both-sums (sums e g empty) no_usage (none-total (used-by e g) empty (get-empty nat_cmp))
        (none-total (counted-by e g) empty (get-empty nat_cmp))
    root_sums (suc n) =
        let free = below_none n (suc n) (inr (omega arith)) in
        let was = root_sums n in
        let used = insert-total (used-by e g) (roots_below n) (suc n) (opening_root (suc n) time) free in
        let count = insert-total (counted-by e g) (roots_below n) (suc n) (opening_root (suc n) time) free in
        elim ((suc n == e) && (group_of (suc n) == g)) as (λ b. ((suc n == e) && (group_of (suc n) == g)) ≡ b →
        used_sum (roots_below (suc n)) ≡ used_sum (roots_below n) + cond b 4096 0 →
        count_sum (roots_below (suc n)) ≡ count_sum (roots_below n) + cond {A = ℕ} b 1 0 →
        sums e g (roots_below (suc n)) ≡ cond b (one_using block) (root_usage n e g)) [
          | true ↦ λ t a b.
              let above : n < e = (let same = (unsigned_Decides (suc n) e).0
              ((and_parts (suc n == e) (group_of (suc n) == g) t).0) in omega (arith, same)) in
              let none = was ∙ root_beyond n e g above in
              both-sums (sums e g (roots_below (suc n))) (one_using block)
              (a ∙ ap (λ (u : Usage). u.used + 4096) none) (b ∙ ap (λ (u : Usage). u.objects + 1) none)
          | false ↦ λ t a b. both-sums (sums e g (roots_below (suc n))) (root_usage n e g)
              (let z : used_sum (roots_below n) + 0 ≡ used_sum (roots_below n) = omega arith in a ∙ z
              ∙ ap (λ (u : Usage). u.used) was)
              (let z : count_sum (roots_below n) + 0 ≡ count_sum (roots_below n) = omega arith in b ∙ z
              ∙ ap (λ (u : Usage). u.objects) was)
        ] refl used count

module _ (es : List ExportValue) (moment : Moment) (key : List ℕ) where
  abbrev time : Time
  time = time_of moment

  -- the exports stand
  abbrev base : Store
  base = with_write no_store Exports
      (Some (objects.Exports (record { exports = opening_exports es; last = length es })))

  abbrev store : Store
  store = roots base time key (length es)

  nothing : (n k : ℕ) → (k < 1) ⊎ (n < k) →
      ((roots base time key n).at (Inode k) ≡ None) × ((roots base time key n).last k ≡ 0)
  nothing = nothing_at base time key (λ k. refl) (λ k. refl)

  found : (k : ℕ) → 1 ≤ k → k ≤ length es →
      (store.at (Inode k) ≡ Some (objects.Inode (root_of k time key))) × (store.last k ≡ 1)
  found = root_at base time key (λ k. refl) (λ k. refl) (length es)

  -- whether an export has the number
  within_or : (k : ℕ) → ((1 ≤ k) × (k ≤ length es)) ⊎ ((k < 1) ⊎ (length es < k))
  within_or k =
      elim (le_or 1 k) [
        | inr low ↦ inr (inl low)
        | inl low ↦ elim (le_or k (length es)) [
          | inl high ↦ inl (low, high)
          | inr high ↦ inr (inr high)
        ]
      ]

  -- what lives where this stands, if every export does
  abbrev living_of : Beside → Option Object → Option Living
  living_of beside o = option_map (living_of_inode beside) (inode_of o)

  -- with no entry beside it
  abbrev bare : List ℕ → Beside
  bare bytes = record { bytes = bytes; entries = [] }

  beyond : (k : ℕ) → (k < 1) ⊎ (length es < k) → (k < 1) ⊎ (1 + length es ≤ k)
  beyond k (inl low) = inl low
  beyond k (inr high) = inr (omega (arith, high))

  lives : (bytes : List ℕ) (n : ℕ) → get (opening_roots 1 es time) n ≡ living_of (bare bytes) (store.at (Inode n))
  lives bytes n =
      elim (within_or n) [
        | inl h ↦
            root_found time es 1 n h.0 (omega (arith, h.1)) ∙ sym (ap (living_of (bare bytes)) (found n h.0 h.1).0)
        | inr out ↦
            root_none time es 1 n (beyond n out) ∙ sym (ap (living_of (bare bytes)) (nothing (length es) n out).0)
      ]

  -- no directory has an entry
  abbrev entries_of : Option Living → List Entry
  entries_of o = elim o [ None ↦ [] | Some x ↦ directory_entries x.content ]

  bare_at : (n : ℕ) → entries_of (get (opening_roots 1 es time) n) ≡ []
  bare_at n =
      elim (within_or n) [
        | inl h ↦ ap entries_of (root_found time es 1 n h.0 (omega (arith, h.1)))
        | inr out ↦ ap entries_of (root_none time es 1 n (beyond n out))
      ]

  -- and the export of each root does
  exported : AreFaultless es → (n : ℕ) →
      inode_of (store.at (Inode n)) ≡ inode_in (opening_exports es) (store.at (Inode n))
  exported faultless n = sym (inode-as (opening_exports es) (store.at (Inode n))
      (λ i is. (opening_formed es moment faultless).exported n (living_of_inode (bare []) i)
      (lives [] n ∙ ap (option_map (living_of_inode (bare []))) is)))

  -- no file is there
  no_file : (n : ℕ) → file_of (store.at (Inode n)) ≡ None
  no_file n = elim (within_or n) [
    | inl h ↦ ap file_of (found n h.0 h.1).0
    | inr out ↦ ap file_of (nothing (length es) n out).0
  ]

  -- the last generation that a number was given
  abbrev last_given : ℕ → ℕ
  last_given n = if nat_le 1 n && nat_le n (length es) then 1 else 0

  lasts : (n : ℕ) → last_given n ≡ store.last n
  lasts n =
      elim (within_or n) [
        | inl h ↦ (let e : last_given n ≡ 1 = grind (arith, nat_tests, h.0, h.1) in e) ∙ sym (found n h.0 h.1).1
        | inr out ↦ none_given n out ∙ sym (nothing (length es) n out).1
      ]
    where
      none_given : (k : ℕ) → (k < 1) ⊎ (length es < k) → last_given k ≡ 0
      none_given k (inl low) = grind (arith, nat_tests)
      none_given k (inr high) = grind (arith, nat_tests)

  -- what stands at a number is the root of its export
  only : (n : ℕ) (i : Stored) → store.at (Inode n) ≡ Some (objects.Inode i) →
      (1 ≤ n) × (n ≤ length es) × (root_of n time key ≡ i)
  only n i is =
      elim (within_or n) [
        | inl h ↦
            let some : Some (objects.Inode (root_of n time key)) ≡ Some (objects.Inode i) =
            sym (found n h.0 h.1).0 ∙ is in
            (h.0, h.1, (let same : root_of n time key ≡ i = cc in same))
        | inr out ↦
            let none : None ≡ Some (objects.Inode i) = sym (nothing (length es) n out).0 ∙ is in absurd cc
      ]

  given : (n : ℕ) (i : Stored) → store.at (Inode n) ≡ Some (objects.Inode i) → i.generation ≤ store.last n
  given n i is =
      let o = only n i is in
      omega (arith, ap (λ (j : Stored). j.generation) o.2, (found n o.0 o.1).1)

  -- what stands there fits
  fitting : length es ≤ 64 → (n : ℕ) (i : Stored) → store.at (Inode n) ≡ Some (objects.Inode i) →
      IsFitting n i
  fitting few n i is =
      let o = only n i is in
      subst (IsFitting n) o.2 (omega (arith, o.1, few), omega arith)

  -- and is of an export that is numbered
  numbered : (n : ℕ) (i : Stored) → store.at (Inode n) ≡ Some (objects.Inode i) →
      (lives_in (opening_exports es) i.export ≡ true) ⊎ (i.export ≤ length es)
  numbered n i is =
      let o = only n i is in
      inr (subst (λ (j : Stored). j.export ≤ length es) o.2 o.1)

  abbrev kept : StoreMeaning
  kept = record {
    state = opening es moment;
    links = λ n. links_kept (inode_of (store.at (Inode n)));
    parents = λ n. parent_kept (inode_of (store.at (Inode n)));
    usage = root_usage (length es);
  }

  files : StandFiles store kept
  files = record {
    blocks = λ n. record {
      maps = λ page. subst (λ b. IsMapped b (store.at (Map n page)))
          (sym (ap (λ (f : Option FileMapValue). has (elim f [ None ↦ no_bits | Some map ↦ map.pages ]) page)
          (no_file n)
          ∙ has-none page)) (maps_at base time key (length es) n page);
      blocks = λ i. subst (λ b. IsStored b (store.at (Block n i)))
          (sym (ap (λ (o : Option Object). has (map_of o) (i % 512)) (maps_at base time key (length es) n (i / 512))
          ∙ has-none (i % 512))) (blocks_at base time key (length es) n i);
    };
    bytes = λ n i map there is. absurd (none_there n i map there is);
  }
    where
      none_there : (n : ℕ) (i : Stored) (map : FileMapValue)
          → inode_in (opening_exports es) (store.at (Inode n)) ≡ Some i →
          map_in i.content ≡ Some map → ⊥
      none_there n i map there is =
          let at : store.at (Inode n) ≡ Some (objects.Inode i) =
          (inode-stands (opening_exports es) (store.at (Inode n)) i there).stands in
          let none : map_in i.content ≡ None = ap file_of (sym at) ∙ no_file n in
          let both : Some map ≡ None = sym is ∙ none in cc

  -- each root has no page and no part, and nothing else has any
  directories : StandDirectories store kept
  directories n = record { entries = []; holds = holds; lives = λ there. sym (bare_at n) }
    where
      nothing_there : HoldsEntries store n None []
      nothing_there = (
        λ page. pages_at base time key (length es) n page,
        λ bucket part. parts_at base time key (length es) n bucket part,
      )

      holds : HoldsEntries store n (entry_map_of (store.at (Inode n))) []
      holds =
          elim (within_or n) [
            | inl h ↦ subst (λ (o : Option Object). HoldsEntries store n (entry_map_of o) []) (sym (found n h.0 h.1).0)
                (no-entries store n key nothing_there)
            | inr out ↦ subst (λ (o : Option Object). HoldsEntries store n (entry_map_of o) [])
                (sym (nothing (length es) n out).0) nothing_there
          ]

  abbrev LivesAt : ℕ → Living → Type 0
  LivesAt n o = get (opening_roots 1 es time) n ≡ Some o

  -- each root has the links that are kept
  links : (n : ℕ) (o : Living) → LivesAt n o → kept.links n ≡ links_of kept.state n o.content
  links n o at =
      let within = root_range es moment n o at in
      ap (λ (x : Option Object). links_kept (inode_of x)) (found n within.0 within.1).0
      ∙ ap (λ (x : Living). links_of kept.state n x.content) (only_roots es moment n o at).0

  -- and is its own parent
  parents : (n : ℕ) (o : Living) → LivesAt n o → is_directory o.content ≡ true →
      IsParent kept.state n (kept.parents n)
  parents n o at of =
      let within = root_range es moment n o at in
      let own : kept.parents n ≡ n =
      ap (λ (x : Option Object). parent_kept (inode_of x)) (found n within.0 within.1).0 in
      subst (IsParent kept.state n) (sym own)
      (record { directory = o; lives = at; named_in = inl (refl, is_root-opened es moment n within.0 within.1) })

  usage : (e g : ℕ) → root_usage (length es) e g ≡ usage_in (opening es moment) e g
  usage e g = sym (root_sums time e g (length es)) ∙ ap (sums e g) (sym (same_roots time es))

  abbrev export_list_of : Option Object → List LivingExport
  export_list_of o = exports_of o

  abbrev last_of : Option Object → ℕ
  last_of o = (export_table_of o).last

  pub opening_stands : AreFaultless es → StandsFor (with_writes no_store (opening_writes es time key))
      (opening es moment)
  opening_stands faultless = record {
    links = kept.links;
    parents = kept.parents;
    usage = kept.usage;
    represents = record {
      tables = record {
        table = subst (λ (o : Option Object). IsSome o) (sym (exports_at base time key (length es))) refl;
        exports = sym (ap export_list_of (exports_at base time key (length es)));
        last_export = sym (ap last_of (exports_at base time key (length es)));
        mounts = sym (ap mounts_of (mounts_at base time key (length es)));
      };
      objects = record {
        objects = λ n. lives (bytes_at (opening es moment) n) n
            ∙ ap (option_map (living_of_inode (bare (bytes_at (opening es moment) n)))) (exported faultless n)
            ∙ ap (λ xs. living_in (opening_exports es)
            (record { bytes = bytes_at (opening es moment) n; entries = xs }) (store.at (Inode n))) (sym (bare_at n));
        links = λ n. ap links_kept (exported faultless n);
        parents = λ n. ap parent_kept (exported faultless n);
        given = given;
        fits = fitting (opened-apart es faultless).0;
        spent = λ n g. ap (nat_le g) (lasts n);
        numbered = numbered;
      };
      files = files;
      directories = directories;
      usages = record { usage = λ e g live. usages_at base time key (λ e g. refl) (length es) e g };
      locks = none-locked store (opening es moment) (locks_at base time key (length es)) refl refl refl refl
          (λ n. refl);
    };
    sound = record { links = links; parents = parents; usage = usage };
    formed = opening_formed es moment faultless;
    within = opening-within es moment faultless;
  }

  pub opening_lasts : (n : ℕ) → (with_writes no_store (opening_writes es time key)).last n ≤ 1
  opening_lasts = lasts_small base time key (λ k. refl) (λ k. refl) (length es)

-- ---- the writes, as they are made
pub first_write : (es : List ExportValue) (at : Time) (key : List ℕ) (before after : List Write)
    (table : Arc Object Global)
    (t : ExportTableValue) → before ≡ []
    → after ≡ before ++ record { address = Exports; object = Some table } ∷ []
    → arc_value table ≡ objects.Exports t → t.exports ≡ opening_exports es → t.last ≡ length es
    → map write_value after ≡ (
      Exports,
      Some (objects.Exports (record { exports = opening_exports es; last = length es })),
    ) ∷ root_writes 0 at key
unfolding root_writes
first_write es at key before after table t none is object exports last =
    let x : Write = record { address = Exports; object = Some table } in
    let same : t ≡ record { exports = opening_exports es; last = length es } =
    λ i. record { exports = exports i; last = last i } in
    ap (map write_value) (is ∙ ap (λ (l : List Write). l ++ x ∷ []) none)
    ∙ ap (λ (o : Object). (Exports, Some o) ∷ [])
    (object ∙ ap (λ (v : ExportTableValue). objects.Exports v) same)

pub more_writes : (time : Time) (key : List ℕ) (first : Addr × Option Object)
    (before after : List (Addr × Option Object))
    (index export : ℕ) → before ≡ first ∷ root_writes index time key
    → after ≡ before ++ root_writes_of export time key
    → export ≡ index + 1 → after ≡ first ∷ root_writes (index + 1) time key
unfolding root_writes
more_writes time key first before after index export was is number =
    let next : index + 1 ≡ suc index = omega arith in
    is ∙ ap (λ l. l ++ root_writes_of export time key) was
    ∙ ap (λ n. (first ∷ root_writes index time key) ++ root_writes_of n time key) (number ∙ next)
    ∙ ap (λ n. first ∷ root_writes n time key) (sym next)

-- exports in memory are few
pub few_exports : {X : Type 0} (value : X → ExportValue) (list : List X) (es : List ExportValue) →
    map value list ≡ es →
    AreFaultless es → length list ≤ 64
few_exports value list es is faultless =
    omega (arith, (opened-apart es faultless).0, sym (length-map list value) ∙ ap length is)

-- the objects that the writes make are this store
pub opened_store : (o made : ObjectsValue) (given items : List Write) (es : List ExportValue) (at : Time)
    (moment : Moment) (key : List ℕ) → o ≡ made → store_of made.slots ≡ with_writes no_store (map write_value given)
    → given ≡ items
    → map write_value items ≡ opening_writes es at key → at ≡ time_of moment
    → store_of o.slots ≡ with_writes no_store (opening_writes es (time_of moment) key)
opened_store o made given items es at moment key same is lent writes timed =
    ap (λ (x : ObjectsValue). store_of x.slots) same ∙ is
    ∙ ap (λ (ws : List Write). with_writes no_store (map write_value ws)) lent
    ∙ ap (with_writes no_store) writes ∙ ap (λ (t : Time). with_writes no_store (opening_writes es t key)) timed

-- ---- the book that it opens with
module _ (es : List ExportValue) (moment : Moment) (key : List ℕ) where
  pub opened_leads : (b : BookValue) → store_in b ≡ with_writes no_store (opening_writes es (time_of moment) key)
      → b.records ≡ [] → AreFaultless es → LeadsFrom (opening es moment) b
  opened_leads b store none faultless = record {
    state = opening es moment;
    run = subst (λ (rs : List Record). Run b.setting (opening es moment) rs (opening es moment)) (sym none) refl;
    stands = subst (λ (s : Store). StandsFor s (opening es moment)) (sym store)
        (opening_stands es moment key faultless);
  }

  pub opened_lasts : (s : Store) → s ≡ with_writes no_store (opening_writes es (time_of moment) key) → (n : ℕ) →
      s.last n ≤ 1
  opened_lasts s store n = subst (λ (x : Store). x.last n ≤ 1) (sym store) (opening_lasts es moment key n)
