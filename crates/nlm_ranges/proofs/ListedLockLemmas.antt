-- A lock that is listed: its owner has its offsets in its mode.
use Rattle.std.proofs.Common.{◌≡◌, ℕ, ◌+◌, ◌≤◌, Bool, true, false, cond, List, [], ◌∷◌, ◌++◌, Some, find, take, drop}
use Rattle.std.proofs.Common.{refl, suc, sym, ◌∙◌, ap, subst, arith, drop-cons}
use Rattle.std.proofs.lemmas.List.{take-append-drop}
use Rattle.std.proofs.lemmas.List.Elements.{All-contains, All-from_recursion}
use Rattle.std.proofs.lemmas.List.Sums.{sum_by-append}
use Rattle.std.specs.List.{Contains, count_by}
use Rattle.nfs_machine.specs.Locks.{AreListed, is_in, mode_at}
use Rattle.nfs_machine.specs.State.{Lock, Owner}
use Rattle.nfs_machine.proofs.ModesLemmas.{holds, mode_by}
use Rattle.nlm_ranges.proofs.ModesAtLemmas.{part-count}
use Rattle.nlm_ranges.specs.Held.{AreAll}

-- what is listed stands between others
record Stands (locks : List Lock) (lock : Lock) : Type 0 where
  pub earlier : List Lock
  pub later : List Lock
  pub is : locks ≡ earlier ++ lock ∷ later

stands : (locks : List Lock) (lock : Lock) → Contains locks lock → Stands locks lock
stands locks lock (k, within, at) = record {
  earlier = take k locks;
  later = drop (suc k) locks;
  is = sym (take-append-drop k locks) ∙ ap (λ ls. take k locks ++ ls)
      (drop-cons locks k lock within ∙ ap (λ l. l ∷ drop (suc k) locks) at);
}

-- its owner has its offsets in its mode
listed-between : (earlier : List Lock) (lock : Lock) (later : List Lock) (o : Owner) (x : ℕ) →
    count_by (holds o x) (earlier ++ lock ∷ later) ≤ 1 → holds o x lock ≡ true →
    mode_at (earlier ++ lock ∷ later) o x ≡ Some lock.exclusive
listed-between [] lock later o x once is =
    ap (λ b. mode_by (cond b (Some lock) (find (holds o x) later))) is
listed-between (l ∷ earlier) lock later o x once is =
    let count : Lock → ℕ = λ (p : Lock). cond {A = ℕ} (holds o x p) 1 0 in
    let all : count_by (holds o x) ((l ∷ []) ++ (earlier ++ lock ∷ later)) ≡ count_by (holds o x) (l ∷ [])
    + count_by (holds o x) (earlier ++ lock ∷ later) = sum_by-append count (l ∷ []) (earlier ++ lock ∷ later) in
    let first : count_by (holds o x) (l ∷ []) ≡ cond {A = ℕ} (holds o x l) 1 0 = part-count true l o x in
    elim (holds o x l) as (λ b. holds o x l ≡ b →
    mode_by (cond b (Some l) (find (holds o x) (earlier ++ lock ∷ later))) ≡ Some lock.exclusive) [
      | false ↦ λ out. listed-between earlier lock later o x (omega (arith, all, once)) is
      | true ↦ λ too.
          let behind : count_by (holds o x) (earlier ++ lock ∷ later) ≡ count_by (holds o x) earlier
          + count_by (holds o x) (lock ∷ later) = sum_by-append count earlier (lock ∷ later) in
          let own : count_by (holds o x) ((lock ∷ []) ++ later) ≡ count_by (holds o x) (lock ∷ [])
          + count_by (holds o x) later = sum_by-append count (lock ∷ []) later in
          let one : count_by (holds o x) (lock ∷ []) ≡ 1 =
          part-count true lock o x ∙ ap (λ b. cond {A = ℕ} b 1 0) is in
          let another : cond {A = ℕ} (holds o x l) 1 0 ≡ 1 = ap (λ b. cond {A = ℕ} b 1 0) too in
          absurd (omega (arith, all, first, behind, own, one, another, once))
    ] refl

pub listed-mode : (locks : List Lock) (lock : Lock) → AreListed locks → Contains locks lock → (o : Owner) (x : ℕ) →
    is_in lock.range o x ≡ true → mode_at locks o x ≡ Some lock.exclusive
listed-mode locks lock listed there o x is =
    let s = stands locks lock there in
    ap (λ ls. mode_at ls o x) s.is
    ∙ listed-between s.earlier lock s.later o x
    (subst (λ ls. count_by (holds o x) ls ≤ 1) s.is (listed.once o x)) is

-- all of a list are exclusive, or none is
pub all-listed : (exclusive : Bool) (locks : List Lock) (lock : Lock) → AreAll exclusive locks → Contains locks lock →
    lock.exclusive ≡ exclusive
all-listed exclusive locks lock all there =
    All-contains (λ (l : Lock). l.exclusive ≡ exclusive) locks lock
    (All-from_recursion (λ (l : Lock). l.exclusive ≡ exclusive) locks all) there
