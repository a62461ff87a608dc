-- Sums over a finite map of what each key with its value gives: what is left without a key, and what stands there.
use Rattle.std.proofs.Common.{◌≡◌, ◌==◌, ℕ, zero, suc, ◌+◌, ◌*◌, ◌<◌, ◌≤◌, true, false}
use Rattle.std.proofs.Common.{cond, List, [], ◌∷◌}
use Rattle.std.proofs.Common.{Option, Some, None, refl, sym, ◌∙◌, ap, arith}
use Rattle.std.proofs.Math.Nat.{suc-mul}
use Rattle.std.proofs.lemmas.Bool.Decides.{nat_tests}
use Rattle.std.proofs.lemmas.List.Sums.{sum_by-cons}
use Rattle.std.specs.Cmp.{nat_cmp_total, nat_eq_equiv, unsigned_Decides, unsigned_ties}
use Rattle.std.specs.FinMap.{FinMap, entries, entries-from_sorted, entries-insert, from_sorted, get, get-entries}
use Rattle.std.specs.FinMap.{get-from_sorted, get-remove, insert, nat_cmp-IsAntisymmetric, remove, same_map}
use Rattle.std.specs.FinMap.Entries.{by_order, find, put}
use Rattle.std.specs.List.{sum_by}
use Rattle.std.specs.declared.cmp.Ordering.TheVariants.{Less, Equal, Greater}
use Rattle.std.specs.Ordering.{is_eq, nat_cmp}
use Rattle.nfs_machine.proofs.MapSumLemmas.{get-inserted}

-- ---- maps without a key
module _ {X : Type 0} where
  pub get-removed : (m : FinMap nat_cmp X) (k q : ℕ) → get (remove m k) q ≡ cond (q == k) None (get m q)
  get-removed m k q = get-remove nat_cmp_total m k q ∙ ap (λ b. cond b None (get m q)) (sym (unsigned_ties q k))

  gone : (m : FinMap nat_cmp X) (k : ℕ) → get (remove m k) k ≡ None
  gone m k = get-removed m k k ∙ ap (λ b. cond b None (get m k)) ((unsigned_Decides k k).1 refl)

  same : (m n : FinMap nat_cmp X) → ((q : ℕ) → get m q ≡ get n q) → m ≡ n
  same m n alike = same_map nat_cmp_total nat_cmp-IsAntisymmetric m n alike

  -- where nothing stands at the key, the map is the one without it
  none-there : (m : FinMap nat_cmp X) (k : ℕ) → get m k ≡ None → m ≡ remove m k
  none-there m k none = same m (remove m k) (λ q.
      elim (q == k) as (λ b. (q == k) ≡ b → get m q ≡ cond b None (get m q)) [
        | true ↦ λ e. ap (get m) ((unsigned_Decides q k).0 e) ∙ none
        | false ↦ λ e. refl
      ] refl ∙ sym (get-removed m k q))

  -- and else the one with what stands there put back
  some-there : (m : FinMap nat_cmp X) (k : ℕ) (v : X) → get m k ≡ Some v → m ≡ insert (remove m k) k v
  some-there m k v some = same m (insert (remove m k) k v) (λ q.
      elim (q == k) as (λ b. (q == k) ≡ b → get m q ≡ cond b (Some v) (cond b None (get m q))) [
        | true ↦ λ e. ap (get m) ((unsigned_Decides q k).0 e) ∙ some
        | false ↦ λ e. refl
      ] refl
      ∙ ap (λ o. cond (q == k) (Some v) o) (sym (get-removed m k q))
      ∙ sym (get-inserted (remove m k) k v q))

  -- two maps that differ at one key alone are the same without it
  pub same-without : (m n : FinMap nat_cmp X) (k : ℕ)
      → ((q : ℕ) → (k == q) ≡ false → get n q ≡ get m q) →
      remove n k ≡ remove m k
  same-without m n k others = same (remove n k) (remove m k) (λ q.
      get-removed n k q
      ∙ elim (q == k) as (λ b. (q == k) ≡ b → cond b None (get n q) ≡ cond b None (get m q)) [
        | true ↦ λ e. refl
        | false ↦ λ e. others q (nat_eq_equiv.symm k q ∙ e)
      ] refl
      ∙ sym (get-removed m k q))

module _ {X : Type 0} (f : ℕ × X → ℕ) where
  abbrev pub total : FinMap nat_cmp X → ℕ
  total m = sum_by f (entries m)

  -- what stands at a key gives this
  abbrev pub part : ℕ → Option X → ℕ
  part k o = elim o [ None ↦ 0 | Some v ↦ f (k, v) ]

  put-total : (k : ℕ) (v : X) (es : List (ℕ × X)) → find nat_cmp k es ≡ None →
      sum_by f (put nat_cmp k v es) ≡ sum_by f es + f (k, v)
  put-total k v [] none = sum_by-cons f (k, v) [] ∙ (let e : f (k, v) + 0 ≡ 0 + f (k, v) = omega arith in e)
  put-total k v (e ∷ es) none =
      elim (nat_cmp k e.0) as (λ r. cond (is_eq r) (Some e.1) (find nat_cmp k es) ≡ None →
      sum_by f (by_order r ((k, v) ∷ e ∷ es) ((e.0, v) ∷ es) (e ∷ put nat_cmp k v es)) ≡
      sum_by f (e ∷ es) + f (k, v)) [
        | Less ↦ λ n. sum_by-cons f (k, v) (e ∷ es)
            ∙ (let x : f (k, v) + sum_by f (e ∷ es) ≡ sum_by f (e ∷ es) + f (k, v) = omega arith in x)
        | Equal ↦ λ n. cc
        | Greater ↦ λ n. (let rest = put-total k v es n in
            omega (arith, rest, sum_by-cons f e (put nat_cmp k v es), sum_by-cons f e es))
      ] none

  -- a value at a new key is added
  pub insert-total : (m : FinMap nat_cmp X) (k : ℕ) (v : X) → get m k ≡ None →
      total (insert m k v) ≡ total m + f (k, v)
  insert-total m k v none =
      ap (sum_by f) (entries-insert nat_cmp_total m k v)
      ∙ put-total k v (entries m) (sym (get-entries m k) ∙ none)

  -- a sum is that of the map without a key, and what stands there gives
  pub split-total : (m : FinMap nat_cmp X) (k : ℕ) → total m ≡ total (remove m k) + part k (get m k)
  split-total m k =
      elim (get m k) as (λ o. get m k ≡ o → total m ≡ total (remove m k) + part k o) [
        | None ↦ λ none. (let e = ap total (none-there m k none) in omega (arith, e))
        | Some v ↦ λ some. ap total (some-there m k v some) ∙ insert-total (remove m k) k v (gone m k)
      ] refl

  pub none-total : (m : FinMap nat_cmp X) → ((q : ℕ) → get m q ≡ None) → total m ≡ 0
  none-total m none =
      ap total (same m (from_sorted []) (λ q. none q ∙ sym (get-from_sorted nat_cmp [] q tt)))
      ∙ ap (sum_by f) (entries-from_sorted nat_cmp [] tt)

  -- keys below one number that give at most another each
  pub total-bound : (count most : ℕ) (m : FinMap nat_cmp X)
      → ((k : ℕ) (v : X) → get m k ≡ Some v → (k < count) × (f (k, v) ≤ most)) → total m ≤ count * most
  total-bound zero most m bound =
      let none = none-total m (λ q. absent q (get m q) refl) in omega (arith, none)
    where
      absent : (q : ℕ) (o : Option X) → get m q ≡ o → o ≡ None
      absent q None at = refl
      absent q (Some v) at = absurd (let below = (bound q v at).0 in omega (arith, below))
  total-bound (suc count) most m bound =
      let rest = total-bound count most (remove m count) fewer in
      omega (arith, split-total m count, rest, last (get m count) refl, suc-mul count most)
    where
      fewer : (k : ℕ) (v : X) → get (remove m count) k ≡ Some v → (k < count) × (f (k, v) ≤ most)
      fewer k v at =
          elim (k == count) as (λ b. (k == count) ≡ b → cond b None (get m k) ≡ Some v →
          (k < count) × (f (k, v) ≤ most)) [
            | true ↦ λ e is. cc
            | false ↦ λ e is. (let b = bound k v is in ((let below = b.0 in grind (arith, nat_tests)), b.1))
          ] refl (sym (get-removed m count k) ∙ at)

      last : (o : Option X) → get m count ≡ o → part count o ≤ most
      last None at = omega arith
      last (Some v) at = (bound count v at).1
