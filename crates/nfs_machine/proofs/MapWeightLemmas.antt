-- Sums over maps whose values weigh the same at each key.
use Rattle.std.proofs.Common.{◌≡◌, ◌==◌, ℕ, zero, suc, ◌-◌, ◌≤◌, true, false, cond, List, [], ◌∷◌, length, Some, None}
use Rattle.std.proofs.Common.{is_some, refl, sym, ◌∙◌, ap, arith}
use Rattle.std.specs.Cmp.{nat_cmp_total, unsigned_ties}
use Rattle.std.specs.FinMap.{FinMap, entries, find, get, get-entries, len, len-entries, len-remove, remove, values}
use Rattle.std.specs.List.{sum_by}
use Rattle.std.specs.Ordering.{nat_cmp}
use Rattle.nfs_machine.proofs.MapChangeLemmas.{weight, sum-differs, differs-remove, itself}
use Rattle.nfs_machine.proofs.MapSumLemmas.{sum-none}

module _ {X : Type 0} (f : X → ℕ) where
  abbrev total : FinMap nat_cmp X → ℕ
  total m = sum_by f (values m)

  -- a map whose values weigh nothing
  light : (m : FinMap nat_cmp X) → ((q : ℕ) → weight f (get m q) ≡ 0) → total m ≡ 0
  light m none = sum-none f m (λ q v at. sym (ap (weight f) at) ∙ none q)

  alike : (m n : FinMap nat_cmp X) (k : ℕ) → ((q : ℕ) → weight f (get m q) ≡ weight f (get n q))
      → (q : ℕ) → weight f (get (remove m k) q) ≡ weight f (get (remove n k) q)
  alike m n k same q =
      ap (weight f) (differs-remove m k q)
      ∙ elim (q == k) as (λ b. weight f (cond b None (get m q)) ≡ weight f (cond b None (get n q)))
      [ true ↦ refl | false ↦ same q ]
      ∙ sym (ap (weight f) (differs-remove n k q))

  -- the same by the entries of the first
  weights-agree-by : (count : ℕ) (m n : FinMap nat_cmp X) (es : List (ℕ × X)) → entries m ≡ es → len m ≤ count
      → ((q : ℕ) → weight f (get m q) ≡ weight f (get n q)) → total m ≡ total n
  weights-agree-by count m n [] is few same =
      let none : (q : ℕ) → weight f (get m q) ≡ 0 = λ q. ap (weight f) (get-entries m q ∙ ap (find nat_cmp q) is) in
      light m none ∙ sym (light n (λ q. sym (same q) ∙ none q))
  weights-agree-by zero m n (e ∷ es) is few same =
      absurd (let some : len m ≡ suc (length es) = len-entries m ∙ ap length is in omega (arith, some, few))
  weights-agree-by (suc count) m n (e ∷ es) is few same =
      let at : get m e.0 ≡ Some e.1 = get-entries m e.0 ∙ ap (find nat_cmp e.0) is
      ∙ ap (λ b. cond b (Some e.1) (find nat_cmp e.0 es)) (sym (unsigned_ties e.0 e.0) ∙ itself e.0) in
      let less : len (remove m e.0) ≡ len m - 1 = len-remove nat_cmp_total m e.0
      ∙ ap (λ o. cond (is_some o) (len m - 1) (len m)) at in
      let rest = weights-agree-by count (remove m e.0) (remove n e.0) (entries (remove m e.0)) refl
      (omega (arith, less, few)) (alike m n e.0 same) in
      let one = sum-differs f m (remove m e.0) e.0 None (differs-remove m e.0) in
      let other = sum-differs f n (remove n e.0) e.0 None (differs-remove n e.0) in
      omega (arith, rest, one, other, same e.0)

  -- two maps whose values weigh the same at each key have one sum
  pub weights-agree : (m n : FinMap nat_cmp X) → ((q : ℕ) → weight f (get m q) ≡ weight f (get n q)) → total m ≡ total n
  weights-agree m n same = weights-agree-by (len m) m n (entries m) refl (omega arith) same
