-- Sums over the values of a finite map: a value at a new key is added, and one that replaces another takes its part.
use Rattle.std.proofs.Common.{
  ◌≡◌,
  ◌==◌,
  ℕ,
  zero,
  suc,
  ◌+◌,
  ◌≤◌,
  Bool,
  true,
  false,
  cond,
  ◌&&◌,
  T,
  List,
  [],
  ◌∷◌,
  map,
  Option,
  Some,
  None,
  refl,
  sym,
  ◌∙◌,
  ap,
  subst,
  arith,
}
use Rattle.std.proofs.lemmas.List.Sums.{sum_by-cons}
use Rattle.std.specs.Cmp.{nat_cmp_total, tied_itself, unsigned_Decides, unsigned_ties}
use Rattle.std.specs.FinMap.{
  FinMap,
  entries,
  entries-insert,
  entries_sorted,
  get,
  get-entries,
  get-insert,
  get-remove,
  insert,
  nat_cmp-IsAntisymmetric,
  remove,
  same_map,
  values,
}
use Rattle.std.specs.FinMap.Entries.{below_all, by_order, find, is_sorted, put}
use Rattle.std.specs.List.{sum_by}
use Rattle.std.specs.declared.cmp.Ordering.TheVariants.{Less, Equal, Greater}
use Rattle.std.specs.Ordering.{eq_by_cmp, is_eq, is_lt, nat_cmp}

-- what a map has after an insertion, by a test of the numbers
pub get-inserted : {X : Type 0} (m : FinMap nat_cmp X) (k : ℕ) (v : X) (q : ℕ)
    → get (insert m k v) q ≡ cond (q == k) (Some v) (get m q)
get-inserted m k v q = get-insert nat_cmp_total m k v q ∙ ap (λ b. cond b (Some v) (get m q)) (sym (unsigned_ties q k))

module _ {X : Type 0} (f : X → ℕ) where
  abbrev sum_of : List (ℕ × X) → ℕ
  sum_of es = sum_by f (map (λ e. e.1) es)

  sum_of-cons : (e : ℕ × X) (es : List (ℕ × X)) → sum_of (e ∷ es) ≡ f e.1 + sum_of es
  sum_of-cons e es = sum_by-cons f e.1 (map (λ (e : ℕ × X). e.1) es)

  sum-put : (k : ℕ) (v : X) (es : List (ℕ × X)) → find nat_cmp k es ≡ None
      → sum_of (put nat_cmp k v es) ≡ sum_of es + f v
  sum-put k v [] none = sum_of-cons (k, v) [] ∙ (let e : f v + 0 ≡ 0 + f v = omega arith in e)
  sum-put k v (e ∷ es) none =
      elim (nat_cmp k e.0) as (λ r. cond (is_eq r) (Some e.1) (find nat_cmp k es) ≡ None
      → sum_of (by_order r ((k, v) ∷ e ∷ es) ((e.0, v) ∷ es) (e ∷ put nat_cmp k v es)) ≡ sum_of (e ∷ es) + f v) [
        | Less ↦ λ n. sum_of-cons (k, v) (e ∷ es)
            ∙ (let x : f v + sum_of (e ∷ es) ≡ sum_of (e ∷ es) + f v = omega arith in x)
        | Equal ↦ λ n. cc
        | Greater ↦ λ n. (let rest = sum-put k v es n in omega (
          arith,
          rest,
          sum_of-cons e (put nat_cmp k v es),
          sum_of-cons e es,
        ))
      ] none

  -- at a new key
  pub sum-insert_new : (m : FinMap nat_cmp X) (k : ℕ) (v : X) → get m k ≡ None
      → sum_by f (values (insert m k v)) ≡ sum_by f (values m) + f v
  sum-insert_new m k v none = ap sum_of (entries-insert nat_cmp_total m k v)
      ∙ sum-put k v (entries m) (sym (get-entries m k) ∙ none)

  -- in the place of another
  pub sum-insert_old : (m : FinMap nat_cmp X) (k : ℕ) (v w : X) → get m k ≡ Some v
      → sum_by f (values (insert m k w)) + f v ≡ sum_by f (values m) + f w
  sum-insert_old m k v w at =
      let rest : FinMap nat_cmp X = remove m k in
      let gone : get rest k ≡ None = get-remove nat_cmp_total m k k
      ∙ ap (λ r. cond (is_eq r) None (get m k)) (tied_itself nat_cmp_total k) in
      let with : insert m k w ≡ insert rest k w = same_map nat_cmp_total nat_cmp-IsAntisymmetric _ _ (λ q.
      get-insert nat_cmp_total m k w q ∙ shadowed (eq_by_cmp nat_cmp q k) (Some w) (get m q)
      ∙ ap (cond (eq_by_cmp nat_cmp q k) (Some w)) (sym (get-remove nat_cmp_total m k q))
      ∙ sym (get-insert nat_cmp_total rest k w q)) in
      let was : m ≡ insert rest k v = same_map nat_cmp_total nat_cmp-IsAntisymmetric _ _ (λ q.
      had q ∙ ap (cond (eq_by_cmp nat_cmp q k) (Some v)) (sym (get-remove nat_cmp_total m k q))
      ∙ sym (get-insert nat_cmp_total rest k v q)) in
      let a = ap (λ (x : FinMap nat_cmp X). sum_by f (values x)) with ∙ sum-insert_new rest k w gone in
      let b = ap (λ (x : FinMap nat_cmp X). sum_by f (values x)) was ∙ sum-insert_new rest k v gone in
      omega (arith, a, b)
    where
      shadowed : (b : Bool) (x y : Option X) → cond b x y ≡ cond b x (cond b None y)
      shadowed true x y = refl
      shadowed false x y = refl

      had : (q : ℕ) → get m q ≡ cond (eq_by_cmp nat_cmp q k) (Some v) (cond (eq_by_cmp nat_cmp q k) None (get m q))
      had q =
          elim (q == k) as (λ b. (q == k) ≡ b → get m q ≡ cond b (Some v) (cond b None (get m q))) [
            | true ↦ λ e. ap (get m) ((unsigned_Decides q k).0 e) ∙ at
            | false ↦ λ e. refl
          ] refl
          ∙ ap (λ b. cond b (Some v) (cond b None (get m q))) (unsigned_ties q k)

  below : (q : ℕ) (es : List (ℕ × X)) → T (below_all nat_cmp q es) → find nat_cmp q es ≡ None
  below q [] h = refl
  below q (e ∷ es) h =
      elim (nat_cmp q e.0) as (λ r. T (is_lt r && below_all nat_cmp q es)
      → cond (is_eq r) (Some e.1) (find nat_cmp q es) ≡ None) [
        | Less ↦ λ t. below q es t
        | Equal ↦ λ t. absurd t
        | Greater ↦ λ t. absurd t
      ] h

  parts : (a b : Bool) → T (a && b) → T a × T b
  parts true true t = (tt, tt)
  parts true false t = absurd t
  parts false b t = absurd t

  found-head : (e : ℕ × X) (es : List (ℕ × X)) → find nat_cmp e.0 (e ∷ es) ≡ Some e.1
  found-head e es = ap (λ r. cond (is_eq r) (Some e.1) (find nat_cmp e.0 es)) (tied_itself nat_cmp_total e.0)

  -- what the rest of a sorted list has, the list has
  found-later : (e : ℕ × X) (es : List (ℕ × X)) (q : ℕ) (v : X) → find nat_cmp q es ≡ Some v
      → T (below_all nat_cmp e.0 es) → find nat_cmp q (e ∷ es) ≡ Some v
  found-later e es q v at under =
      let found : cond (q == e.0) (Some e.1) (find nat_cmp q es) ≡ Some v = elim (q == e.0) as (λ b. (q == e.0) ≡ b
      → cond b (Some e.1) (find nat_cmp q es) ≡ Some v) [
        | true ↦ λ same. (let none : find nat_cmp q es ≡ None = ap (λ k. find nat_cmp k es)
            ((unsigned_Decides q e.0).0 same) ∙ below e.0 es under in cc)
        | false ↦ λ other. at
      ] refl in
      subst (λ b. cond b (Some e.1) (find nat_cmp q es) ≡ Some v) (unsigned_ties q e.0) found

  sum-zero : (es : List (ℕ × X)) → T (is_sorted nat_cmp es) → ((q : ℕ) (v : X) → find nat_cmp q es ≡ Some v → f v ≡ 0)
      → sum_of es ≡ 0
  sum-zero [] sorted none = refl
  sum-zero (e ∷ es) sorted none =
      let p = parts (below_all nat_cmp e.0 es) (is_sorted nat_cmp es) sorted in
      let here : f e.1 ≡ 0 = none e.0 e.1 (found-head e es) in
      let there : sum_of es ≡ 0 = sum-zero es p.1 (λ q v at. none q v (found-later e es q v at p.0)) in
      omega (arith, here, there, sum_of-cons e es)

  sum-part : (es : List (ℕ × X)) → T (is_sorted nat_cmp es) → 1 ≤ sum_of es → (q : ℕ) × (v : X)
      × (find nat_cmp q es ≡ Some v) × (1 ≤ f v)
  sum-part [] sorted some = absurd (omega (arith, some))
  sum-part (e ∷ es) sorted some =
      let p = parts (below_all nat_cmp e.0 es) (is_sorted nat_cmp es) sorted in
      elim (f e.1) as (λ k. f e.1 ≡ k → (q : ℕ) × (v : X) × (find nat_cmp q (e ∷ es) ≡ Some v) × (1 ≤ f v)) [
        | zero ↦ λ none. (let rest = sum-part es p.1 (omega (arith, some, none, sum_of-cons e es)) in
            (rest.0, rest.1, found-later e es rest.0 rest.1 rest.2 p.0, rest.3))
        | suc k ↦ λ is. (e.0, e.1, found-head e es, omega (arith, is))
      ] refl

  -- where each value gives nothing
  pub sum-none : (m : FinMap nat_cmp X) → ((q : ℕ) (v : X) → get m q ≡ Some v → f v ≡ 0) → sum_by f (values m) ≡ 0
  sum-none m none = sum-zero (entries m) (entries_sorted m) (λ q v at. none q v (get-entries m q ∙ at))

  -- where the sum is something, so is a value
  pub sum-some_part : (m : FinMap nat_cmp X) → 1 ≤ sum_by f (values m) → (q : ℕ) × (v : X) × (get m q ≡ Some v)
      × (1 ≤ f v)
  sum-some_part m some =
      let part = sum-part (entries m) (entries_sorted m) some in
      (part.0, part.1, get-entries m part.0 ∙ part.2, part.3)
