-- What groups of objects use where other exports are put.
use Rattle.std.proofs.Common.{◌≡◌, ◌==◌, ◌&&◌, ◌||◌, ℕ, zero, suc, ◌-◌, ◌<◌, ◌≤◌, Bool, true, false, cond, nat_lt}
use Rattle.std.proofs.Common.{List, [], ◌∷◌, length, Option, Some, None, is_some, refl, sym, ◌∙◌, ap, arith}
use Rattle.std.proofs.lemmas.Bool.Decides.{nat_tests}
use Rattle.std.specs.Cmp.{nat_cmp_total, unsigned_Decides, unsigned_ties}
use Rattle.std.specs.FinMap.{FinMap, entries, get, get-entries, get-retain_keys, len, len-entries, len-remove}
use Rattle.std.specs.FinMap.{nat_cmp-IsAntisymmetric, remove}
use Rattle.std.specs.FinMap.Entries.{find}
use Rattle.std.specs.List.{sum_by}
use Rattle.std.specs.Option.{option_map_or}
use Rattle.std.specs.Ordering.{nat_cmp}
use Rattle.nfs_machine.specs.Attributes.{used_of}
use Rattle.nfs_machine.specs.Replacing.{staying}
use Rattle.nfs_machine.specs.State.{Living, State}
use Rattle.nfs_machine.specs.WellFormed.{WellFormed}
use Rattle.nfs_objects.proofs.TallyLemmas.{get-removed, part, split-total, total}
use Rattle.nfs_objects.specs.ExportTables.{ExportTableValue}
use Rattle.nfs_objects.specs.Replaced.{state_with, with_table}
use Rattle.nfs_objects.specs.Sound.{Sound}
use Rattle.nfs_objects.specs.Stands.{StoreMeaning, lives_in}
use Rattle.nfs_objects.specs.Sums.{group_of, is_counted, no_usage, usage_in}
use Rattle.nfs_objects.specs.declared.usage.Usage.{Usage}
use Rattle.nfs_inodes.specs.Roots.{Follows}

-- ---- sums over maps that give the same at each key
module _ {X : Type 0} (f : ℕ × X → ℕ) where
  first-there : (m : FinMap nat_cmp X) (e : ℕ × X) (es : List (ℕ × X)) → entries m ≡ e ∷ es → get m e.0 ≡ Some e.1
  first-there m e es is = get-entries m e.0 ∙ ap (find nat_cmp e.0) is
      ∙ ap (λ b. cond b (Some e.1) (find nat_cmp e.0 es))
      (sym (unsigned_ties e.0 e.0) ∙ (unsigned_Decides e.0 e.0).1 refl)

  one-less : (m : FinMap nat_cmp X) (e : ℕ × X) (es : List (ℕ × X)) → entries m ≡ e ∷ es
      → len (remove m e.0) ≡ len m - 1
  one-less m e es is = len-remove nat_cmp_total m e.0
      ∙ ap (λ o. cond (is_some o) (len m - 1) (len m)) (first-there m e es is)

  some-length : (m : FinMap nat_cmp X) (e : ℕ × X) (es : List (ℕ × X)) → entries m ≡ e ∷ es → len m ≡ suc (length es)
  some-length m e es is = len-entries m ∙ ap length is

  -- where nothing gives anything
  nothing-by : (count : ℕ) (m : FinMap nat_cmp X) (es : List (ℕ × X)) → entries m ≡ es → len m ≤ count
      → ((q : ℕ) → part f q (get m q) ≡ 0) → total f m ≡ 0
  nothing-by count m [] is few none = ap (sum_by f) is
  nothing-by zero m (e ∷ es) is few none = absurd (let some = some-length m e es is in omega (arith, some, few))
  nothing-by (suc count) m (e ∷ es) is few none =
      let less = one-less m e es is in
      let rest = nothing-by count (remove m e.0) (entries (remove m e.0)) refl (omega (arith, less, few))
      (λ q. ap (part f q) (get-removed m e.0 q)
      ∙ elim (q == e.0) as (λ b. part f q (cond b None (get m q)) ≡ 0) [ true ↦ refl | false ↦ none q ]) in
      let split = split-total f m e.0 in
      omega (arith, rest, split, none e.0)

  pub nothing-total : (m : FinMap nat_cmp X) → ((q : ℕ) → part f q (get m q) ≡ 0) → total f m ≡ 0
  nothing-total m none = nothing-by (len m) m (entries m) refl (omega arith) none

  agree-by : (count : ℕ) (m n : FinMap nat_cmp X) (es : List (ℕ × X)) → entries m ≡ es → len m ≤ count
      → ((q : ℕ) → part f q (get m q) ≡ part f q (get n q)) → total f m ≡ total f n
  agree-by count m n [] is few same =
      ap (sum_by f) is ∙ sym (nothing-total n (λ q. sym (same q)
      ∙ ap (part f q) (get-entries m q ∙ ap (find nat_cmp q) is)))
  agree-by zero m n (e ∷ es) is few same = absurd (let some = some-length m e es is in omega (arith, some, few))
  agree-by (suc count) m n (e ∷ es) is few same =
      let less = one-less m e es is in
      let rest = agree-by count (remove m e.0) (remove n e.0) (entries (remove m e.0)) refl (omega (arith, less, few))
      (λ q. ap (part f q) (get-removed m e.0 q)
      ∙ elim (q == e.0) as (λ b. part f q (cond b None (get m q)) ≡ part f q (cond b None (get n q)))
      [ true ↦ refl | false ↦ same q ]
      ∙ sym (ap (part f q) (get-removed n e.0 q))) in
      let one = split-total f m e.0 in
      let other = split-total f n e.0 in
      omega (arith, rest, one, other, same e.0)

  pub totals-agree : (m n : FinMap nat_cmp X) → ((q : ℕ) → part f q (get m q) ≡ part f q (get n q))
      → total f m ≡ total f n
  totals-agree m n same = agree-by (len m) m n (entries m) refl (omega arith) same

both-sums : (u v : Usage) → u.used ≡ v.used → u.objects ≡ v.objects → u ≡ v
both-sums u v used objects = λ i. record { used = used i; objects = objects i }

never-both : (b : Bool) → b ≡ true → b ≡ false → ⊥
never-both true is off = cc
never-both false is off = cc

-- ---- what stays
module _ (m : State) (table : ExportTableValue) where
  abbrev stay : FinMap nat_cmp Living
  stay = staying table.exports m.objects

  abbrev stays : Option Living → Bool
  stays o = option_map_or (λ (x : Living). lives_in table.exports x.export) o false

  got : (n : ℕ) → get stay n ≡ cond (stays (get m.objects n)) (get m.objects n) None
  got n = get-retain_keys m.objects (λ q. stays (get m.objects q)) n
      (λ x tied. ap (λ q. stays (get m.objects q)) (sym (nat_cmp-IsAntisymmetric n x tied)))

  pub stayed : (n : ℕ) (o : Living) → get stay n ≡ Some o → get m.objects n ≡ Some o
  stayed n o at = by (stays (get m.objects n)) (sym (got n) ∙ at)
    where
      by : (b : Bool) → cond b (get m.objects n) None ≡ Some o → get m.objects n ≡ Some o
      by true is = is
      by false is = cc

  -- what an object gives to the sums of a group
  module _ (value : Living → ℕ) (e g : ℕ) where
    abbrev gives : ℕ × Living → ℕ
    gives p = cond (is_counted e g p) (value p.1) 0

    other-export : (q : ℕ) (o : Living) → (o.export == e) ≡ false → gives (q, o) ≡ 0
    other-export q o other = ap (λ b. cond (b && (group_of q == g)) (value o) 0) other

    -- an object of an export that lives, and one of an export that does not
    apart-by : (exports-live : ℕ → Bool) (o : Living) (b : Bool) → exports-live e ≡ b
        → (exports-live o.export ≡ b → ⊥) → (o.export == e) ≡ false
    apart-by exports-live o b is never = elim (o.export == e) as (λ t. (o.export == e) ≡ t → t ≡ false) [
      | true ↦ λ same. absurd (never (ap exports-live ((unsigned_Decides o.export e).0 same) ∙ is))
      | false ↦ λ other. refl
    ] refl

    same-part : lives_in table.exports e ≡ true → (q : ℕ) → part gives q (get stay q) ≡ part gives q (get m.objects q)
    same-part lives q = ap (part gives q) (got q) ∙ by (get m.objects q)
      where
        by : (x : Option Living) → part gives q (cond (stays x) x None) ≡ part gives q x
        by None = refl
        by (Some o) = elim (lives_in table.exports o.export) as (λ b. lives_in table.exports o.export ≡ b →
            part gives q (cond b (Some o) None) ≡ gives (q, o)) [
              | true ↦ λ on. refl
              | false ↦ λ gone. sym (other-export q o (apart-by (lives_in table.exports) o true lives
                  (λ on. never-both (lives_in table.exports o.export) on gone)))
            ] refl

    none-stays : lives_in table.exports e ≡ false → (q : ℕ) → part gives q (get stay q) ≡ 0
    none-stays gone q = ap (part gives q) (got q) ∙ by (get m.objects q)
      where
        by : (x : Option Living) → part gives q (cond (stays x) x None) ≡ 0
        by None = refl
        by (Some o) = elim (lives_in table.exports o.export) as (λ b. lives_in table.exports o.export ≡ b →
            part gives q (cond b (Some o) None) ≡ 0) [
              | true ↦ λ on. other-export q o (apart-by (lives_in table.exports) o false gone
                  (λ off. never-both (lives_in table.exports o.export) on off))
              | false ↦ λ off. refl
            ] refl

    none-lived : WellFormed m → lives_in m.exports e ≡ false → (q : ℕ) → part gives q (get m.objects q) ≡ 0
    none-lived w gone q = by (get m.objects q) refl
      where
        by : (x : Option Living) → get m.objects q ≡ x → part gives q x ≡ 0
        by None at = refl
        by (Some o) at = other-export q o (apart-by (lives_in m.exports) o false gone
            (λ off. never-both (lives_in m.exports o.export) (w.exported q o at) off))

abbrev size-of : Living → ℕ
size-of o = used_of o.content

abbrev one : Living → ℕ
one o = 1

-- what is kept of usages is right still
pub table-usage : (k : StoreMeaning) (table : ExportTableValue) → Follows k.state table → WellFormed k.state → Sound k
    → (e g : ℕ) → (with_table k table).usage e g ≡ usage_in (state_with k.state table) e g
table-usage k table follows w sound e g = by (lives_in table.exports e) refl
  where
    none-new : lives_in table.exports e ≡ false → no_usage ≡ usage_in (state_with k.state table) e g
    none-new gone = sym (both-sums (usage_in (state_with k.state table) e g) no_usage
        (nothing-total (gives k.state table size-of e g) (staying table.exports k.state.objects)
        (none-stays k.state table size-of e g gone))
        (nothing-total (gives k.state table one e g) (staying table.exports k.state.objects)
        (none-stays k.state table one e g gone)))

    none-old : lives_in k.state.exports e ≡ false → usage_in k.state e g ≡ no_usage
    none-old gone = both-sums (usage_in k.state e g) no_usage
        (nothing-total (gives k.state table size-of e g) k.state.objects (none-lived k.state table size-of e g w gone))
        (nothing-total (gives k.state table one e g) k.state.objects (none-lived k.state table one e g w gone))

    behind : nat_lt table.last e ≡ true → lives_in k.state.exports e ≡ false
    behind above = elim (lives_in k.state.exports e) as (λ b. lives_in k.state.exports e ≡ b → b ≡ false) [
      | true ↦ λ lives. absurd (let low = follows.used e lives in let grown = follows.grown in
          let over : table.last < e = grind (arith, nat_tests) in omega (arith, over, low, grown))
      | false ↦ λ gone. refl
    ] refl

    beyond : lives_in table.exports e ≡ false → (b : Bool) → nat_lt table.last e ≡ b
        → cond b (k.usage e g) no_usage ≡ usage_in (state_with k.state table) e g
    beyond gone true above = sound.usage e g ∙ none-old (behind above) ∙ none-new gone
    beyond gone false used = none-new gone

    by : (b : Bool) → lives_in table.exports e ≡ b
        → (with_table k table).usage e g ≡ usage_in (state_with k.state table) e g
    by true lives =
        ap (λ b. cond (b || nat_lt table.last e) (k.usage e g) no_usage) lives ∙ sound.usage e g
        ∙ sym (both-sums (usage_in (state_with k.state table) e g) (usage_in k.state e g)
        (totals-agree (gives k.state table size-of e g) (staying table.exports k.state.objects) k.state.objects
        (same-part k.state table size-of e g lives))
        (totals-agree (gives k.state table one e g) (staying table.exports k.state.objects) k.state.objects
        (same-part k.state table one e g lives)))
    by false gone =
        ap (λ b. cond (b || nat_lt table.last e) (k.usage e g) no_usage) gone
        ∙ beyond gone (nat_lt table.last e) refl
