-- What the groups of an export use together is what the machine sums over its living objects (RFC 1813, 3.3.18).
use Rattle.std.proofs.Common.{◌≡◌, ◌≢◌, ◌==◌, ℕ, zero, suc, ◌+◌, ◌<◌, Bool, true, false, cond}
use Rattle.std.proofs.Common.{◌&&◌, List, [], ◌∷◌}
use Rattle.std.proofs.Common.{map, min, ◌-◌, ◌^◌, refl, sym, ◌∙◌, ap, arith}
use Rattle.std.proofs.Math.Nat.{mod-lt}
use Rattle.std.proofs.lemmas.List.Sums.{sum_by-cons}
use Rattle.std.specs.Cmp.{unsigned_Decides}
use Rattle.std.specs.FinMap.{entries, values}
use Rattle.std.specs.List.{count_by, sum_by}
use Rattle.nfs_machine.specs.Attributes.{used_of}
use Rattle.nfs_machine.specs.State.{Living, State}
use Rattle.nfs_objects.specs.Sums.{export_usage, group_of, is_counted, no_usage, together, usage_in}
use Rattle.nfs_objects.specs.declared.usage.Usage.{Usage}

-- of the first so many groups
abbrev pub over_groups : ℕ → (ℕ → ℕ) → ℕ
over_groups zero f = 0
over_groups (suc group) f = over_groups group f + f group

groups-none : (count : ℕ) → over_groups count (λ g. 0) ≡ 0
groups-none zero = refl
groups-none (suc count) = (let e = groups-none count in omega (arith, e))

groups-same : (count : ℕ) (f g : ℕ → ℕ) → ((n : ℕ) → f n ≡ g n)
    → over_groups count f ≡ over_groups count g
groups-same count f g same = ap (over_groups count) (λ i n. same n i)

groups-both : (count : ℕ) (f g : ℕ → ℕ)
    → over_groups count (λ n. f n + g n) ≡ over_groups count f + over_groups count g
groups-both zero f g = refl
groups-both (suc count) f g = (let e = groups-both count f g in omega (arith, e))

-- what is in one group alone
module _ (b : Bool) (value r : ℕ) where
  abbrev here : ℕ → ℕ
  here n = cond (b && (r == n)) value 0

  groups-past : (count : ℕ) → (count < suc r) → over_groups count here ≡ 0
  groups-past zero below = refl
  groups-past (suc count) below =
      let apart : r ≢ count = λ e. omega (arith, below, e) in
      let other : (r == count) ≡ false = elim (r == count) as (λ t. (r == count) ≡ t → t ≡ false) [
        | true ↦ λ e. absurd (apart ((unsigned_Decides r count).0 e))
        | false ↦ λ e. refl
      ] refl in
      let none : here count ≡ 0 = ap (λ t. cond (b && t) value 0) other ∙ nothing b in
      let rest = groups-past count (omega (arith, below)) in
      omega (arith, none, rest)
    where
      nothing : (b : Bool) → cond (b && false) value 0 ≡ 0
      nothing true = refl
      nothing false = refl

  groups-one : (count : ℕ) → r < count → over_groups count here ≡ cond b value 0
  groups-one zero below = absurd (omega (arith, below))
  groups-one (suc count) below =
      elim (r == count) as (λ t. (r == count) ≡ t
      → over_groups count here + cond (b && t) value 0 ≡ cond b value 0) [
        | true ↦ λ e.
            let same = (unsigned_Decides r count).0 e in
            let none = groups-past count (omega (arith, same)) in
            let whole = all b in
            omega (arith, none, whole)
        | false ↦ λ e.
            let apart : r ≢ count = λ is. (let no : true ≡ false = sym ((unsigned_Decides r count).1 is)
            ∙ e in cc) in
            let rest = groups-one count (omega (arith, below, apart)) in
            let none = nothing b in
            omega (arith, rest, none)
      ] refl
    where
      all : (b : Bool) → cond (b && true) value 0 ≡ cond b value 0
      all true = refl
      all false = refl

      nothing : (b : Bool) → cond (b && false) value 0 ≡ 0
      nothing true = refl
      nothing false = refl

-- a sum over living objects, by their groups
module _ (e : ℕ) (value : Living → ℕ) where
  by-groups : (es : List (ℕ × Living)) →
      over_groups 64 (λ g. sum_by (λ (p : ℕ × Living). cond (is_counted e g p) (value p.1) 0) es)
      ≡ sum_by (λ (o : Living). cond (o.export == e) (value o) 0) (map (λ p. p.1) es)
  by-groups [] = groups-none 64
  by-groups (p ∷ es) =
      groups-same 64 _ _ (λ g. sum_by-cons (λ (p : ℕ × Living). cond (is_counted e g p) (value p.1) 0) p es)
      ∙ groups-both 64 (λ g. cond (is_counted e g p) (value p.1) 0)
      (λ g. sum_by (λ (p : ℕ × Living). cond (is_counted e g p) (value p.1) 0) es)
      ∙ ap (λ n. n + over_groups 64 (λ g. sum_by
      (λ (p : ℕ × Living). cond (is_counted e g p) (value p.1) 0) es))
      (groups-one (p.1.export == e) (value p.1) (group_of p.0) 64 (mod-lt p.0 (let s : 0 < 64 = omega arith in s)))
      ∙ ap (λ n. cond (p.1.export == e) (value p.1) 0 + n) (by-groups es)
      ∙ sym (sum_by-cons (λ (o : Living). cond (o.export == e) (value o) 0) p.1 (map (λ p. p.1) es))

pub used-in-groups : (m : State) (e : ℕ) → over_groups 64 (λ g. (usage_in m e g).used)
    ≡ sum_by (λ (o : Living). cond (o.export == e) (used_of o.content) 0) (values m.objects)
used-in-groups m e = by-groups e (λ o. used_of o.content) (entries m.objects)

pub objects-in-groups : (m : State) (e : ℕ) → over_groups 64 (λ g. (usage_in m e g).objects)
    ≡ count_by (λ (o : Living). o.export == e) (values m.objects)
objects-in-groups m e = by-groups e (λ o. 1) (entries m.objects)

-- ---- what the first so many groups use together, within 128 bits
unfoldable pub first_groups : State → (export count : ℕ) → Usage
first_groups m e count = record {
  used = min (over_groups count (λ g. (usage_in m e g).used)) (2 ^ 128 - 1);
  objects = min (over_groups count (λ g. (usage_in m e g).objects)) (2 ^ 128 - 1);
}

pub no-groups : (m : State) (e : ℕ) → no_usage ≡ first_groups m e 0
unfolding first_groups
no-groups m e = refl

-- with one more group
pub next-group : (m : State) (e count : ℕ) (u : Usage) → usage_in m e count ≡ u →
    together (first_groups m e count) u ≡ first_groups m e (count + 1)
unfolding first_groups
next-group m e count u is =
    ap (together (first_groups m e count)) (sym is)
    ∙ (λ i. record {
      used = capped (over_groups count (λ g. (usage_in m e g).used)) (usage_in m e count).used i;
      objects = capped (over_groups count (λ g. (usage_in m e g).objects)) (usage_in m e count).objects i;
    })
    ∙ ap (first_groups m e) (let next : suc count ≡ count + 1 = omega arith in next)
  where
    capped : (a b : ℕ) → min (min a (2 ^ 128 - 1) + b) (2 ^ 128 - 1) ≡ min (a + b) (2 ^ 128 - 1)
    capped a b = omega arith

pub all-groups : (m : State) (e : ℕ) → first_groups m e 64 ≡ export_usage m e
unfolding first_groups
all-groups m e = λ i. record {
  used = min (used-in-groups m e i) (2 ^ 128 - 1);
  objects = min (objects-in-groups m e i) (2 ^ 128 - 1);
}
