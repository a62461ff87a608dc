-- What owners have at offsets, where a range is given back and where one more lock is listed.
use Rattle.std.proofs.Common.{◌≡◌, ℕ, ◌+◌, ◌-◌, ◌<◌, ◌≤◌, Bool, true, false, not, ◌&&◌, ◌||◌, cond}
use Rattle.std.proofs.Common.{List, [], ◌∷◌, ◌++◌, Some, None, filter, find, nat_le, nat_lt}
use Rattle.std.proofs.Common.{refl, sym, ◌∙◌, ap, subst, arith, ◌⊎◌, inl, inr}
use Rattle.std.proofs.lemmas.Bool.{and_parts, leb-false, leb-true, le-leb, lt-ltb, ltb-true}
use Rattle.std.proofs.lemmas.List.Sums.{sum_by-append}
use Rattle.std.specs.List.{AllByRecursion, count_by, flat_map}
use Rattle.std.specs.Option.{option_or}
use Rattle.nfs_machine.specs.Bytes.{same_bytes}
use Rattle.nfs_machine.specs.Locks.{AreListed, HasModes, IsRange, Mode, is_in, is_within, mode_at}
use Rattle.nfs_machine.specs.Locks.{modes_with, modes_without, same_owner}
use Rattle.nfs_machine.specs.State.{Lock, Owner, Range}
use Rattle.nfs_machine.proofs.ModesLemmas.{all-joined, all-left, holds, inside, mode_by, one-owner, owner-itself}
use Rattle.nlm_ranges.specs.Cutting.{Inserts, before, behind, between, cut, is_touched}
use Rattle.nlm_ranges.specs.Held.{AreAll}
use Rattle.nfs_machine.proofs.FileMapLemmas.{count-left}

-- what two lists have, one behind the other
pub mode-append : (a b : List Lock) (o : Owner) (x : ℕ) →
    mode_at (a ++ b) o x ≡ option_or (mode_at a o x) (mode_at b o x)
mode-append [] b o x = refl
mode-append (l ∷ a) b o x =
    elim (holds o x l) as (λ t. mode_by (cond t (Some l) (find (holds o x) (a ++ b)))
    ≡ option_or (mode_by (cond t (Some l) (find (holds o x) a))) (mode_at b o x)) [
      | true ↦ refl
      | false ↦ mode-append a b o x
    ]

pub or-none : (m : Mode) → option_or m None ≡ m
or-none None = refl
or-none (Some b) = refl

-- tests of numbers
pub tested : (a b : Bool) → (a ≡ true → b ≡ true) → (b ≡ true → a ≡ true) → a ≡ b
tested true true there back = refl
tested false false there back = refl
tested true false there back = sym (there refl)
tested false true there back = back refl

pub within : (first last x : ℕ) → first ≤ x → x ≤ last → is_within first last x ≡ true
within first last x low high = ap (λ b. b && nat_le x last) (le-leb first x low) ∙ le-leb x last high

pub record Within (first last x : ℕ) : Type 0 where
  pub low : first ≤ x
  pub high : x ≤ last

pub offset-within : (first last x : ℕ) → is_within first last x ≡ true → Within first last x
offset-within first last x e =
    let parts = and_parts (nat_le first x) (nat_le x last) e in
    record { low = leb-true first x parts.0; high = leb-true x last parts.1 }

-- a range that no offset is in has no offset that is
pub without : (first last x : ℕ) → (first ≤ x → x ≤ last → ⊥) → is_within first last x ≡ false
without first last x out =
    elim (is_within first last x) as (λ b. is_within first last x ≡ b → b ≡ false) [
      | true ↦ λ e. (let w = offset-within first last x e in absurd (out w.low w.high))
      | false ↦ λ e. refl
    ] refl

-- ---- one lock, of which a range is given back
either : (a b : Bool) → (a || b) ≡ true → (a ≡ true) ⊎ (b ≡ true)
either true b e = inl refl
either false b e = inr e

or-left : (a b : Bool) → a ≡ true → (a || b) ≡ true
or-left true b e = refl
or-left false b e = cc

or-right : (a b : Bool) → b ≡ true → (a || b) ≡ true
or-right true b e = refl
or-right false b e = e

pub both : (a b : Bool) → a ≡ true → b ≡ true → (a && b) ≡ true
both true b ea eb = eb
both false b ea eb = cc

-- offsets that are left
cut-offsets : (lf ll rf rl x : ℕ) → lf ≤ rl → rf ≤ ll →
    ((nat_lt lf rf && is_within lf (rf - 1) x) || (nat_lt rl ll && is_within (rl + 1) ll x))
    ≡ (not (is_within rf rl x) && is_within lf ll x)
cut-offsets lf ll rf rl x low high = tested _ _ there back
  where
    there : ((nat_lt lf rf && is_within lf (rf - 1) x) || (nat_lt rl ll && is_within (rl + 1) ll x)) ≡ true
        → (not (is_within rf rl x) && is_within lf ll x) ≡ true
    there e =
        elim (either (nat_lt lf rf && is_within lf (rf - 1) x) (nat_lt rl ll && is_within (rl + 1) ll x) e) [
          | inl h ↦
              let parts = and_parts (nat_lt lf rf) (is_within lf (rf - 1) x) h in
              let some : lf < rf = ltb-true lf rf parts.0 in
              let w = offset-within lf (rf - 1) x parts.1 in
              let w1 = w.low in
              let w2 = w.high in
              both _ _ (ap not (without rf rl x (λ a b. omega (arith, a, some, w2))))
              (within lf ll x w1 (omega (arith, w2, some, high)))
          | inr h ↦
              let parts = and_parts (nat_lt rl ll) (is_within (rl + 1) ll x) h in
              let w = offset-within (rl + 1) ll x parts.1 in
              let w1 = w.low in
              let w2 = w.high in
              both _ _ (ap not (without rf rl x (λ a b. omega (arith, b, w1))))
              (within lf ll x (omega (arith, w1, low)) w2)
        ]

    back : (not (is_within rf rl x) && is_within lf ll x) ≡ true
        → ((nat_lt lf rf && is_within lf (rf - 1) x) || (nat_lt rl ll && is_within (rl + 1) ll x)) ≡ true
    back e =
        let parts = and_parts (not (is_within rf rl x)) (is_within lf ll x) e in
        let w = offset-within lf ll x parts.1 in
        let w1 = w.low in
        let w2 = w.high in
        elim (nat_le rf x) as (λ b. nat_le rf x ≡ b → ((nat_lt lf rf && is_within lf (rf - 1) x)
        || (nat_lt rl ll && is_within (rl + 1) ll x)) ≡ true) [
          | false ↦ λ under.
              let less : x < rf = leb-false rf x under in
              or-left _ _ (both _ _ (lt-ltb lf rf (omega (arith, w1, less)))
              (within lf (rf - 1) x w1 (omega (arith, less))))
          | true ↦ λ over.
              let from : rf ≤ x = leb-true rf x over in
              elim (nat_le x rl) as (λ b. nat_le x rl ≡ b → ((nat_lt lf rf && is_within lf (rf - 1) x)
              || (nat_lt rl ll && is_within (rl + 1) ll x)) ≡ true) [
                | true ↦ λ inside.
                    let no : not (is_within rf rl x) ≡ false =
                    ap not (within rf rl x from (leb-true x rl inside)) in
                    let never : true ≡ false = sym parts.0 ∙ no in cc
                | false ↦ λ outside.
                    let more : rl < x = leb-false x rl outside in
                    or-right _ _ (both _ _ (lt-ltb rl ll (omega (arith, w2, more)))
                    (within (rl + 1) ll x (omega (arith, more)) w2))
              ] refl
        ] refl

-- both of what is left have no offset
cut-once : (lf ll rf rl x : ℕ) → rf ≤ rl →
    (nat_lt lf rf && is_within lf (rf - 1) x) ≡ true → (nat_lt rl ll && is_within (rl + 1) ll x) ≡ true → ⊥
cut-once lf ll rf rl x rises a b =
    let before = and_parts (nat_lt lf rf) (is_within lf (rf - 1) x) a in
    let behind = and_parts (nat_lt rl ll) (is_within (rl + 1) ll x) b in
    let w = offset-within lf (rf - 1) x before.1 in
    let v = offset-within (rl + 1) ll x behind.1 in
    let w2 = w.high in
    let v1 = v.low in
    let some : lf < rf = ltb-true lf rf before.0 in
    omega (arith, w2, v1, some, rises)

-- what one lock has, where it is listed or not
pub part-mode : (c : Bool) (p : Lock) (o : Owner) (x : ℕ) →
    mode_at (cond c (p ∷ []) []) o x ≡ cond (c && holds o x p) (Some p.exclusive) None
part-mode false p o x = refl
part-mode true p o x =
    elim (holds o x p) as (λ t. mode_by (cond t (Some p) None) ≡ cond t (Some p.exclusive) None) [
      | true ↦ refl
      | false ↦ refl
    ]

pub part-count : (c : Bool) (p : Lock) (o : Owner) (x : ℕ) →
    count_by (holds o x) (cond c (p ∷ []) []) ≡ cond (c && holds o x p) 1 0
part-count false p o x = refl
part-count true p o x = omega arith

-- two that are not both so, each where a third is so
counted-apart : (a b w : Bool) → (a ≡ true → b ≡ true → ⊥) → (a ≡ true → w ≡ true) → (b ≡ true → w ≡ true) →
    cond {A = ℕ} a 1 0 + cond {A = ℕ} b 1 0 ≤ cond {A = ℕ} w 1 0
counted-apart true true w apart f g = absurd (apart refl refl)
counted-apart true false w _ f _ =
    let one : cond {A = ℕ} w 1 0 ≡ 1 = ap (λ b. cond {A = ℕ} b 1 0) (f refl) in omega (arith, one)
counted-apart false true w _ _ g =
    let one : cond {A = ℕ} w 1 0 ≡ 1 = ap (λ b. cond {A = ℕ} b 1 0) (g refl) in omega (arith, one)
counted-apart false false w _ _ _ = omega arith

module _ (r : Range) (l : Lock) (o : Owner) (x : ℕ) where
  abbrev has_before : Bool
  has_before = nat_lt l.first r.first && is_within l.first (r.first - 1) x

  abbrev has_behind : Bool
  has_behind = nat_lt r.last l.last && is_within (r.last + 1) l.last x

  -- where the lock is touched and of this owner
  module _ (touched : is_touched r l ≡ true) where
    same : same_owner r.owner l.owner ≡ true
    same = (and_parts (same_owner r.owner l.owner) (nat_le l.first r.last && nat_le r.first l.last) touched).0

    meets : (nat_le l.first r.last && nat_le r.first l.last) ≡ true
    meets = (and_parts (same_owner r.owner l.owner) (nat_le l.first r.last && nat_le r.first l.last) touched).1

    low : l.first ≤ r.last
    low = leb-true l.first r.last (and_parts (nat_le l.first r.last) (nat_le r.first l.last) meets).0

    high : r.first ≤ l.last
    high = leb-true r.first l.last (and_parts (nat_le l.first r.last) (nat_le r.first l.last) meets).1

    of-owner : same_owner r.owner o ≡ same_owner l.owner o
    of-owner = ap (λ a. same_owner a o) (one-owner r.owner l.owner same)

    turned : (c s w : Bool) → (c && (s && w)) ≡ (s && (c && w))
    turned true true w = refl
    turned true false w = refl
    turned false true w = refl
    turned false false w = refl

    spread : (s a b n w : Bool) → (a || b) ≡ (not n && w) → ((s && a) || (s && b)) ≡ (not (s && n) && (s && w))
    spread true a b n w e = e
    spread false a b n w e = refl

    left-is : ((nat_lt l.first r.first && holds o x (between l l.first (r.first - 1)))
        || (nat_lt r.last l.last && holds o x (between l (r.last + 1) l.last)))
        ≡ (not (is_in r o x) && holds o x l)
    left-is =
        ap (λ b. b || (nat_lt r.last l.last && holds o x (between l (r.last + 1) l.last)))
        (turned (nat_lt l.first r.first) (same_owner l.owner o) (is_within l.first (r.first - 1) x))
        ∙ ap (λ b. (same_owner l.owner o && has_before) || b)
        (turned (nat_lt r.last l.last) (same_owner l.owner o) (is_within (r.last + 1) l.last x))
        ∙ spread (same_owner l.owner o) has_before has_behind (is_within r.first r.last x)
        (is_within l.first l.last x) (cut-offsets l.first l.last r.first r.last x low high)
        ∙ ap (λ s. not (s && is_within r.first r.last x) && holds o x l) (sym of-owner)

  one-mode : mode_at (l ∷ []) o x ≡ cond (holds o x l) (Some l.exclusive) None
  one-mode = part-mode true l o x

  two-modes : (a b : Bool) → option_or (cond a (Some l.exclusive) None) (cond b (Some l.exclusive) None)
      ≡ cond (a || b) (Some l.exclusive) None
  two-modes true b = refl
  two-modes false b = refl

  away : (n w : Bool) → cond (not n && w) (Some l.exclusive) None
      ≡ cond {A = Mode} n None (cond w (Some l.exclusive) None)
  away true w = refl
  away false w = refl

  cut-mode : mode_at (cut r l) o x ≡ cond (is_in r o x) None (mode_at (l ∷ []) o x)
  cut-mode =
      elim (is_touched r l) as (λ t. is_touched r l ≡ t → mode_at (cond t (before r l ++ behind r l) (l ∷ [])) o x
      ≡ cond (is_in r o x) None (mode_at (l ∷ []) o x)) [
        | true ↦ λ touched.
            mode-append (before r l) (behind r l) o x
            ∙ ap (λ m. option_or m (mode_at (behind r l) o x))
            (part-mode (nat_lt l.first r.first) (between l l.first (r.first - 1)) o x)
            ∙ ap (option_or (cond (nat_lt l.first r.first && holds o x (between l l.first (r.first - 1)))
            (Some l.exclusive) None)) (part-mode (nat_lt r.last l.last) (between l (r.last + 1) l.last) o x)
            ∙ two-modes (nat_lt l.first r.first && holds o x (between l l.first (r.first - 1)))
            (nat_lt r.last l.last && holds o x (between l (r.last + 1) l.last))
            ∙ ap (λ b. cond b (Some l.exclusive) None) (left-is touched)
            ∙ away (is_in r o x) (holds o x l)
            ∙ ap (cond (is_in r o x) None) (sym one-mode)
        | false ↦ λ apart. elim (is_in r o x) as (λ n. is_in r o x ≡ n →
            mode_at (l ∷ []) o x ≡ cond n None (mode_at (l ∷ []) o x)) [
              | true ↦ λ is. one-mode ∙ ap (λ b. cond b (Some l.exclusive) None) (not-had apart is)
              | false ↦ λ out. refl
            ] refl
      ] refl
    where
      not-had : is_touched r l ≡ false → is_in r o x ≡ true → holds o x l ≡ false
      not-had apart is =
          elim (holds o x l) as (λ b. holds o x l ≡ b → b ≡ false) [
            | false ↦ λ e. refl
            | true ↦ λ e.
                let a = inside r o x is in
                let b = inside l.range o x e in
                let v = offset-within r.first r.last x a.within in
                let w = offset-within l.first l.last x b.within in
                let v1 = v.low in
                let v2 = v.high in
                let w1 = w.low in
                let w2 = w.high in
                let owner : same_owner r.owner l.owner ≡ true =
                subst (λ p. same_owner r.owner p ≡ true) (a.owner_is ∙ sym b.owner_is) (owner-itself r.owner) in
                let touched : is_touched r l ≡ true = both _ _ owner
                (both _ _ (le-leb l.first r.last (omega (arith, w1, v2)))
                (le-leb r.first l.last (omega (arith, v1, w2)))) in
                sym touched ∙ apart
          ] refl

  -- no offset is had more often
  abbrev in_before : Bool
  in_before = nat_lt l.first r.first && holds o x (between l l.first (r.first - 1))

  abbrev in_behind : Bool
  in_behind = nat_lt r.last l.last && holds o x (between l (r.last + 1) l.last)

  parts-count : count_by (holds o x) (before r l ++ behind r l)
      ≡ cond {A = ℕ} in_before 1 0 + cond {A = ℕ} in_behind 1 0
  parts-count =
      sum_by-append (λ (p : Lock). cond {A = ℕ} (holds o x p) 1 0) (before r l) (behind r l)
      ∙ ap (λ (n : ℕ). n + count_by (holds o x) (behind r l))
      (part-count (nat_lt l.first r.first) (between l l.first (r.first - 1)) o x)
      ∙ ap (λ (n : ℕ). cond {A = ℕ} in_before 1 0 + n)
      (part-count (nat_lt r.last l.last) (between l (r.last + 1) l.last) o x)

  not-in-both : r.first ≤ r.last → in_before ≡ true → in_behind ≡ true → ⊥
  not-in-both rises a b =
      let p = and_parts (nat_lt l.first r.first) (holds o x (between l l.first (r.first - 1))) a in
      let q = and_parts (nat_lt r.last l.last) (holds o x (between l (r.last + 1) l.last)) b in
      let v = and_parts (same_owner l.owner o) (is_within l.first (r.first - 1) x) p.1 in
      let w = and_parts (same_owner l.owner o) (is_within (r.last + 1) l.last x) q.1 in
      cut-once l.first l.last r.first r.last x rises
      (both (nat_lt l.first r.first) (is_within l.first (r.first - 1) x) p.0 v.1)
      (both (nat_lt r.last l.last) (is_within (r.last + 1) l.last x) q.0 w.1)

  had-before : is_touched r l ≡ true → in_before ≡ true → holds o x l ≡ true
  had-before touched h =
      (and_parts (not (is_in r o x)) (holds o x l)
      (sym (left-is touched) ∙ or-left in_before in_behind h)).1

  had-behind : is_touched r l ≡ true → in_behind ≡ true → holds o x l ≡ true
  had-behind touched h =
      (and_parts (not (is_in r o x)) (holds o x l)
      (sym (left-is touched) ∙ or-right in_before in_behind h)).1

  cut-count : r.first ≤ r.last → count_by (holds o x) (cut r l) ≤ count_by (holds o x) (l ∷ [])
  cut-count rises =
      elim (is_touched r l) as (λ t. is_touched r l ≡ t →
      count_by (holds o x) (cond t (before r l ++ behind r l) (l ∷ [])) ≤ count_by (holds o x) (l ∷ [])) [
        | false ↦ λ apart. itself-le (count_by (holds o x) (l ∷ []))
        | true ↦ λ touched.
            subst (λ (n : ℕ). n ≤ count_by (holds o x) (l ∷ [])) (sym parts-count)
            (subst (λ (n : ℕ). cond {A = ℕ} in_before 1 0 + cond {A = ℕ} in_behind 1 0 ≤ n)
            (sym (part-count true l o x))
            (counted-apart in_before in_behind (holds o x l) (not-in-both rises) (had-before touched)
            (had-behind touched)))
      ] refl
    where
      itself-le : (n : ℕ) → n ≤ n
      itself-le n = omega arith

-- what is left of a range is one
cut-range : (r : Range) (l : Lock) → IsRange l.range → AllByRecursion (λ (p : Lock). IsRange p.range) (cut r l)
cut-range r l is =
    elim (is_touched r l) as (λ t. is_touched r l ≡ t →
    AllByRecursion (λ (p : Lock). IsRange p.range) (cond t (before r l ++ behind r l) (l ∷ []))) [
      | false ↦ λ apart. (is, tt)
      | true ↦ λ touched. all-joined (λ (p : Lock). IsRange p.range) (before r l) (behind r l)
          (elim (nat_lt l.first r.first) as (λ b. nat_lt l.first r.first ≡ b →
          AllByRecursion (λ (p : Lock). IsRange p.range) (cond b (between l l.first (r.first - 1) ∷ []) [])) [
            | false ↦ λ e. tt
            | true ↦ λ e.
                let some : l.first < r.first = ltb-true l.first r.first e in
                let most : r.first ≤ l.last = high r l l.owner 0 touched in
                let fits = is.fits in
                (record { rises = omega (arith, some); fits = omega (arith, some, most, fits) }, tt)
          ] refl)
          (elim (nat_lt r.last l.last) as (λ b. nat_lt r.last l.last ≡ b →
          AllByRecursion (λ (p : Lock). IsRange p.range) (cond b (between l (r.last + 1) l.last ∷ []) [])) [
            | false ↦ λ e. tt
            | true ↦ λ e.
                let some : r.last < l.last = ltb-true r.last l.last e in
                let fits = is.fits in
                (record { rises = omega (arith, some); fits = fits }, tt)
          ] refl)
    ] refl

-- ---- a range is given back
module _ (r : Range) where
  cut-modes : (locks : List Lock) (o : Owner) (x : ℕ) →
      mode_at (flat_map (cut r) locks) o x ≡ cond (is_in r o x) None (mode_at locks o x)
  cut-modes [] o x = elim (is_in r o x) as (λ b. None ≡ cond {A = Mode} b None None) [ true ↦ refl | false ↦ refl ]
  cut-modes (l ∷ locks) o x =
      mode-append (cut r l) (flat_map (cut r) locks) o x
      ∙ (λ i. option_or (cut-mode r l o x i) (cut-modes locks o x i))
      ∙ spread-out (is_in r o x)
      ∙ ap (cond (is_in r o x) None) (sym (mode-append (l ∷ []) locks o x))
    where
      spread-out : (b : Bool) → option_or (cond b None (mode_at (l ∷ []) o x)) (cond b None (mode_at locks o x))
          ≡ cond b None (option_or (mode_at (l ∷ []) o x) (mode_at locks o x))
      spread-out true = refl
      spread-out false = refl

  cut-counts : r.first ≤ r.last → (locks : List Lock) (o : Owner) (x : ℕ) →
      count_by (holds o x) (flat_map (cut r) locks) ≤ count_by (holds o x) locks
  cut-counts rises [] o x = omega arith
  cut-counts rises (l ∷ locks) o x =
      let count : Lock → ℕ = λ (p : Lock). cond {A = ℕ} (holds o x p) 1 0 in
      let left : count_by (holds o x) (cut r l ++ flat_map (cut r) locks)
      ≡ count_by (holds o x) (cut r l) + count_by (holds o x) (flat_map (cut r) locks) =
      sum_by-append count (cut r l) (flat_map (cut r) locks) in
      let right : count_by (holds o x) ((l ∷ []) ++ locks) ≡ count_by (holds o x) (l ∷ [])
      + count_by (holds o x) locks = sum_by-append count (l ∷ []) locks in
      let here = cut-count r l o x rises in
      let there = cut-counts rises locks o x in
      omega (arith, left, right, here, there)

  cut-ranges : (locks : List Lock) → AllByRecursion (λ (p : Lock). IsRange p.range) locks →
      AllByRecursion (λ (p : Lock). IsRange p.range) (flat_map (cut r) locks)
  cut-ranges [] all = tt
  cut-ranges (l ∷ locks) all =
      all-joined (λ (p : Lock). IsRange p.range) (cut r l) (flat_map (cut r) locks) (cut-range r l all.0)
      (cut-ranges locks all.1)

  pub cut-kept : (exclusive : Bool) (locks : List Lock) → AreAll exclusive locks →
      AreAll exclusive (flat_map (cut r) locks)
  cut-kept exclusive [] all = tt
  cut-kept exclusive (l ∷ locks) all =
      all-joined (λ (p : Lock). p.exclusive ≡ exclusive) (cut r l) (flat_map (cut r) locks) of-one
      (cut-kept exclusive locks all.1)
    where
      listed : (c : Bool) (p : Lock) → p.exclusive ≡ exclusive →
          AreAll exclusive (cond c (p ∷ []) [])
      listed true p is = (is, tt)
      listed false p is = tt

      of-one : AreAll exclusive (cut r l)
      of-one = elim (is_touched r l) as (λ t. AreAll exclusive (cond t (before r l ++ behind r l) (l ∷ []))) [
        | true ↦ all-joined (λ (p : Lock). p.exclusive ≡ exclusive) (before r l) (behind r l)
            (listed (nat_lt l.first r.first) (between l l.first (r.first - 1)) all.0)
            (listed (nat_lt r.last l.last) (between l (r.last + 1) l.last) all.0)
        | false ↦ (all.0, tt)
      ]

  pub cut-has : r.first ≤ r.last → (locks : List Lock) → AreListed locks →
      HasModes (flat_map (cut r) locks) (modes_with locks r None)
  cut-has rises locks listed = record {
    modes_are = cut-modes locks;
    listed = record {
      ranges = cut-ranges locks listed.ranges;
      once = λ o x.
          let fewer = cut-counts rises locks o x in
          let most = listed.once o x in
          omega (arith, fewer, most);
    };
  }

-- ---- one more lock
no-mode : (a b : Mode) → option_or a b ≡ None → a ≡ None
no-mode None b e = refl
no-mode (Some m) b e = cc

pub none-counted : (locks : List Lock) (o : Owner) (x : ℕ) → mode_at locks o x ≡ None →
    count_by (holds o x) locks ≡ 0
none-counted [] o x none = refl
none-counted (l ∷ locks) o x none =
    let count : Lock → ℕ = λ (p : Lock). cond {A = ℕ} (holds o x p) 1 0 in
    let all : count_by (holds o x) ((l ∷ []) ++ locks) ≡ count_by (holds o x) (l ∷ [])
    + count_by (holds o x) locks = sum_by-append count (l ∷ []) locks in
    elim (holds o x l) as (λ b. holds o x l ≡ b →
    mode_by (cond b (Some l) (find (holds o x) locks)) ≡ None → count_by (holds o x) (l ∷ locks) ≡ 0) [
      | true ↦ λ is e. cc
      | false ↦ λ out e.
          let one : count_by (holds o x) (l ∷ []) ≡ 0 =
          part-count true l o x ∙ ap (λ b. cond {A = ℕ} b 1 0) out in
          let rest = none-counted locks o x e in
          omega (arith, all, one, rest)
    ] refl none

module _ (old new : List Lock) (lock : Lock) (inserts : Inserts old lock new) where
  insert-modes : (o : Owner) (x : ℕ) → (holds o x lock ≡ true → mode_at old o x ≡ None) →
      mode_at new o x ≡ cond (holds o x lock) (Some lock.exclusive) (mode_at old o x)
  insert-modes o x free =
      ap (λ ls. mode_at ls o x) inserts.new_is
      ∙ mode-append inserts.earlier (lock ∷ inserts.later) o x
      ∙ ap (option_or (mode_at inserts.earlier o x)) (mode-append (lock ∷ []) inserts.later o x)
      ∙ ap (λ m. option_or (mode_at inserts.earlier o x) (option_or m (mode_at inserts.later o x)))
      (part-mode true lock o x)
      ∙ elim (holds o x lock) as (λ b. holds o x lock ≡ b → option_or (mode_at inserts.earlier o x)
      (option_or (cond b (Some lock.exclusive) None) (mode_at inserts.later o x))
      ≡ cond b (Some lock.exclusive) (mode_at old o x)) [
        | true ↦ λ is. ap (λ m. option_or m (Some lock.exclusive))
            (no-mode (mode_at inserts.earlier o x) (mode_at inserts.later o x) (sym old-mode ∙ free is))
        | false ↦ λ out. sym old-mode
      ] refl
    where
      old-mode : mode_at old o x ≡ option_or (mode_at inserts.earlier o x) (mode_at inserts.later o x)
      old-mode = ap (λ ls. mode_at ls o x) inserts.old_is ∙ mode-append inserts.earlier inserts.later o x

  insert-count : (o : Owner) (x : ℕ) →
      count_by (holds o x) new ≡ count_by (holds o x) old + cond (holds o x lock) 1 0
  insert-count o x =
      let count : Lock → ℕ = λ (p : Lock). cond {A = ℕ} (holds o x p) 1 0 in
      let was : count_by (holds o x) old ≡ count_by (holds o x) inserts.earlier
      + count_by (holds o x) inserts.later =
      ap (count_by (holds o x)) inserts.old_is ∙ sum_by-append count inserts.earlier inserts.later in
      let is : count_by (holds o x) new ≡ count_by (holds o x) inserts.earlier
      + count_by (holds o x) (lock ∷ inserts.later) =
      ap (count_by (holds o x)) inserts.new_is ∙ sum_by-append count inserts.earlier (lock ∷ inserts.later) in
      let rest : count_by (holds o x) ((lock ∷ []) ++ inserts.later) ≡ count_by (holds o x) (lock ∷ [])
      + count_by (holds o x) inserts.later = sum_by-append count (lock ∷ []) inserts.later in
      let one : count_by (holds o x) (lock ∷ []) ≡ cond {A = ℕ} (holds o x lock) 1 0 = part-count true lock o x in
      omega (arith, was, is, rest, one)

  pub insert-all : (P : Lock → Type 0) → AllByRecursion P old → P lock → AllByRecursion P new
  insert-all P all one =
      subst (AllByRecursion P) (sym inserts.new_is)
      (all-more P inserts.earlier lock inserts.later (subst (AllByRecursion P) inserts.old_is all) one)
    where
      all-more : (P : Lock → Type 0) (a : List Lock) (l : Lock) (b : List Lock) → AllByRecursion P (a ++ b) → P l →
          AllByRecursion P (a ++ l ∷ b)
      all-more P [] l b all one = (one, all)
      all-more P (p ∷ a) l b all one = (all.0, all-more P a l b all.1 one)

  pub insert-has : AreListed old → IsRange lock.range →
      ((x : ℕ) → is_within lock.first lock.last x ≡ true → mode_at old lock.owner x ≡ None) →
      HasModes new (modes_with old lock.range (Some lock.exclusive))
  insert-has listed range free = record {
    modes_are = λ o x. insert-modes o x (none o x);
    listed = record {
      ranges = insert-all (λ (p : Lock). IsRange p.range) listed.ranges range;
      once = λ o x.
          let count = insert-count o x in
          elim (holds o x lock) as (λ b. holds o x lock ≡ b → count_by (holds o x) new ≤ 1) [
            | true ↦ λ is.
                let zero = none-counted old o x (none o x is) in
                let one : cond {A = ℕ} (holds o x lock) 1 0 ≡ 1 = ap (λ b. cond {A = ℕ} b 1 0) is in
                omega (arith, count, zero, one)
            | false ↦ λ out.
                let most = listed.once o x in
                let one : cond {A = ℕ} (holds o x lock) 1 0 ≡ 0 = ap (λ b. cond {A = ℕ} b 1 0) out in
                omega (arith, count, most, one)
          ] refl;
    };
  }
    where
      none : (o : Owner) (x : ℕ) → holds o x lock ≡ true → mode_at old o x ≡ None
      none o x is =
          let i = inside lock.range o x is in
          subst (λ p. mode_at old p x ≡ None) i.owner_is (free x i.within)

-- ---- a caller has nothing more
module _ (name : List ℕ) where
  abbrev pub stays : Lock → Bool
  stays l = not (same_bytes l.owner.caller_name name)

  left-modes : (locks : List Lock) (o : Owner) (x : ℕ) →
      mode_at (filter stays locks) o x ≡ cond (same_bytes o.caller_name name) None (mode_at locks o x)
  left-modes [] o x =
      elim (same_bytes o.caller_name name) as (λ b. None ≡ cond {A = Mode} b None None) [ true ↦ refl | false ↦ refl ]
  left-modes (l ∷ locks) o x =
      elim (holds o x l) as (λ h. holds o x l ≡ h → mode_at (filter stays (l ∷ locks)) o x
      ≡ cond (same_bytes o.caller_name name) None (mode_by (cond h (Some l) (find (holds o x) locks)))) [
        | true ↦ λ is.
            let owner : l.owner ≡ o = (inside l.range o x is).owner_is in
            let same : same_bytes l.owner.caller_name name ≡ same_bytes o.caller_name name =
            ap (λ (p : Owner). same_bytes p.caller_name name) owner in
            ap (λ b. mode_at (cond (not b) (l ∷ filter stays locks) (filter stays locks)) o x) same
            ∙ elim (same_bytes o.caller_name name) as (λ b. same_bytes o.caller_name name ≡ b →
            mode_at (cond (not b) (l ∷ filter stays locks) (filter stays locks)) o x
            ≡ cond b None (Some l.exclusive)) [
              | true ↦ λ e. left-modes locks o x ∙ ap (λ b. cond b None (mode_at locks o x)) e
              | false ↦ λ e. ap (λ b. mode_by (cond b (Some l) (find (holds o x) (filter stays locks)))) is
            ] refl
        | false ↦ λ out. elim (stays l) as (λ b. mode_at (cond b (l ∷ filter stays locks) (filter stays locks)) o x
            ≡ cond (same_bytes o.caller_name name) None (mode_at locks o x)) [
              | true ↦ ap (λ b. mode_by (cond b (Some l) (find (holds o x) (filter stays locks)))) out
                  ∙ left-modes locks o x
              | false ↦ left-modes locks o x
            ]
      ] refl

  pub left-has : (locks : List Lock) → AreListed locks →
      HasModes (filter stays locks) (modes_without locks name)
  left-has locks listed = record {
    modes_are = left-modes locks;
    listed = record {
      ranges = all-left (λ (p : Lock). IsRange p.range) (λ (p : Lock). IsRange p.range) stays locks (λ p e h. h)
          listed.ranges;
      once = λ o x.
          let fewer : count_by (holds o x) (filter stays locks) ≤ count_by (holds o x) locks =
          count-left (holds o x) stays locks in
          let most = listed.once o x in
          omega (arith, fewer, most);
    };
  }

  pub left-kept : (exclusive : Bool) (locks : List Lock) → AreAll exclusive locks →
      AreAll exclusive (filter stays locks)
  left-kept exclusive locks all =
      all-left (λ (p : Lock). p.exclusive ≡ exclusive) (λ (p : Lock). p.exclusive ≡ exclusive) stays locks
      (λ p e h. h) all
