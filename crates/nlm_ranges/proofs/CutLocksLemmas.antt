-- Two lists of locks, one behind the other, of which a range is given back; and what a lock has behind the range,
-- listed anew.
use Rattle.std.proofs.Common.{◌≡◌, ℕ, ◌+◌, ◌<◌, ◌≤◌, Bool, true, false, ◌&&◌, cond, List, [], ◌∷◌, ◌++◌, Some, None}
use Rattle.std.proofs.Common.{find, nat_le, refl, sym, ◌∙◌, ap, subst, arith}
use Rattle.std.proofs.lemmas.Bool.{and_parts, leb-false, leb-true}
use Rattle.std.proofs.lemmas.List.Elements.{All-contains, All-from_recursion}
use Rattle.std.proofs.lemmas.List.Sums.{sum_by-append}
use Rattle.std.specs.List.{AllByRecursion, Contains, count_by, flat_map}
use Rattle.std.specs.Option.{option_or}
use Rattle.nfs_machine.specs.Locks.{AreListed, HasModes, IsRange, Mode, is_in, is_within, mode_at, modes_with}
use Rattle.nfs_machine.specs.Locks.{same_owner}
use Rattle.nfs_machine.specs.State.{Lock, Owner, Range}
use Rattle.nfs_machine.proofs.ModesLemmas.{all-joined, holds, mode_by, one-owner, owner-itself}
use Rattle.nlm_ranges.specs.Cutting.{Inserts, cut}
use Rattle.nlm_ranges.specs.Held.{GoesOn, IsGivenBack}
use Rattle.nlm_ranges.proofs.ListedLockLemmas.{all-listed, listed-mode}
use Rattle.nlm_ranges.proofs.ModesAtLemmas.{Within, both, cut-has, cut-kept, insert-all, insert-has, mode-append}
use Rattle.nlm_ranges.proofs.ModesAtLemmas.{none-counted, offset-within, part-count, tested, within, without}

-- ---- both lists are listed by themselves
all-parts : (P : Lock → Type 0) (a b : List Lock) → AllByRecursion P (a ++ b) → AllByRecursion P a × AllByRecursion P b
all-parts P [] b all = (tt, all)
all-parts P (l ∷ a) b all = let rest = all-parts P a b all.1 in ((all.0, rest.0), rest.1)

counts : (a b : List Lock) (o : Owner) (x : ℕ) →
    count_by (holds o x) (a ++ b) ≡ count_by (holds o x) a + count_by (holds o x) b
counts a b o x = sum_by-append (λ (p : Lock). cond {A = ℕ} (holds o x p) 1 0) a b

pub listed-first : (a b : List Lock) → AreListed (a ++ b) → AreListed a
listed-first a b listed = record {
  ranges = (all-parts (λ (l : Lock). IsRange l.range) a b listed.ranges).0;
  once = λ o x. (let sum = counts a b o x in let most = listed.once o x in omega (arith, sum, most));
}

pub listed-last : (a b : List Lock) → AreListed (a ++ b) → AreListed b
listed-last a b listed = record {
  ranges = (all-parts (λ (l : Lock). IsRange l.range) a b listed.ranges).1;
  once = λ o x. (let sum = counts a b o x in let most = listed.once o x in omega (arith, sum, most));
}

-- where something is had, it is counted
had-counted : (locks : List Lock) (o : Owner) (x : ℕ) (m : Bool) → mode_at locks o x ≡ Some m →
    0 < count_by (holds o x) locks
had-counted [] o x m had = cc
had-counted (l ∷ locks) o x m had =
    let all : count_by (holds o x) ((l ∷ []) ++ locks) ≡ count_by (holds o x) (l ∷ []) + count_by (holds o x) locks =
    counts (l ∷ []) locks o x in
    elim (holds o x l) as (λ b. holds o x l ≡ b →
    mode_by (cond b (Some l) (find (holds o x) locks)) ≡ Some m → 0 < count_by (holds o x) (l ∷ locks)) [
      | true ↦ λ is e.
          let one : count_by (holds o x) (l ∷ []) ≡ 1 =
          part-count true l o x ∙ ap (λ b. cond {A = ℕ} b 1 0) is in
          omega (arith, all, one)
      | false ↦ λ out e.
          let rest = had-counted locks o x m e in
          omega (arith, all, rest)
    ] refl had

some-left : (b : Bool) (m : Mode) (k : Bool) → cond b None m ≡ Some k → m ≡ Some k
some-left true m k e = cc
some-left false m k e = e

-- a range is given back of both
module _ (e s exs shs : List Lock) (r : Range) (listed : AreListed (e ++ s)) (of_e : HasModes exs (modes_with e r None))
    (of_s : HasModes shs (modes_with s r None)) where
  once-still : (o : Owner) (x : ℕ) → count_by (holds o x) (exs ++ shs) ≤ 1
  once-still o x =
      let sum = counts exs shs o x in
      let one = of_e.listed.once o x in
      let two = of_s.listed.once o x in
      elim (mode_at exs o x) as (λ m. mode_at exs o x ≡ m → count_by (holds o x) (exs ++ shs) ≤ 1) [
        | None ↦ λ none. (let zero = none-counted exs o x none in omega (arith, sum, zero, two))
        | Some m ↦ λ had. elim (mode_at shs o x) as
            (λ n. mode_at shs o x ≡ n → count_by (holds o x) (exs ++ shs) ≤ 1) [
              | None ↦ λ none. (let zero = none-counted shs o x none in omega (arith, sum, zero, one))
              | Some n ↦ λ too.
                  let a = had-counted e o x m
                  (some-left (is_in r o x) (mode_at e o x) m (sym (of_e.modes_are o x) ∙ had)) in
                  let b = had-counted s o x n
                  (some-left (is_in r o x) (mode_at s o x) n (sym (of_s.modes_are o x) ∙ too)) in
                  let all = counts e s o x in
                  let most = listed.once o x in
                  absurd (omega (arith, a, b, all, most))
            ] refl
      ] refl

  pub given-both : HasModes (exs ++ shs) (modes_with (e ++ s) r None)
  given-both = record {
    modes_are = λ o x.
        mode-append exs shs o x
        ∙ (λ i. option_or (of_e.modes_are o x i) (of_s.modes_are o x i))
        ∙ spread (is_in r o x) (mode_at e o x) (mode_at s o x)
        ∙ ap (cond (is_in r o x) None) (sym (mode-append e s o x));
    listed = record {
      ranges = all-joined (λ (l : Lock). IsRange l.range) exs shs of_e.listed.ranges of_s.listed.ranges;
      once = once-still;
    };
  }
    where
      spread : (b : Bool) (m n : Mode) → option_or (cond b None m) (cond b None n) ≡ cond b None (option_or m n)
      spread true m n = refl
      spread false m n = refl

-- ---- a range is given back with all that a lock has behind it, and that is listed anew
module _ (old : List Lock) (listed : AreListed old) (r : Range) (rises : r.first ≤ r.last) (lock : Lock)
    (there : Contains old lock) (follows : is_in lock.range r.owner (r.last + 1) ≡ true) where
  abbrev wide : Range
  wide = record { owner = r.owner; first = r.first; last = lock.last }

  abbrev behind_range : Range
  behind_range = record { owner = r.owner; first = r.last + 1; last = lock.last }

  follows-parts : (same_owner lock.owner r.owner ≡ true) × (is_within lock.first lock.last (r.last + 1) ≡ true)
  follows-parts = and_parts (same_owner lock.owner r.owner) (is_within lock.first lock.last (r.last + 1)) follows

  follows-within : Within lock.first lock.last (r.last + 1)
  follows-within = offset-within lock.first lock.last (r.last + 1) follows-parts.1

  lock-fits : IsRange lock.range
  lock-fits = All-contains (λ (l : Lock). IsRange l.range) old lock
      (All-from_recursion (λ (l : Lock). IsRange l.range) old listed.ranges) there

  behind-had : (x : ℕ) → is_within (r.last + 1) lock.last x ≡ true → mode_at old r.owner x ≡ Some lock.exclusive
  behind-had x inside =
      let w = offset-within (r.last + 1) lock.last x inside in
      let w1 = w.low in
      let w2 = w.high in
      let f1 = follows-within.low in
      listed-mode old lock listed there r.owner x
      (both _ _ follows-parts.0 (within lock.first lock.last x (omega (arith, f1, w1)) w2))

  -- the offsets of the wide range are those of the range, and those behind it
  beside : (x : ℕ) → is_within (r.last + 1) lock.last x ≡ false →
      is_within r.first lock.last x ≡ is_within r.first r.last x
  beside x out =
      let f2 = follows-within.high in
      tested (is_within r.first lock.last x) (is_within r.first r.last x)
      (λ e.
      let w = offset-within r.first lock.last x e in
      let w1 = w.low in
      let w2 = w.high in
      elim (nat_le x r.last) as (λ b. nat_le x r.last ≡ b → is_within r.first r.last x ≡ true) [
        | true ↦ λ under. within r.first r.last x w1 (leb-true x r.last under)
        | false ↦ λ over.
            let more : r.last < x = leb-false x r.last over in
            let no : true ≡ false = sym (within (r.last + 1) lock.last x (omega (arith, more)) w2) ∙ out in cc
      ] refl)
      (λ e.
      let w = offset-within r.first r.last x e in
      let w1 = w.low in
      let w2 = w.high in
      within r.first lock.last x w1 (omega (arith, w2, f2)))

  -- an offset behind the range is not one of it
  not-inside : (x : ℕ) → is_within (r.last + 1) lock.last x ≡ true → is_within r.first r.last x ≡ false
  not-inside x is =
      let w = offset-within (r.last + 1) lock.last x is in
      let w1 = w.low in
      without r.first r.last x (λ low high. omega (arith, w1, high))

  rest-modes : (o : Owner) (x : ℕ) →
      cond (is_in behind_range o x) (Some lock.exclusive) (cond (is_in wide o x) None (mode_at old o x))
      ≡ cond (is_in r o x) None (mode_at old o x)
  rest-modes o x =
      elim (same_owner r.owner o) as (λ s. same_owner r.owner o ≡ s →
      cond (s && is_within (r.last + 1) lock.last x) (Some lock.exclusive)
      (cond (s && is_within r.first lock.last x) None (mode_at old o x))
      ≡ cond (s && is_within r.first r.last x) None (mode_at old o x)) [
        | false ↦ λ other. refl
        | true ↦ λ same. of-offset (one-owner r.owner o same) (is_within (r.last + 1) lock.last x) refl
      ] refl
    where
      of-offset : r.owner ≡ o → (b : Bool) → is_within (r.last + 1) lock.last x ≡ b →
          cond b (Some lock.exclusive) (cond (is_within r.first lock.last x) None (mode_at old o x))
          ≡ cond (is_within r.first r.last x) None (mode_at old o x)
      of-offset owner true is =
          sym (ap (λ p. mode_at old p x) (sym owner) ∙ behind-had x is)
          ∙ ap (λ b. cond b None (mode_at old o x)) (sym (not-inside x is))
      of-offset owner false out = ap (λ b. cond b None (mode_at old o x)) (beside x out)

  module _ (new : List Lock) (inserts : Inserts (flat_map (cut wide) old)
      (record { range = behind_range; exclusive = lock.exclusive }) new) where
    pub rest-has : HasModes new (modes_with old r None)
    rest-has =
        let f2 = follows-within.high in
        let fits = lock-fits.fits in
        let given = cut-has wide (omega (arith, rises, f2)) old listed in
        let has = insert-has (flat_map (cut wide) old) new (record { range = behind_range; exclusive = lock.exclusive })
        inserts given.listed (record { rises = f2; fits = fits }) (none given) in
        record {
          modes_are = λ o x.
              has.modes_are o x
              ∙ ap (cond (is_in behind_range o x) (Some lock.exclusive)) (given.modes_are o x)
              ∙ rest-modes o x;
          listed = has.listed;
        }
      where
        none : HasModes (flat_map (cut wide) old) (modes_with old wide None) → (x : ℕ) →
            is_within (r.last + 1) lock.last x ≡ true → mode_at (flat_map (cut wide) old) r.owner x ≡ None
        none given x is =
            let w = offset-within (r.last + 1) lock.last x is in
            let w1 = w.low in
            let w2 = w.high in
            given.modes_are r.owner x
            ∙ ap (λ b. cond b None (mode_at old r.owner x))
            (both _ _ (owner-itself r.owner) (within r.first lock.last x (omega (arith, rises, w1)) w2))

-- what is left is what it has to be
pub given-cut : (old : List Lock) (r : Range) → r.first ≤ r.last → IsGivenBack old r (flat_map (cut r) old)
given-cut old r rises = record { modes = cut-has r rises old; kept = λ e. cut-kept r e old }

pub given-anew : (old : List Lock) (r : Range) → r.first ≤ r.last → (lock : Lock) → GoesOn old r lock →
    (new : List Lock) → Inserts (flat_map (cut (record r { last = lock.last })) old)
    (record { range = record r { first = r.last + 1; last = lock.last }; exclusive = lock.exclusive }) new →
    IsGivenBack old r new
given-anew old r rises lock on new inserts = record {
  modes = λ listed. rest-has old listed r rises lock on.listed on.has new inserts;
  kept = λ e all. insert-all (flat_map (cut (record r { last = lock.last })) old) new
      (record { range = record r { first = r.last + 1; last = lock.last }; exclusive = lock.exclusive }) inserts
      (λ (l : Lock). l.exclusive ≡ e) (cut-kept (record r { last = lock.last }) e old all)
      (all-listed e old lock all on.listed);
}

-- by the numbers and lists that the code has
pub given-anew-as : (old : List Lock) (r : Range) → r.first ≤ r.last → (lock : Lock) → GoesOn old r lock →
    (span more : Range) (exclusive : Bool) (rest new : List Lock) → span ≡ record r { last = lock.last } →
    more ≡ record r { first = r.last + 1; last = lock.last } → exclusive ≡ lock.exclusive →
    rest ≡ flat_map (cut span) old → Inserts rest (record { range = more; exclusive = exclusive }) new →
    IsGivenBack old r new
given-anew-as old r rises lock on span more exclusive rest new span_is more_is mode_is rest_is inserts =
    let anew : Lock =
    record { range = record r { first = r.last + 1; last = lock.last }; exclusive = lock.exclusive } in
    let one : record { range = more; exclusive = exclusive } ≡ anew =
    (λ i. record { range = more_is i; exclusive = mode_is i }) in
    given-anew old r rises lock on new
    (subst (λ ls. Inserts ls anew new) (rest_is ∙ ap (λ w. flat_map (cut w) old) span_is)
    (subst (λ l. Inserts rest l new) one inserts))
