-- Lists and their pieces, one element or one piece at a time.
use Rattle.std.proofs.Common.{◌≡◌, ℕ, ◌+◌, ◌<◌, ◌≤◌, Bool, true, false, not, ◌&&◌, ◌||◌, cond}
use Rattle.std.proofs.Common.{List, [], ◌∷◌, ◌++◌, None, Some, drop, filter, find, nat_le, length, take, get_or}
use Rattle.std.proofs.Common.{refl, sym, ◌∙◌, ap, subst, arith, append_assoc, ◌==◌, length-append}
use Rattle.std.proofs.lemmas.Bool.{and_parts, le-leb, leb-true, or_parts}
use Rattle.std.proofs.lemmas.List.{append-nil, nil_from_length, take-append-drop, take_more}
use Rattle.std.proofs.lemmas.List.Concat.{flat_map-append}
use Rattle.std.proofs.lemmas.List.Elements.{Contains-append_left, Contains-append_right, filter-append}
use Rattle.std.proofs.lemmas.List.Folds.{find-append, list_any-append}
use Rattle.std.specs.List.{AllByRecursion, Contains, flat_map, list_any}
use Rattle.std.specs.Option.{option_or}
use Rattle.nfs_machine.specs.LockLaws.{stands_in_way}
use Rattle.nfs_machine.specs.Locks.{same_owner}
use Rattle.nfs_machine.specs.State.{Lock, Range}
use Rattle.nfs_machine.proofs.ModesLemmas.{all-joined, all-mapped}
use Rattle.nlm_ranges.proofs.CallRangeLemmas.{not-zero}
use Rattle.nlm_ranges.proofs.ModesAtLemmas.{both}
use Rattle.nlm_ranges.specs.Cutting.{Inserts, before, behind, cut, is_touched, joined}
use Rattle.nlm_ranges.specs.Held.{IsBetween}

-- none is found where none passes
pub none-found : {X : Type 0} (p : X → Bool) (xs : List X) → list_any p xs ≡ false → find p xs ≡ None
none-found p [] e = refl
none-found p (x ∷ xs) e =
    elim (p x) as (λ b. (b || list_any p xs) ≡ false → cond b (Some x) (find p xs) ≡ None) [
      | true ↦ λ t. cc
      | false ↦ λ t. none-found p xs t
    ] e

-- ---- one more lock
module _ (locks : List Lock) (i : ℕ) (lock : Lock) (inside : i < length locks) (at : lock ≡ get_or locks i lock) where
  next : take (i + 1) locks ≡ take i locks ++ lock ∷ []
  next = take_more locks i lock inside ∙ ap (λ l. take i locks ++ l ∷ []) (sym at)

  pub ends-more : (old new : ℕ × ℕ) → new.0 ≤ old.0 → old.1 ≤ new.1 → IsBetween new.0 new.1 lock →
      AllByRecursion (IsBetween old.0 old.1) (take i locks) →
      AllByRecursion (IsBetween new.0 new.1) (take (i + 1) locks)
  ends-more old new low high own all =
      subst (AllByRecursion (IsBetween new.0 new.1)) (sym next)
      (all-joined (IsBetween new.0 new.1) (take i locks) (lock ∷ [])
      (all-mapped (IsBetween old.0 old.1) (IsBetween new.0 new.1) (take i locks) (λ l b.
      let under = b.low in
      let over = b.high in
      record { low = omega (arith, under, low); high = omega (arith, over, high) }) all)
      (own, tt))

-- ---- a test of the pieces
pub any-joined : {X : Type 0} (p : X → Bool) (pieces : List (List X)) →
    list_any (list_any p) pieces ≡ list_any p (joined pieces)
any-joined p [] = refl
any-joined p (piece ∷ pieces) =
    ap (λ b. list_any p piece || b) (any-joined p pieces) ∙ sym (list_any-append p piece (joined pieces))

-- ---- one more piece
module _ {X : Type 0} (pieces : List (List X)) (i : ℕ) (piece : List X) (inside : i < length pieces)
    (at : piece ≡ get_or pieces i piece) where
  pub next-joined : joined (take (i + 1) pieces) ≡ joined (take i pieces) ++ piece
  next-joined =
      ap joined (take_more pieces i piece inside ∙ ap (λ p. take i pieces ++ p ∷ []) (sym at))
      ∙ flat_map-append (λ p. p) (take i pieces) (piece ∷ [])
      ∙ ap (λ ls. joined (take i pieces) ++ ls) (append-nil piece)

  pub next-cut : (f : X → List X) →
      flat_map f (joined (take (i + 1) pieces)) ≡ flat_map f (joined (take i pieces)) ++ flat_map f piece
  next-cut f = ap (flat_map f) next-joined ∙ flat_map-append f (joined (take i pieces)) piece

  pub next-left : (p : X → Bool) →
      filter p (joined (take (i + 1) pieces)) ≡ filter p (joined (take i pieces)) ++ filter p piece
  next-left p = ap (filter p) next-joined ∙ filter-append p (joined (take i pieces)) piece

  -- where one has a lock, all have
  pub some-joined : 0 < length piece → (length (joined pieces) == 0) ≡ false
  some-joined some =
      let parts : joined (take (i + 1) pieces) ++ joined (drop (i + 1) pieces) ≡ joined pieces =
      sym (flat_map-append (λ p. p) (take (i + 1) pieces) (drop (i + 1) pieces))
      ∙ ap joined (take-append-drop (i + 1) pieces) in
      let whole = sym (ap length parts) ∙ length-append (joined (take (i + 1) pieces)) (joined (drop (i + 1) pieces)) in
      let front = ap length next-joined ∙ length-append (joined (take i pieces)) piece in
      let more : 0 < length (joined pieces) = omega (arith, whole, front, some) in
      not-zero (length (joined pieces)) (λ none. omega (arith, more, none))

  pub none-joined : length piece ≡ 0 → joined (take i pieces) ≡ [] → joined (take (i + 1) pieces) ≡ []
  none-joined none before =
      next-joined ∙ (λ k. before k ++ nil_from_length piece none k)

  whole : joined (take (i + 1) pieces) ++ joined (drop (i + 1) pieces) ≡ joined pieces
  whole =
      sym (flat_map-append (λ p. p) (take (i + 1) pieces) (drop (i + 1) pieces))
      ∙ ap joined (take-append-drop (i + 1) pieces)

  -- what is in one is in all
  pub in-piece : (x : X) → Contains piece x → Contains (joined pieces) x
  in-piece x there =
      subst (λ xs. Contains xs x) whole
      (Contains-append_left (joined (take (i + 1) pieces)) (joined (drop (i + 1) pieces)) x
      (subst (λ xs. Contains xs x) (sym next-joined)
      (Contains-append_right (joined (take i pieces)) piece x there)))

  -- what is found first in one is found first in all, where the ones before have nothing
  pub found-in : (p : X → Bool) → list_any p (joined (take i pieces)) ≡ false → (x : X) → find p piece ≡ Some x →
      find p (joined pieces) ≡ Some x
  found-in p before x here =
      ap (find p) (sym whole)
      ∙ find-append p (joined (take (i + 1) pieces)) (joined (drop (i + 1) pieces))
      ∙ ap (λ o. option_or o (find p (joined (drop (i + 1) pieces))))
      (ap (find p) next-joined ∙ find-append p (joined (take i pieces)) piece
      ∙ (λ k. option_or (none-found p (joined (take i pieces)) before k) (here k)))

-- ---- pieces that are passed over
-- a lock between two offsets has no offset of a range that has none between them
module _ (r : Range) (first last : ℕ) (apart : (nat_le first r.last && nat_le r.first last) ≡ false) where
  away : (l : Lock) → IsBetween first last l → (nat_le l.first r.last && nat_le r.first l.last) ≡ false
  away l b =
      elim (nat_le l.first r.last && nat_le r.first l.last) as
      (λ t. (nat_le l.first r.last && nat_le r.first l.last) ≡ t → t ≡ false) [
        | false ↦ λ e. refl
        | true ↦ λ e.
            let parts = and_parts (nat_le l.first r.last) (nat_le r.first l.last) e in
            let low = b.low in
            let high = b.high in
            let under : l.first ≤ r.last = leb-true l.first r.last parts.0 in
            let over : r.first ≤ l.last = leb-true r.first l.last parts.1 in
            let meets : (nat_le first r.last && nat_le r.first last) ≡ true =
            both (nat_le first r.last) (nat_le r.first last) (le-leb first r.last (omega (arith, low, under)))
            (le-leb r.first last (omega (arith, over, high))) in
            sym meets ∙ apart
      ] refl

  pub none-touched : (locks : List Lock) → AllByRecursion (IsBetween first last) locks →
      list_any (is_touched r) locks ≡ false
  none-touched [] all = refl
  none-touched (l ∷ locks) all =
      (λ i. (same_owner r.owner l.owner && away l all.0 i) || none-touched locks all.1 i)
      ∙ none (same_owner r.owner l.owner)
    where
      none : (b : Bool) → ((b && false) || false) ≡ false
      none true = refl
      none false = refl

  pub none-stands : (e : Bool) (locks : List Lock) → AllByRecursion (IsBetween first last) locks →
      list_any (stands_in_way r (Some e)) locks ≡ false
  none-stands e [] all = refl
  none-stands e (l ∷ locks) all =
      (λ i. stands i || none-stands e locks all.1 i)
    where
      split : (o a b c : Bool) → (a && b) ≡ false → (o && a && b && c) ≡ false
      split true true true c is = cc
      split true true false c is = refl
      split true false b c is = refl
      split false a b c is = refl

      stands : stands_in_way r (Some e) l ≡ false
      stands = split (not (same_owner r.owner l.owner)) (nat_le l.first r.last) (nat_le r.first l.last)
          (e || l.exclusive) (away l all.0)

-- ---- what none of a list has changes nothing
pub uncut : (r : Range) (locks : List Lock) → list_any (is_touched r) locks ≡ false → flat_map (cut r) locks ≡ locks
uncut r [] none = refl
uncut r (l ∷ locks) none =
    let parts = or_parts (is_touched r l) (list_any (is_touched r) locks) none in
    (λ i. cond (parts.0 i) (before r l ++ behind r l) (l ∷ []) ++ uncut r locks parts.1 i)

pub all_others : {X : Type 0} (p : X → Bool) (xs : List X) → list_any p xs ≡ false → filter (λ x. not (p x)) xs ≡ xs
all_others p [] none = refl
all_others p (x ∷ xs) none =
    let parts = or_parts (p x) (list_any p xs) none in
    ap (λ b. cond (not b) (x ∷ filter (λ x. not (p x)) xs) (filter (λ x. not (p x)) xs)) parts.0
    ∙ ap (λ ys. x ∷ ys) (all_others p xs parts.1)

-- ---- one more lock, in a piece
pub inserts-in : (earlier old later new : List Lock) (lock : Lock) → Inserts old lock new →
    Inserts (earlier ++ (old ++ later)) lock ((earlier ++ new) ++ later)
inserts-in earlier old later new lock i = record {
  earlier = earlier ++ i.earlier;
  later = i.later ++ later;
  old_is = ap (λ ls. earlier ++ (ls ++ later)) i.old_is
      ∙ ap (λ ls. earlier ++ ls) (append_assoc i.earlier i.later later)
      ∙ sym (append_assoc earlier i.earlier (i.later ++ later));
  new_is = ap (λ ls. (earlier ++ ls) ++ later) i.new_is
      ∙ append_assoc earlier (i.earlier ++ lock ∷ i.later) later
      ∙ ap (λ ls. earlier ++ ls) (append_assoc i.earlier (lock ∷ i.later) later)
      ∙ sym (append_assoc earlier i.earlier (lock ∷ (i.later ++ later)));
}

-- a piece of them gets one more lock
pub inserts-pieces : (pieces front behind none before mid new : List (List Lock)) (piece : List Lock) (lock : Lock)
    (locks : List Lock) → Inserts piece lock locks → pieces ≡ front ++ piece ∷ behind → none ≡ [] →
    joined before ≡ joined none ++ joined front → joined mid ≡ joined before ++ locks →
    joined new ≡ joined mid ++ joined behind → Inserts (joined pieces) lock (joined new)
inserts-pieces pieces front behind none before mid new piece lock locks inserts parts empty first second last =
    let i = inserts-in (joined front) piece (joined behind) locks lock inserts in
    let old : joined pieces ≡ joined front ++ (piece ++ joined behind) =
    ap joined parts ∙ flat_map-append (λ p. p) front (piece ∷ behind) in
    let made : joined new ≡ (joined front ++ locks) ++ joined behind =
    last ∙ ap (λ ls. ls ++ joined behind) (second ∙ ap (λ ls. ls ++ locks)
    (first ∙ ap (λ ps. joined ps ++ joined front) empty)) in
    record { earlier = i.earlier; later = i.later; old_is = old ∙ i.old_is; new_is = made ∙ i.new_is }

pub counted : {X : Type 0} (xs : List X) → (length xs == 0) ≡ false → 0 < length xs
counted [] some = (let no : true ≡ false = some in cc)
counted (x ∷ xs) some = omega arith
