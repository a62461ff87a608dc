-- Tables of locks: what stands in the way, and that changes leave what may be held.
use Rattle.std.proofs.Common.{◌≡◌, ◌==◌, ℕ, ◌+◌, ◌<◌, ◌≤◌, Bool, true, false, not, ◌&&◌, ◌||◌, cond}
use Rattle.std.proofs.Common.{List, [], ◌∷◌, ◌++◌, IfNone, Option, Some, None, filter, find, nat_le, length}
use Rattle.std.proofs.Common.{refl, sym, ◌∙◌, ap, subst, arith, append_assoc, length-append}
use Rattle.std.proofs.lemmas.Bool.{and_parts, le-leb, leb-false, leb-true, or_parts}
use Rattle.std.proofs.lemmas.List.Elements.{All-contains, All-from_recursion, filter-append}
use Rattle.std.proofs.lemmas.List.Folds.{list_any-append}
use Rattle.std.specs.Cmp.{unsigned_Decides}
use Rattle.std.specs.List.{Contains, list_any}
use Rattle.std.specs.Option.{option_or}
use Rattle.nfs_machine.specs.LockLaws.{stands_in_way}
use Rattle.nfs_machine.specs.Locks.{AreListed, Conflicts, HasModes, IsRange, Mode, is_in, is_within, mode_at}
use Rattle.nfs_machine.specs.Locks.{modes_conflict, modes_with, modes_without, same_owner}
use Rattle.nfs_machine.specs.LocksFormed.{NoLocksConflict}
use Rattle.nfs_machine.specs.State.{Lock, Owner, Range}
use Rattle.nfs_machine.proofs.ModesLemmas.{apart-with, apart-without, listed_locks_tell, one-owner}
use Rattle.nfs_machine.proofs.FirmLemmas.{none-listed}
use Rattle.nfs_machine.proofs.ModesLemmas.{holds, mode_by, owner-itself, unlocking-free}
use Rattle.nlm_ranges.proofs.CallRangeLemmas.{not-zero, owner-turned}
use Rattle.nlm_ranges.proofs.ListedLockLemmas.{all-listed, listed-mode}
use Rattle.nlm_ranges.proofs.CutLocksLemmas.{given-both, listed-first, listed-last}
use Rattle.nlm_ranges.proofs.PieceLemmas.{counted}
use Rattle.nlm_ranges.proofs.ModesAtLemmas.{
  both,
  insert-all,
  insert-has,
  left-has,
  left-kept,
  mode-append,
  offset-within,
}
use Rattle.nlm_ranges.proofs.ModesAtLemmas.{stays, within}
use Rattle.nlm_ranges.specs.Cutting.{Inserts, is_touched}
use Rattle.nlm_ranges.specs.Held.{AreAll, AreHeld, BeginsWith, EndsWith, HasNoneAlone, IsGivenBack, IsHad, IsInTheWay}
use Rattle.nlm_ranges.specs.Held.{IsWidened}

-- ---- what stands in the way
-- an offset of a range and of a lock
record Meets (r : Range) (lock : Lock) : Type 0 where
  pub offset : ℕ
  pub asked : is_within r.first r.last offset ≡ true
  pub shown : is_within lock.first lock.last offset ≡ true

meets : (r : Range) (lock : Lock) → r.first ≤ r.last → lock.first ≤ lock.last → lock.first ≤ r.last →
    r.first ≤ lock.last → Meets r lock
meets r lock rises rise low high =
    elim (nat_le lock.first r.first) as (λ b. nat_le lock.first r.first ≡ b → Meets r lock) [
      | true ↦ λ e.
          let under : lock.first ≤ r.first = leb-true lock.first r.first e in record {
            offset = r.first;
            asked = within r.first r.last r.first (omega arith) rises;
            shown = within lock.first lock.last r.first under high;
          }
      | false ↦ λ e.
          let over : r.first < lock.first = leb-false lock.first r.first e in record {
            offset = lock.first;
            asked = within r.first r.last lock.first (omega (arith, over)) low;
            shown = within lock.first lock.last lock.first (omega arith) rise;
          }
    ] refl

pub in-way : (locks : List Lock) (r : Range) (mode : Mode) (lock : Lock) → AreListed locks → Contains locks lock →
    r.first ≤ r.last → stands_in_way r mode lock ≡ true → IsInTheWay locks r mode lock
in-way locks r mode lock listed there rises stands =
    let m = meets r lock rises range.rises low high in
    record {
      conflict = record {
        other = lock.owner;
        offset = m.offset;
        is_other = apart;
        is_inside = m.asked;
        conflict = ap (modes_conflict mode) (had m.offset m.shown) ∙ conflicts;
      };
      owner_is = refl;
      is_shown = m.shown;
      has = had;
    }
  where
    parts : ((not (same_owner r.owner lock.owner) && nat_le lock.first r.last && nat_le r.first lock.last) ≡ true)
        × (modes_conflict mode (Some lock.exclusive) ≡ true)
    parts = and_parts (not (same_owner r.owner lock.owner) && nat_le lock.first r.last && nat_le r.first lock.last)
        (modes_conflict mode (Some lock.exclusive)) stands

    conflicts : modes_conflict mode (Some lock.exclusive) ≡ true
    conflicts = parts.1

    upper : ((not (same_owner r.owner lock.owner) && nat_le lock.first r.last) ≡ true)
        × (nat_le r.first lock.last ≡ true)
    upper = and_parts (not (same_owner r.owner lock.owner) && nat_le lock.first r.last) (nat_le r.first lock.last)
        parts.0

    lower : (not (same_owner r.owner lock.owner) ≡ true) × (nat_le lock.first r.last ≡ true)
    lower = and_parts (not (same_owner r.owner lock.owner)) (nat_le lock.first r.last) upper.0

    denied : (b : Bool) → not b ≡ true → b ≡ false
    denied true e = cc
    denied false e = refl

    apart : same_owner r.owner lock.owner ≡ false
    apart = denied (same_owner r.owner lock.owner) lower.0

    low : lock.first ≤ r.last
    low = leb-true lock.first r.last lower.1

    high : r.first ≤ lock.last
    high = leb-true r.first lock.last upper.1

    range : IsRange lock.range
    range = All-contains (λ (l : Lock). IsRange l.range) locks lock
        (All-from_recursion (λ (l : Lock). IsRange l.range) locks listed.ranges) there

    had : (offset : ℕ) → is_within lock.first lock.last offset ≡ true →
        mode_at locks lock.owner offset ≡ Some lock.exclusive
    had offset w = listed-mode locks lock listed there lock.owner offset (both _ _ (owner-itself lock.owner) w)

-- shared locks stand in no shared lock's way
shared-free : (r : Range) (locks : List Lock) → AreAll false locks →
    list_any (stands_in_way r (Some false)) locks ≡ false
shared-free r [] all = refl
shared-free r (l ∷ locks) all =
    (λ i. (not (same_owner r.owner l.owner) && nat_le l.first r.last && nat_le r.first l.last && (false || all.0 i))
    || shared-free r locks all.1 i)
    ∙ none (not (same_owner r.owner l.owner) && nat_le l.first r.last && nat_le r.first l.last)
  where
    none : (b : Bool) → ((b && (false || false)) || false) ≡ false
    none true = refl
    none false = refl

pub none-in-way : (exclusive shared : List Lock) (r : Range) (mode : Mode) →
    list_any (stands_in_way r mode) exclusive ≡ false → list_any (stands_in_way r mode) shared ≡ false →
    Conflicts (exclusive ++ shared) r mode → ⊥
none-in-way exclusive shared r mode a b =
    listed_locks_tell (exclusive ++ shared) r mode
    (list_any-append (stands_in_way r mode) exclusive shared ∙ (λ i. a i || b i))

pub none-exclusive : (exclusive shared : List Lock) (r : Range) → AreHeld exclusive shared →
    list_any (stands_in_way r (Some false)) exclusive ≡ false → Conflicts (exclusive ++ shared) r (Some false) → ⊥
none-exclusive exclusive shared r held a =
    none-in-way exclusive shared r (Some false) a (shared-free r shared held.shares)

-- ---- a caller has nothing more
module _ (exclusive shared : List Lock) (held : AreHeld exclusive shared) (name : List ℕ) where
  pub freed-modes : HasModes (filter (stays name) exclusive ++ filter (stays name) shared)
      (modes_without (exclusive ++ shared) name)
  freed-modes =
      subst (λ locks. HasModes locks (modes_without (exclusive ++ shared) name))
      (filter-append (stays name) exclusive shared) (left-has name (exclusive ++ shared) held.listed)

  pub freed : AreHeld (filter (stays name) exclusive) (filter (stays name) shared)
  freed = record {
    listed = freed-modes.listed;
    apart = apart-without (exclusive ++ shared) name (filter (stays name) exclusive ++ filter (stays name) shared)
        freed-modes held.apart;
    exclusives = left-kept name true exclusive held.exclusives;
    shares = left-kept name false shared held.shares;
  }

-- ---- a range is had in a mode
pub widened-from : (locks : List Lock) → AreListed locks → (mode : Bool) (list : List Lock) → AreAll mode list →
    ((l : Lock) → Contains list l → Contains locks l) → (r : Range) (first last : ℕ) → BeginsWith list r first →
    EndsWith list r last → IsWidened locks r (Some mode) (record r { first = first; last = last })
widened-from locks listed mode list all more r first last begins ends = record {
  owner_is = refl;
  low = begins.low;
  high = ends.high;
  fits = ends.fits;
  has = λ x inside outside.
      let w = offset-within first last x inside in
      let w1 = w.low in
      let w2 = w.high in
      elim (nat_le r.first x) as (λ b. nat_le r.first x ≡ b → mode_at locks r.owner x ≡ Some mode) [
        | false ↦ λ under. had x (begins.has x w1 (leb-false r.first x under))
        | true ↦ λ over. elim (nat_le x r.last) as (λ b. nat_le x r.last ≡ b →
            mode_at locks r.owner x ≡ Some mode) [
              | false ↦ λ beyond. had x (ends.has x (leb-false x r.last beyond) w2)
              | true ↦ λ under.
                  let no : true ≡ false = sym (within r.first r.last x (leb-true r.first x over)
                  (leb-true x r.last under)) ∙ outside in cc
            ] refl
      ] refl;
}
  where
    had : (x : ℕ) → IsHad list r x → mode_at locks r.owner x ≡ Some mode
    had x h =
        listed-mode locks h.lock listed (more h.lock h.listed) r.owner x h.has
        ∙ ap (λ b. Some b) (all-listed mode list h.lock all h.listed)

module _ (old : List Lock) (r : Range) (mode : Mode) (wide : Range) (is : IsWidened old r mode wide) where
  -- more of a range, where its owner has that already
  wide-modes : (o : Owner) (x : ℕ) →
      cond (is_in wide o x) mode (mode_at old o x) ≡ modes_with old r mode o x
  wide-modes o x =
      elim (same_owner r.owner o) as (λ s. same_owner r.owner o ≡ s → cond (is_in wide o x) mode (mode_at old o x)
      ≡ cond (s && is_within r.first r.last x) mode (mode_at old o x)) [
        | false ↦ λ other. ap (λ s. cond (s && is_within wide.first wide.last x) mode (mode_at old o x))
            (ap (λ p. same_owner p o) is.owner_is ∙ other)
        | true ↦ λ same.
            ap (λ s. cond (s && is_within wide.first wide.last x) mode (mode_at old o x))
            (ap (λ p. same_owner p o) is.owner_is ∙ same)
            ∙ of-offset (is_within wide.first wide.last x) (is_within r.first r.last x) refl refl
            (one-owner r.owner o same)
      ] refl
    where
      of-offset : (w n : Bool) → is_within wide.first wide.last x ≡ w → is_within r.first r.last x ≡ n →
          r.owner ≡ o → cond w mode (mode_at old o x) ≡ cond n mode (mode_at old o x)
      of-offset true true ew en owner = refl
      of-offset false false ew en owner = refl
      of-offset true false ew en owner = sym (ap (λ p. mode_at old p x) (sym owner) ∙ is.has x ew en)
      of-offset false true ew en owner =
          let v = offset-within r.first r.last x en in
          let v1 = v.low in
          let v2 = v.high in
          let low = is.low in
          let high = is.high in
          let no : true ≡ false = sym (within wide.first wide.last x (omega (arith, v1, low))
          (omega (arith, v2, high))) ∙ ew in
          cc

  -- a list where the wide range was given back, and its lock is listed again
  pub set-modes : (mid new : List Lock) → HasModes mid (modes_with old wide None) →
      HasModes new (modes_with mid wide mode) → HasModes new (modes_with old r mode)
  set-modes mid new given has = record {
    modes_are = λ o x.
        has.modes_are o x
        ∙ ap (cond (is_in wide o x) mode) (given.modes_are o x)
        ∙ twice (is_in wide o x) (mode_at old o x)
        ∙ wide-modes o x;
    listed = has.listed;
  }
    where
      twice : (b : Bool) (m : Mode) → cond b mode (cond b None m) ≡ cond b mode m
      twice true m = refl
      twice false m = refl

given-back : (old mid : List Lock) (wide : Range) → HasModes mid (modes_with old wide None) → (x : ℕ) →
    is_within wide.first wide.last x ≡ true → mode_at mid wide.owner x ≡ None
given-back old mid wide given x inside =
    given.modes_are wide.owner x
    ∙ ap (λ b. cond b None (mode_at old wide.owner x)) (both _ _ (owner-itself wide.owner) inside)

pub inserts-front : (old more new : List Lock) (lock : Lock) → Inserts old lock new →
    Inserts (old ++ more) lock (new ++ more)
inserts-front old more new lock i = record {
  earlier = i.earlier;
  later = i.later ++ more;
  old_is = ap (λ ls. ls ++ more) i.old_is ∙ append_assoc i.earlier i.later more;
  new_is = ap (λ ls. ls ++ more) i.new_is ∙ append_assoc i.earlier (lock ∷ i.later) more;
}

pub inserts-back : (front old new : List Lock) (lock : Lock) → Inserts old lock new →
    Inserts (front ++ old) lock (front ++ new)
inserts-back front old new lock i = record {
  earlier = front ++ i.earlier;
  later = i.later;
  old_is = ap (λ ls. front ++ ls) i.old_is ∙ sym (append_assoc front i.earlier i.later);
  new_is = ap (λ ls. front ++ ls) i.new_is ∙ sym (append_assoc front i.earlier (lock ∷ i.later));
}

-- the lock of a range
abbrev pub lock_of : Range → Bool → Lock
lock_of r exclusive = record { range = r; exclusive = exclusive }

module _ (exclusive shared : List Lock) (held : AreHeld exclusive shared) (r wide : Range) (mode : Bool)
    (rises : r.first ≤ r.last) (free : Conflicts (exclusive ++ shared) r (Some mode) → ⊥)
    (is : IsWidened (exclusive ++ shared) r (Some mode) wide) (exs shs : List Lock)
    (of_exs : IsGivenBack exclusive wide exs) (of_shs : IsGivenBack shared wide shs) where
  wide-range : IsRange wide
  wide-range =
      let low = is.low in
      let high = is.high in
      record { rises = omega (arith, low, rises, high); fits = is.fits }

  given : HasModes (exs ++ shs) (modes_with (exclusive ++ shared) wide None)
  given = given-both exclusive shared exs shs wide held.listed
      (of_exs.modes (listed-first exclusive shared held.listed))
      (of_shs.modes (listed-last exclusive shared held.listed))

  module _ (new : List Lock) (inserts : Inserts (exs ++ shs) (lock_of wide mode) new) where
    pub now-modes : HasModes new (modes_with (exclusive ++ shared) r (Some mode))
    now-modes =
        set-modes (exclusive ++ shared) r (Some mode) wide is (exs ++ shs) new given
        (insert-has (exs ++ shs) new (lock_of wide mode) inserts given.listed wide-range
        (given-back (exclusive ++ shared) (exs ++ shs) wide given))

    now-apart : NoLocksConflict new
    now-apart = apart-with (exclusive ++ shared) r (Some mode) free new now-modes held.apart

  pub now-exclusive : (new : List Lock) → Inserts exs (lock_of wide true) new → mode ≡ true →
      AreHeld new shs × HasModes (new ++ shs) (modes_with (exclusive ++ shared) r (Some mode))
  now-exclusive new i is_exclusive =
      let here : Inserts exs (lock_of wide mode) new =
      subst (λ b. Inserts exs (lock_of wide b) new) (sym is_exclusive) i in
      let both : Inserts (exs ++ shs) (lock_of wide mode) (new ++ shs) =
      inserts-front exs shs new (lock_of wide mode) here in
      let modes = now-modes (new ++ shs) both in (
        record {
          listed = modes.listed;
          apart = now-apart (new ++ shs) both;
          exclusives = insert-all exs new (lock_of wide mode) here (λ (l : Lock). l.exclusive ≡ true)
              (of_exs.kept true held.exclusives) is_exclusive;
          shares = of_shs.kept false held.shares;
        },
        modes,
      )

  pub now-shared : (new : List Lock) → Inserts shs (lock_of wide false) new → mode ≡ false →
      AreHeld exs new × HasModes (exs ++ new) (modes_with (exclusive ++ shared) r (Some mode))
  now-shared new i is_shared =
      let here : Inserts shs (lock_of wide mode) new =
      subst (λ b. Inserts shs (lock_of wide b) new) (sym is_shared) i in
      let both : Inserts (exs ++ shs) (lock_of wide mode) (exs ++ new) =
      inserts-back exs shs new (lock_of wide mode) here in
      let modes = now-modes (exs ++ new) both in (
        record {
          listed = modes.listed;
          apart = now-apart (exs ++ new) both;
          exclusives = of_exs.kept true held.exclusives;
          shares = insert-all shs new (lock_of wide mode) here (λ (l : Lock). l.exclusive ≡ false)
              (of_shs.kept false held.shares) is_shared;
        },
        modes,
      )

-- ---- no locks
pub none-held : AreHeld [] []
none-held = record { listed = none-listed; apart = λ a b offset other. refl; exclusives = tt; shares = tt }

-- ---- changes, by what they made of both lists
module _ (exclusive shared : List Lock) (held : AreHeld exclusive shared) (exs shs : List Lock) where
  pub cleared-as : (r : Range) → IsGivenBack exclusive r exs → IsGivenBack shared r shs →
      AreHeld exs shs × HasModes (exs ++ shs) (modes_with (exclusive ++ shared) r None)
  cleared-as r of_exs of_shs =
      let modes = given-both exclusive shared exs shs r held.listed
      (of_exs.modes (listed-first exclusive shared held.listed))
      (of_shs.modes (listed-last exclusive shared held.listed)) in (
        record {
          listed = modes.listed;
          apart = apart-with (exclusive ++ shared) r None (unlocking-free (exclusive ++ shared) r) (exs ++ shs) modes
              held.apart;
          exclusives = of_exs.kept true held.exclusives;
          shares = of_shs.kept false held.shares;
        },
        modes,
      )

  pub freed-as : (name : List ℕ) → exs ≡ filter (stays name) exclusive → shs ≡ filter (stays name) shared →
      AreHeld exs shs × HasModes (exs ++ shs) (modes_without (exclusive ++ shared) name)
  freed-as name same_exs same_shs = (
    (let part : AreHeld exs (filter (stays name) shared) =
        subst (λ ls. AreHeld ls (filter (stays name) shared)) (sym same_exs) (freed exclusive shared held name) in
        subst (AreHeld exs) (sym same_shs) part),
    subst (λ ls. HasModes ls (modes_without (exclusive ++ shared) name))
        (λ i. sym same_exs i ++ sym same_shs i) (freed-modes exclusive shared held name),
  )

-- where a shared lock is asked for
pub none-for-shared : (exclusive shared : List Lock) (r : Range) (e : Bool) → AreHeld exclusive shared → e ≡ false →
    list_any (stands_in_way r (Some e)) exclusive ≡ false → Conflicts (exclusive ++ shared) r (Some e) → ⊥
none-for-shared exclusive shared r true held is none = (let no : true ≡ false = is in cc)
none-for-shared exclusive shared r false held is none = none-exclusive exclusive shared r held none

pub none-then : {X : Type 0} (o : Option X) (P Q : Type 0) → IfNone o P → (P → Q) → IfNone o Q
none-then None P Q p f = f p
none-then (Some x) P Q p f = tt

-- ---- whether there are locks
pub some-first : (a b : List Lock) → (length a == 0) ≡ false → (length (a ++ b) == 0) ≡ false
some-first a b some =
    let more : 0 < length a = counted a some in
    let sum : length (a ++ b) ≡ length a + length b = length-append a b in
    not-zero (length (a ++ b)) (λ none. omega (arith, more, sum, none))

pub none-first : (a b : List Lock) → (length a == 0) ≡ true → (length (a ++ b) == 0) ≡ (length b == 0)
none-first [] b none = refl
none-first (l ∷ a) b none =
    let zero : length (l ∷ a) ≡ 0 = (unsigned_Decides (length (l ∷ a)) 0).0 none in
    absurd (omega (arith, zero))

-- ---- whether an owner has an offset exclusively
untouched-mode : (r : Range) (x : ℕ) → is_within r.first r.last x ≡ true → (locks : List Lock) →
    list_any (is_touched r) locks ≡ false → mode_at locks r.owner x ≡ None
untouched-mode r x inside [] none = refl
untouched-mode r x inside (l ∷ locks) none =
    let parts = or_parts (is_touched r l) (list_any (is_touched r) locks) none in
    elim (holds r.owner x l) as (λ b. holds r.owner x l ≡ b →
    mode_by (cond b (Some l) (find (holds r.owner x) locks)) ≡ None) [
      | false ↦ λ out. untouched-mode r x inside locks parts.1
      | true ↦ λ has.
          let own = and_parts (same_owner l.owner r.owner) (is_within l.first l.last x) has in
          let w = offset-within l.first l.last x own.1 in
          let v = offset-within r.first r.last x inside in
          let low = w.low in
          let high = w.high in
          let from = v.low in
          let to = v.high in
          let touched : is_touched r l ≡ true = both _ _ (owner-turned r.owner l.owner ∙ own.0)
          (both _ _ (le-leb l.first r.last (omega (arith, low, to)))
          (le-leb r.first l.last (omega (arith, from, high)))) in
          let never : true ≡ false = sym touched ∙ parts.0 in cc
    ] refl

none-shared : (o : Owner) (x : ℕ) (locks : List Lock) → AreAll false locks → mode_at locks o x ≡ Some true → ⊥
none-shared o x [] all is = (let no : None ≡ Some true = is in cc)
none-shared o x (l ∷ locks) all is =
    elim (holds o x l) as (λ b. mode_by (cond b (Some l) (find (holds o x) locks)) ≡ Some true → ⊥) [
      | false ↦ λ later. none-shared o x locks all.1 later
      | true ↦ λ here. (let no : Some false ≡ Some true = ap Some (sym all.0) ∙ here in cc)
    ] is

pub none-alone : (exclusive shared : List Lock) (r : Range) → AreHeld exclusive shared →
    list_any (is_touched r) exclusive ≡ false → HasNoneAlone (exclusive ++ shared) r
none-alone exclusive shared r held none x inside is =
    none-shared r.owner x shared held.shares
    (sym (mode-append exclusive shared r.owner x
    ∙ ap (λ m. option_or m (mode_at shared r.owner x)) (untouched-mode r x inside exclusive none)) ∙ is)
