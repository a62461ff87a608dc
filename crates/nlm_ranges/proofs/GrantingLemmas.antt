-- What is granted where locks change, one request after the other.
use Rattle.std.proofs.Common.{◌≡◌, ◌+◌, ◌-◌, ◌<◌, ◌≤◌, ℕ, true, false, ◌||◌, Bool, cond, List, [], ◌∷◌, ◌++◌}
use Rattle.std.proofs.Common.{Some, None, refl, sym, ◌∙◌, ap, subst, arith, append_assoc, drop, get_or, length}
use Rattle.std.proofs.Common.{length-append, map}
use Rattle.std.proofs.lemmas.Bool.{and_parts}
use Rattle.std.proofs.lemmas.List.{append-nil, drop_more, length-drop, length-map}
use Rattle.std.specs.Arc.{arc_value}
use Rattle.std.specs.List.{AllByRecursion}
use Rattle.nfs_machine.specs.Locks.{HasModes, Mode, is_in, is_within, mode_at, modes_conflict, modes_with, same_owner}
use Rattle.nfs_machine.specs.OneFile.{AreHeldUp, FileLocks, IsHeldUp, Settles, requested}
use Rattle.nfs_machine.specs.State.{Lock, Range, Request, Share}
use Rattle.nfs_machine.proofs.ModesLemmas.{all-mapped, one-owner}
use Rattle.nlm_ranges.specs.Granting.{Grants, IsEmptied, IsOnWay, LeadsOn, Tries, TriesAnew, held_in, holding, kept_in}
use Rattle.nlm_ranges.specs.Held.{HasNoneAlone}
use Rattle.nlm_ranges.specs.declared.settling.Settling.{Settling}

-- ---- what holds a request up stays in its way, where another's mode does not become a shared one
still-conflicts : (mode e : Bool) (m : Mode) → (e ≡ false → m ≡ Some true → ⊥) →
    modes_conflict (Some mode) m ≡ true → (mode || e) ≡ true
still-conflicts true e m apart conflict = refl
still-conflicts false true m apart conflict = refl
still-conflicts false false None apart conflict = conflict
still-conflicts false false (Some true) apart conflict = absurd (apart refl refl)
still-conflicts false false (Some false) apart conflict = conflict

still-held-up : (old new : List Lock) (g : Range) (e : Bool) → HasModes new (modes_with old g (Some e)) →
    (e ≡ false → HasNoneAlone old g) → (r : Request) → IsHeldUp old r → IsHeldUp new r
still-held-up old new g e modes alone r c = record {
  other = c.other;
  offset = c.offset;
  is_other = c.is_other;
  is_inside = c.is_inside;
  conflict = ap (modes_conflict (Some r.exclusive)) (modes.modes_are c.other c.offset)
      ∙ elim (is_in g c.other c.offset) as (λ b. is_in g c.other c.offset ≡ b →
      modes_conflict (Some r.exclusive) (cond b (Some e) (mode_at old c.other c.offset)) ≡ true) [
        | false ↦ λ out. c.conflict
        | true ↦ λ has.
            let parts = and_parts (same_owner g.owner c.other) (is_within g.first g.last c.offset) has in
            still-conflicts r.exclusive e (mode_at old c.other c.offset) (λ shared m. alone shared c.offset parts.1
            (ap (λ o. mode_at old o c.offset) (one-owner g.owner c.other parts.0) ∙ m)) c.conflict
      ] refl;
}

pub all-still-held-up : (old new : List Lock) (r : Request) →
    HasModes new (modes_with old (requested r) (Some r.exclusive)) →
    (r.exclusive ≡ false → HasNoneAlone old (requested r)) → (rs : List Request) →
    AllByRecursion (IsHeldUp old) rs → AllByRecursion (IsHeldUp new) rs
all-still-held-up old new r modes alone rs =
    all-mapped (IsHeldUp old) (IsHeldUp new) rs
    (still-held-up old new (requested r) r.exclusive modes alone)

-- ---- on the way
-- the same of equal parts
pub way-as : (first : FileLocks) (locks mine : List Lock) (granted given left rest : List Request) → mine ≡ locks →
    given ≡ granted → rest ≡ left → IsOnWay first locks granted left → IsOnWay first mine given rest
way-as first locks mine granted given left rest one two three way =
    subst (λ ls. IsOnWay first ls given rest) (sym one)
    (subst (λ gs. IsOnWay first locks gs rest) (sym two)
    (subst (λ rs. IsOnWay first locks granted rs) (sym three) way))

-- the next one is granted
pub way-granted : (first : FileLocks) (locks new : List Lock) (granted all kept rest : List Request) (r : Request) →
    AllByRecursion (IsHeldUp locks) kept → (IsHeldUp locks r → ⊥) →
    HasModes new (modes_with locks (requested r) (Some r.exclusive)) → all ≡ granted ++ r ∷ [] →
    IsOnWay first locks granted (kept ++ r ∷ rest) → IsOnWay first new all (kept ++ rest)
way-granted first locks new granted all kept rest r held free lists is way more end settles =
    subst (λ rs. Settles first (rs ++ more) end) (sym is)
    (subst (λ rs. Settles first rs end) (sym (append_assoc granted (r ∷ []) more))
    (way (r ∷ more) end (
      holding new (kept ++ rest),
      record {
        earlier = kept;
        later = rest;
        waits = refl;
        held_up = held;
        free = free;
        lists = lists;
        waiting = refl;
        shares = refl;
      },
      settles,
    )))

-- all that are left are held up
pub way-ends : (first : FileLocks) (locks : List Lock) (granted left : List Request) →
    IsOnWay first locks granted left → AllByRecursion (IsHeldUp locks) left → Settles first granted (holding locks left)
way-ends first locks granted left way held =
    subst (λ rs. Settles first rs (holding locks left)) (append-nil granted) (way [] (holding locks left) (held, refl))

-- ---- one request after the other
pub tries-granted : (old new : Settling) (r : Request) (anew : Bool) → AreHeldUp (held_in old) →
    (IsHeldUp (arc_value old.locks) r → ⊥) → Grants old r anew new → Tries old r anew new
tries-granted old new r anew held free g = record {
  held_up = λ none. subst (AllByRecursion (IsHeldUp (arc_value new.locks))) (sym kept)
      (all-still-held-up (arc_value old.locks) (arc_value new.locks) r g.lists (g.stays none) (kept_in old) held);
  most = omega (arith, same);
  fewer = λ e. omega (arith, same);
  leads = λ rest first way.
      subst (λ rs. IsOnWay first (arc_value new.locks) (map arc_value new.granted.items) (rs ++ rest)) (sym kept)
      (way-granted first (arc_value old.locks) (arc_value new.locks) (map arc_value old.granted.items)
      (map arc_value new.granted.items) (kept_in old) rest r held free g.lists g.granted way);
}
  where
    kept : kept_in new ≡ kept_in old
    kept = ap (map arc_value) g.waiting

    same : length new.waiting.items ≡ length old.waiting.items
    same = ap length g.waiting

-- some were tried, and then this one
module _ {X : Type 0} (f : X → Request) (old cur mid : Settling) (xs : List X) (i : ℕ) (x : X)
    (inside : i < length xs) (at : x ≡ get_or xs i x)
    (leads : LeadsOn old (map f xs) cur (kept_in cur ++ map f (drop i xs))) where
  behind : map f (drop i xs) ≡ f x ∷ map f (drop (i + 1) xs)
  behind = ap (map f) (drop_more xs i x inside) ∙ ap (λ y. f y ∷ map f (drop (i + 1) xs)) (sym at)

  pub each-on : (anew : Bool) → Tries cur (f x) anew mid →
      LeadsOn old (map f xs) mid (kept_in mid ++ map f (drop (i + 1) xs))
  each-on anew one first way =
      one.leads (map f (drop (i + 1) xs)) first
      (subst (λ rs. IsOnWay first (arc_value cur.locks) (map arc_value cur.granted.items) (kept_in cur ++ rs)) behind
      (leads first way))

  pub each-anew : (new : Settling) (left : List Request) (anew : Bool) → length cur.waiting.items ≤ i →
      anew ≡ true → Tries cur (f x) anew mid → IsEmptied mid (map f (drop (i + 1) xs)) new left →
      TriesAnew old (map f xs) new left
  each-anew new left anew few is one all = record {
    none = all.none;
    fewer =
        let had = ap length all.left_is ∙ length-append (kept_in mid) (map f (drop (i + 1) xs)) in
        let kept : length (kept_in mid) ≡ length mid.waiting.items = length-map mid.waiting.items arc_value in
        let rest : length (map f (drop (i + 1) xs)) ≡ length (drop (i + 1) xs) = length-map (drop (i + 1) xs) f in
        let dropped : length (drop (i + 1) xs) ≡ length xs - (i + 1) = length-drop (i + 1) xs in
        let whole : length (map f xs) ≡ length xs = length-map xs f in
        let no_more = one.fewer is in
        omega (arith, had, kept, rest, dropped, whole, no_more, few, inside);
    leads = λ first way.
        way-as first (arc_value mid.locks) (arc_value new.locks) (map arc_value mid.granted.items)
        (map arc_value new.granted.items) (kept_in mid ++ map f (drop (i + 1) xs)) left (ap arc_value all.locks)
        (ap (map arc_value) all.granted) all.left_is (each-on anew one first way);
  }

-- ---- whatever shares there are
abbrev pub beside : List Share → FileLocks → FileLocks
beside shares f = record f { shares = shares }

pub settles-beside : (shares : List Share) (a b : FileLocks) (granted : List Request) → Settles a granted b →
    Settles (beside shares a) granted (beside shares b)
settles-beside shares a b [] (held, is) = (held, ap (beside shares) is)
settles-beside shares a b (r ∷ granted) (mid, one, rest) = (
  beside shares mid,
  record {
    earlier = one.earlier;
    later = one.later;
    waits = one.waits;
    held_up = one.held_up;
    free = one.free;
    lists = one.lists;
    waiting = one.waiting;
    shares = refl;
  },
  settles-beside shares mid b granted rest,
)

-- ---- a file
pub settles-file : (old new : FileLocks) (locks left : List Lock) (waiting rest granted : List Request) →
    locks ≡ old.locks → waiting ≡ old.waiting → Settles (holding locks waiting) granted (holding left rest) →
    new.locks ≡ left → new.shares ≡ old.shares → new.waiting ≡ rest → Settles old granted new
settles-file old new locks left waiting rest granted held asked settles now same then =
    subst (Settles old granted) (λ i. record { locks = sym now i; shares = sym same i; waiting = sym then i })
    (subst (λ f. Settles f granted (beside old.shares (holding left rest)))
    (λ i. record { locks = held i; shares = old.shares; waiting = asked i })
    (settles-beside old.shares (holding locks waiting) (holding left rest) granted settles))

-- each that waits is held up, and nothing is granted
pub settles-nothing : (old new : FileLocks) (granted : List Request) → AreHeldUp old → granted ≡ [] → new ≡ old →
    Settles old granted new
settles-nothing old new granted held none same = subst (λ rs. Settles old rs new) (sym none) (held, same)

-- none more is to be answered
pub none-pending : (old new granted : List Request) → granted ≡ [] → new ≡ old → new ≡ old ++ granted
none-pending old new granted none same = same ∙ sym (append-nil old) ∙ ap (λ rs. old ++ rs) (sym none)
