-- Tables of mounts in pieces: what is true of the pieces is true of all mounts.
use Rattle.std.proofs.Common.{◌≡◌, ℕ, ◌+◌, ◌-◌, ◌<◌, ◌≤◌, Bool, true, false, cond, not, ◌&&◌}
use Rattle.std.proofs.Common.{◌||◌, List, [], ◌∷◌, ◌++◌, length, drop, filter, map, take, get_or, nat_eq}
use Rattle.std.proofs.Common.{refl, sym, ap, subst, ◌∙◌, append_assoc, arith, length-append, IsTrue, true≢false}
use Rattle.std.proofs.Math.Seq.{take-append_seam}
use Rattle.std.specs.Cmp.{IsEquivalence, decided}
use Rattle.std.specs.Cmp.Lexicographic.{nat_list_eq_equiv, pointwise}
use Rattle.std.specs.List.{AllByRecursion, IsDistinct, list_any}
use Rattle.std.proofs.lemmas.Bool.{or_parts}
use Rattle.std.proofs.lemmas.List.{append-nil, drop-append-le, length-drop, map-append, map_more, nil_from_length}
use Rattle.std.proofs.lemmas.List.{drop-drop, take-append-drop, take-append-le, take_all}
use Rattle.std.proofs.lemmas.List.Concat.{flat_map-append}
use Rattle.std.proofs.lemmas.List.Elements.{filter-append}
use Rattle.std.proofs.lemmas.List.Folds.{flat_map-map, length-flat_map-take, list_any-append}
use Rattle.std.proofs.lemmas.List.Sums.{count_by-le-length, length-filter}
use Rattle.std.proofs.lemmas.Map.Keys.{IsDistinct-head, IsDistinct-push, IsDistinct-tail}
use Rattle.indexmap.proofs.SetLemmas.{set_all_distinct}
use Rattle.indexmap.specs.IndexSet.{insert_all, insert_key}
use Rattle.nfs_machine.specs.MountSteps.{is_mounted, is_of, newest}
use Rattle.nfs_objects.specs.MountTables.{AreDistinct, AreInPieces, AreListed, ArePacked, first_piece, is_same, joined}
use Rattle.nfs_objects.specs.MountTables.{listed}
use Rattle.nfs_objects.specs.Same.{same_mount}
use Rattle.nfs_objects.specs.SameLaws.{mount_decides}
use Rattle.side_wire.specs.declared.mount.lists.MountBody.{MountBody}

-- a test is passed in a piece where it is passed at all
pub any-joined : {A X : Type 0} (p : X → Bool) (f : A → List X) (pieces : List A) →
    list_any (λ a. list_any p (f a)) pieces ≡ list_any p (joined (map f pieces))
any-joined p f [] = refl
any-joined p f (a ∷ pieces) =
    ap (λ b. list_any p (f a) || b) (any-joined p f pieces) ∙ sym (list_any-append p (f a) (joined (map f pieces)))

-- tests that agree
any-alike : {X : Type 0} (p q : X → Bool) → ((x : X) → p x ≡ q x) → (xs : List X) →
    list_any p xs ≡ list_any q xs
any-alike p q same [] = refl
any-alike p q same (x ∷ xs) = ap (λ b. b || list_any p xs) (same x) ∙ ap (λ b. q x || b) (any-alike p q same xs)

-- a mount is compared from either side
pub any-turned : (m : MountBody) (mounts : List MountBody) →
    list_any (λ (x : MountBody). pointwise nat_eq m.hostname x.hostname && pointwise nat_eq m.directory x.directory)
    mounts
    ≡ is_mounted mounts m
any-turned m mounts =
    any-alike (λ (x : MountBody). pointwise nat_eq m.hostname x.hostname && pointwise nat_eq m.directory x.directory)
    (is_of m.hostname m.directory)
    (λ x. ap (λ b. b && pointwise nat_eq m.directory x.directory) (nat_list_eq_equiv.symm m.hostname x.hostname)
    ∙ ap (λ b. pointwise nat_eq x.hostname m.hostname && b) (nat_list_eq_equiv.symm m.directory x.directory)) mounts

pub any-dropped : {X : Type 0} (p : X → Bool) (xs : List X) → list_any p xs ≡ false →
    list_any p (drop 1 xs) ≡ false
any-dropped p [] none = none
any-dropped p (x ∷ xs) none = (or_parts (p x) (list_any p xs) none).1

and-true : (b : Bool) → (b && true) ≡ b
and-true true = refl
and-true false = refl

-- one more, where all are kept
pub newest-within : (mounts : List MountBody) (m : MountBody) → length mounts < 65536 →
    newest (mounts ++ m ∷ []) ≡ mounts ++ m ∷ []
newest-within mounts m room =
    let all : length (mounts ++ m ∷ []) ≡ length mounts + 1 = length-append mounts (m ∷ []) in
    ap (λ n. drop n (mounts ++ m ∷ []))
    (let none : length (mounts ++ m ∷ []) - 65536 ≡ 0 = omega (arith, all, room) in none)

-- one more, where no more are kept
pub newest-full : (mounts : List MountBody) (m : MountBody) → length mounts ≡ 65536 →
    newest (mounts ++ m ∷ []) ≡ drop 1 mounts ++ m ∷ []
newest-full mounts m full =
    let all : length (mounts ++ m ∷ []) ≡ length mounts + 1 = length-append mounts (m ∷ []) in
    ap (λ n. drop n (mounts ++ m ∷ []))
    (let one : length (mounts ++ m ∷ []) - 65536 ≡ 1 = omega (arith, all, full) in one)
    ∙ drop-append-le 1 mounts (m ∷ []) (omega (arith, full))

-- ---- mounts that differ
module _ {X : Type 0} where
  all-front : (P : X → Type 0) (a b : List X) → AllByRecursion P (a ++ b) → AllByRecursion P a
  all-front P [] b all = tt
  all-front P (x ∷ a) b all = (all.0, all-front P a b all.1)

  all-back : (P : X → Type 0) (a b : List X) → AllByRecursion P (a ++ b) → AllByRecursion P b
  all-back P [] b all = all
  all-back P (x ∷ a) b all = all-back P a b all.1

  all-passed : (P : X → Type 0) (p : X → Bool) (xs : List X) → AllByRecursion P xs → AllByRecursion P (filter p xs)
  all-passed P p [] all = tt
  all-passed P p (x ∷ xs) all =
      elim (p x) as (λ b. AllByRecursion P (cond b (x ∷ filter p xs) (filter p xs))) [
        | true ↦ (all.0, all-passed P p xs all.1)
        | false ↦ all-passed P p xs all.1
      ]

  module _ (same : X → X → Bool) where
    distinct-front : (a b : List X) → IsDistinct same (a ++ b) → IsDistinct same a
    unfolding IsDistinct
    distinct-front [] b distinct = tt
    distinct-front (x ∷ a) b distinct =
        (all-front (λ y. same x y ≡ false) a b distinct.0, distinct-front a b distinct.1)

    distinct-back : (a b : List X) → IsDistinct same (a ++ b) → IsDistinct same b
    unfolding IsDistinct
    distinct-back [] b distinct = distinct
    distinct-back (x ∷ a) b distinct = distinct-back a b distinct.1

    distinct-behind : (k : ℕ) (xs : List X) → IsDistinct same xs → IsDistinct same (drop k xs)
    distinct-behind k xs distinct =
        distinct-back (take k xs) (drop k xs) (subst (IsDistinct same) (sym (take-append-drop k xs)) distinct)

    distinct-passed : (p : X → Bool) (xs : List X) → IsDistinct same xs → IsDistinct same (filter p xs)
    unfolding IsDistinct
    distinct-passed p [] distinct = tt
    distinct-passed p (x ∷ xs) distinct =
        elim (p x) as (λ b. IsDistinct same (cond b (x ∷ filter p xs) (filter p xs))) [
          | true ↦ (all-passed (λ y. same x y ≡ false) p xs distinct.0, distinct-passed p xs distinct.1)
          | false ↦ distinct-passed p xs distinct.1
        ]

same_laws : IsEquivalence is_same
same_laws = decided is_same mount_decides

-- of mounts that differ, none behind one is the same
module _ (m : MountBody) where
  none-alike : (xs : List MountBody) → AllByRecursion (λ y. is_same m y ≡ false) xs → is_mounted xs m ≡ false
  none-alike [] all = refl
  none-alike (y ∷ xs) all = λ i. (same_laws.symm y m ∙ all.0) i || none-alike xs all.1 i

  apart-from : (front rest : List MountBody) → AreDistinct (front ++ rest) → is_mounted front m ≡ true →
      is_mounted rest m ≡ false
  apart-from [] rest distinct there = absurd (true≢false (sym there))
  apart-from (x ∷ front) rest distinct there =
      by (is_same x m) refl (apart-from front rest (IsDistinct-tail is_same x (front ++ rest) distinct))
    where
      by : (b : Bool) → is_same x m ≡ b → (is_mounted front m ≡ true → is_mounted rest m ≡ false) →
          is_mounted rest m ≡ false
      by true is later =
          none-alike rest (subst (λ (z : MountBody). AllByRecursion (λ y. is_same z y ≡ false) rest)
          ((mount_decides x m).0 is) (all-back (λ y. is_same x y ≡ false) front rest
          (IsDistinct-head is_same x (front ++ rest) distinct)))
      by false is later = later (ap (λ b. b || is_mounted front m) (sym is) ∙ there)

  -- so what is there and not among the first is behind them
  pub behind-front : (k : ℕ) (xs : List MountBody) → AreDistinct xs →
      (is_mounted xs m && not (is_mounted (take k xs) m)) ≡ is_mounted (drop k xs) m
  behind-front k xs distinct = by (is_mounted (take k xs) m) refl
    where
      either : is_mounted xs m ≡ (is_mounted (take k xs) m || is_mounted (drop k xs) m)
      either =
          ap (λ l. is_mounted l m) (sym (take-append-drop k xs))
          ∙ list_any-append (is_of m.hostname m.directory) (take k xs) (drop k xs)

      by : (b : Bool) → is_mounted (take k xs) m ≡ b →
          (is_mounted xs m && not (is_mounted (take k xs) m)) ≡ is_mounted (drop k xs) m
      by true is =
          (λ i. either i && not (is_mounted (take k xs) m))
          ∙ (λ i. (is i || is_mounted (drop k xs) m) && not (is i))
          ∙ sym (apart-from (take k xs) (drop k xs)
          (subst AreDistinct (sym (take-append-drop k xs)) distinct) is)
      by false is =
          (λ i. either i && not (is_mounted (take k xs) m))
          ∙ (λ i. (is i || is_mounted (drop k xs) m) && not (is i))
          ∙ and-true (is_mounted (drop k xs) m)

-- one more, which was not there
distinct-more : (mounts : List MountBody) (m : MountBody) → AreDistinct mounts → is_mounted mounts m ≡ false →
    AreDistinct (mounts ++ m ∷ [])
distinct-more mounts m distinct absent = IsDistinct-push same_laws mounts m distinct (any-turned m mounts ∙ absent)

-- one that was not there goes last
pub pushed-behind : (old copy new : List MountBody) (m : MountBody) → copy ≡ old → is_mounted old m ≡ false →
    new ≡ insert_key same_mount copy m → new ≡ old ++ m ∷ []
pushed-behind old copy new m same absent made =
    made ∙ ap (λ l. insert_key same_mount l m) same
    ∙ ap (λ b. cond b old (old ++ m ∷ [])) (any-turned m old ∙ absent)

-- others that were not there go last
pub joined-behind : (old copy others more new : List MountBody) → copy ≡ old → others ≡ more →
    AreDistinct (old ++ more) → new ≡ insert_all
    (λ (a b : MountBody). pointwise nat_eq a.hostname b.hostname && pointwise nat_eq a.directory b.directory)
    copy others → new ≡ old ++ more
joined-behind old copy others more new same same_others distinct made =
    made
    ∙ (λ i. insert_all
    (λ (a b : MountBody). pointwise nat_eq a.hostname b.hostname && pointwise nat_eq a.directory b.directory)
    (same i) (same_others i))
    ∙ set_all_distinct same_laws old more distinct

-- ---- pieces
module _ {X : Type 0} where
  pub joined-append : (a b : List (List X)) → joined (a ++ b) ≡ joined a ++ joined b
  joined-append a b = flat_map-append (λ piece. piece) a b

  pub joined-last : (front : List (List X)) (last : List X) → joined (front ++ last ∷ []) ≡ joined front ++ last
  joined-last front last = joined-append front (last ∷ []) ∙ ap (λ xs. joined front ++ xs) (append-nil last)

  -- one more piece, which doesn't fit into the last
  packed-more : (n : ℕ) (front : List (List X)) (last piece : List X) → ArePacked n (front ++ last ∷ []) →
      0 < length piece → 256 < length last + length piece → ArePacked n ((front ++ last ∷ []) ++ piece ∷ [])
  packed-more n [] last piece packed some over = (packed.0, packed.1, (some, over, tt))
  packed-more n (x ∷ front) last piece packed some over =
      (packed.0, packed.1, packed-more (length x) front last piece packed.2 some over)

  -- a last piece that grew
  packed-grown : (n : ℕ) (front : List (List X)) (last piece : List X) → ArePacked n (front ++ last ∷ []) →
      length last ≤ length piece → ArePacked n (front ++ piece ∷ [])
  packed-grown n [] last piece packed grown =
      let some = packed.0 in
      let over = packed.1 in
      (omega (arith, some, grown), omega (arith, over, grown), tt)
  packed-grown n (x ∷ front) last piece packed grown =
      (packed.0, packed.1, packed-grown (length x) front last piece packed.2 grown)

  -- one piece
  packed-one : (piece : List X) → 0 < length piece → ArePacked 256 (piece ∷ [])
  packed-one piece some = (some, omega (arith, some), tt)

-- what does not fit into one piece is more
pub not-fit : (n : ℕ) → (n ≤ 256 → IsTrue false) → 256 < n
not-fit n more =
    let wide : n ≤ 256 → ⊥ = λ few. true≢false (sym (more few)) in
    omega (arith, wide)

-- pieces of which the last is joined to another, or gets it behind itself
module _ {A X : Type 0} (f : A → List X) (old front : List A) (last : A) (cut : old ≡ front ++ last ∷ []) where
  pieces-cut : map f old ≡ map f front ++ f last ∷ []
  pieces-cut = ap (map f) cut ∙ map-append f front (last ∷ [])

  joined-cut : joined (map f old) ≡ joined (map f front) ++ f last
  joined-cut = ap joined pieces-cut ∙ joined-last (map f front) (f last)

  behind-last : (piece : List X) → joined (map f old) ++ piece ≡ joined (map f front) ++ (f last ++ piece)
  behind-last piece =
      ap (λ xs. xs ++ piece) joined-cut ∙ append_assoc (joined (map f front)) (f last) piece

  pub last-apart : (same : X → X → Bool) (piece : List X) → IsDistinct same (joined (map f old) ++ piece) →
      IsDistinct same (f last ++ piece)
  last-apart same piece distinct =
      distinct-back same (joined (map f front)) (f last ++ piece)
      (subst (IsDistinct same) (behind-last piece) distinct)

  module _ (kept new : List A) (both : A) (piece : List X) (is : f both ≡ f last ++ piece) (wide : ℕ)
      (counted : wide ≡ length old) (less : kept ≡ take (wide - 1) old) (more : new ≡ kept ++ both ∷ []) where
    front-kept : kept ≡ front
    front-kept =
        let all : length old ≡ length front + 1 = ap length cut ∙ length-append front (last ∷ []) in
        let less_one : wide - 1 ≡ length front = omega (arith, counted, all) in
        less ∙ (λ i. take (less_one i) (cut i)) ∙ take-append_seam front (last ∷ [])

    pieces-grown : map f new ≡ map f front ++ (f last ++ piece) ∷ []
    pieces-grown =
        ap (map f) (more ∙ ap (λ xs. xs ++ both ∷ []) front-kept) ∙ map-append f front (both ∷ [])
        ∙ ap (λ x. map f front ++ x ∷ []) is

    pub grown-packed : (n : ℕ) → ArePacked n (map f old) → ArePacked n (map f new)
    grown-packed n packed =
        let wider : length (f last ++ piece) ≡ length (f last) + length piece = length-append (f last) piece in
        subst (ArePacked n) (sym pieces-grown) (packed-grown n (map f front) (f last) (f last ++ piece)
        (subst (ArePacked n) pieces-cut packed) (omega (arith, wider)))

  pub more-packed : (n : ℕ) (new : List A) (piece : A) → new ≡ old ++ piece ∷ [] → 0 < length (f piece) →
      256 < length (f last) + length (f piece) → ArePacked n (map f old) → ArePacked n (map f new)
  more-packed n new piece more some over packed =
      subst (ArePacked n) (sym (ap (map f) more ∙ map-append f old (piece ∷ [])
      ∙ ap (λ xs. xs ++ f piece ∷ []) pieces-cut))
      (packed-more n (map f front) (f last) (f piece) (subst (ArePacked n) pieces-cut packed) some over)

-- a piece behind none
pub first-packed : {A X : Type 0} (f : A → List X) (old new : List A) (piece : A) → length old ≡ 0 →
    new ≡ old ++ piece ∷ [] → 0 < length (f piece) → ArePacked 256 (map f new)
first-packed f old new piece none more some =
    subst (λ l. ArePacked 256 (map f l)) (sym (more ∙ ap (λ l. l ++ piece ∷ []) (nil_from_length old none)))
    (packed-one (f piece) some)

-- what comes behind those at the first places
module _ {A X : Type 0} (f : A → List X) (pieces : List A) (i : ℕ) (piece : A) (within : i < length pieces)
    (at : piece ≡ get_or pieces i piece) where
  next-joined : joined (map f (take (i + 1) pieces)) ≡ joined (map f (take i pieces)) ++ f piece
  next-joined =
      ap joined (map_more f pieces i piece within ∙ ap (λ x. map f (take i pieces) ++ f x ∷ []) (sym at))
      ∙ joined-last (map f (take i pieces)) (f piece)

  all-joined : joined (map f pieces)
      ≡ (joined (map f (take i pieces)) ++ f piece) ++ joined (map f (drop (i + 1) pieces))
  all-joined =
      ap (λ l. joined (map f l)) (sym (take-append-drop (i + 1) pieces))
      ∙ ap joined (map-append f (take (i + 1) pieces) (drop (i + 1) pieces))
      ∙ joined-append (map f (take (i + 1) pieces)) (map f (drop (i + 1) pieces))
      ∙ ap (λ xs. xs ++ joined (map f (drop (i + 1) pieces))) next-joined

  -- all these, of which those at the first places were added
  module _ (start added : List X) (done : added ≡ start ++ joined (map f (take i pieces))) where
    next-done : added ++ f piece ≡ start ++ (joined (map f (take i pieces)) ++ f piece)
    next-done = ap (λ xs. xs ++ f piece) done ∙ append_assoc start (joined (map f (take i pieces))) (f piece)

    pub next-apart : (same : X → X → Bool) → IsDistinct same (start ++ joined (map f pieces)) →
        IsDistinct same (added ++ f piece)
    next-apart same distinct =
        let seen = joined (map f (take i pieces)) ++ f piece in
        let left = joined (map f (drop (i + 1) pieces)) in
        let all : start ++ joined (map f pieces) ≡ (added ++ f piece) ++ left =
        ap (λ xs. start ++ xs) all-joined ∙ sym (append_assoc start seen left)
        ∙ ap (λ xs. xs ++ left) (sym next-done) in
        distinct-front same (added ++ f piece) left (subst (IsDistinct same) all distinct)

-- no mount
pub held-none : AreInPieces [] 0
unfolding IsDistinct
held-none = record { counted = refl; bounded = omega arith; packed = tt; distinct = tt }

-- so many as there are
pub held-counted : (pieces : List (List MountBody)) (count : ℕ) → AreInPieces pieces count →
    AreInPieces pieces (length (joined pieces))
held-counted pieces count held = subst (AreInPieces pieces) held.counted held

-- the first ones are of the first piece, which keeps the others
module _ {X : Type 0} (first : List X) (others : List (List X)) (count : ℕ) (within : count ≤ length first) where
  pub others-kept : drop count first ++ joined others ≡ drop count (joined (first ∷ others))
  others-kept = sym (drop-append-le count first (joined others) within)

  pub only-first : take count (joined (first ∷ others)) ≡ take count first
  only-first = take-append-le count first (joined others) within

pub others-apart : (first : List MountBody) (others : List (List MountBody)) (count : ℕ) → count ≤ length first →
    AreDistinct (joined (first ∷ others)) → AreDistinct (drop count first ++ joined others)
others-apart first others count within distinct =
    subst AreDistinct (sym (others-kept first others count within))
    (distinct-behind is_same count (joined (first ∷ others)) distinct)

pub first-apart : (first : List MountBody) (others : List (List MountBody)) (count : ℕ) →
    AreDistinct (joined (first ∷ others)) → AreDistinct (drop count first)
first-apart first others count distinct =
    distinct-behind is_same count first (distinct-front is_same first (joined others) distinct)

-- ---- tables
older-few : (gone : ℕ) (older : List (List MountBody)) → gone ≤ length (first_piece older) →
    gone ≤ length (joined older)
older-few gone [] within = within
older-few gone (piece ∷ older) within =
    let some : gone ≤ length piece = within in
    let long : length (joined (piece ∷ older)) ≡ length piece + length (joined older) =
    length-append piece (joined older) in
    omega (arith, some, long)

-- where mounts are in pieces, the first piece has one
first-some : (pieces : List (List MountBody)) → ArePacked 256 pieces → 0 < length (joined pieces) →
    1 ≤ length (first_piece pieces)
first-some [] packed some = let none : 0 < 0 = some in omega (arith, none)
first-some (piece ∷ pieces) packed some = let one : 0 < length piece = packed.0 in omega (arith, one)

module _ (older : List (List MountBody)) (gone : ℕ) (latest : List MountBody) (held : AreListed older gone latest) where
  pub gone-few : gone ≤ length (joined older)
  gone-few = older-few gone older held.within

  pub listed-count : length (listed older gone latest) ≡ length (joined older) - gone + length latest
  listed-count =
      length-append (drop gone (joined older)) latest
      ∙ ap (λ n. n + length latest) (length-drop gone (joined older))

  -- a mount is in a table where it is behind those that are gone, or among the latest
  pub in-table : (m : MountBody) →
      (is_mounted (drop gone (joined older)) m || is_mounted latest m) ≡ is_mounted (listed older gone latest) m
  in-table m = sym (list_any-append (is_of m.hostname m.directory) (drop gone (joined older)) latest)

  -- one more of the latest
  module _ (m : MountBody) (absent : is_mounted (listed older gone latest) m ≡ false) where
    pub latest-lacks : is_mounted latest m ≡ false
    latest-lacks =
        (or_parts (is_mounted (drop gone (joined older)) m) (is_mounted latest m)
        (sym (list_any-append (is_of m.hostname m.directory) (drop gone (joined older)) latest) ∙ absent)).1

    pub one-later : listed older gone (latest ++ m ∷ []) ≡ listed older gone latest ++ m ∷ []
    one-later = sym (append_assoc (drop gone (joined older)) latest (m ∷ []))

    pub later-listed : length (listed older gone latest) < 65536 → AreListed older gone (latest ++ m ∷ [])
    later-listed room = record {
      within = held.within;
      bounded = (let long : length (listed older gone (latest ++ m ∷ [])) ≡ length (listed older gone latest) + 1 =
          ap length one-later ∙ length-append (listed older gone latest) (m ∷ []) in omega (arith, long, room));
      once = held.once;
      distinct = subst AreDistinct (sym one-later) (distinct-more (listed older gone latest) m held.distinct absent);
    }

  -- one more is gone
  module _ (more : gone < length (first_piece older)) where
    pub one-gone : listed older (gone + 1) latest ≡ drop 1 (listed older gone latest)
    one-gone =
        ap (λ xs. xs ++ latest) (sym (drop-drop 1 gone (joined older)))
        ∙ sym (drop-append-le 1 (drop gone (joined older)) latest
        (let few = older-few (gone + 1) older (omega (arith, more)) in
        let left = length-drop gone (joined older) in omega (arith, few, left)))

    pub gone-listed : AreListed older (gone + 1) latest
    gone-listed = record {
      within = omega (arith, more);
      bounded = (let left = ap length one-gone ∙ length-drop 1 (listed older gone latest) in
          let most = held.bounded in omega (arith, left, most));
      once = held.once;
      distinct = subst AreDistinct (sym one-gone) (distinct-behind is_same 1 (listed older gone latest) held.distinct);
    }

  -- all in pieces
  module _ (kept : List (List MountBody)) (are : joined kept ≡ drop gone (joined older)) where
    pub latest-apart : AreDistinct (joined kept ++ latest)
    latest-apart = subst AreDistinct (ap (λ xs. xs ++ latest) (sym are)) held.distinct

    pub all-held : (new : List (List MountBody)) → joined new ≡ joined kept ++ latest → ArePacked 256 new →
        (count : ℕ) → count ≡ length (listed older gone latest) → AreInPieces new count
    all-held new made packed count counted =
        let all : joined new ≡ listed older gone latest = made ∙ ap (λ xs. xs ++ latest) are in
        record {
          counted = counted ∙ ap length (sym all);
          bounded = (let most = held.bounded in omega (arith, counted, most));
          packed = packed;
          distinct = subst AreDistinct (sym all) held.distinct;
        }

-- tables whose pieces have what another table has
module _ (mounts : List MountBody) (bounded : length mounts ≤ 65536) (distinct : AreDistinct mounts)
    (pieces : List (List MountBody)) (are : joined pieces ≡ mounts) where
  pub pieces-listed : AreListed pieces 0 []
  pieces-listed =
      let all : listed pieces 0 [] ≡ mounts = append-nil (joined pieces) ∙ are in
      record {
        within = omega arith;
        bounded = (let long = ap length all in omega (arith, long, bounded));
        once = subst AreDistinct (sym are) distinct;
        distinct = subst AreDistinct (sym all) distinct;
      }

  pub with-one : (m : MountBody) → is_mounted mounts m ≡ false → length mounts < 65536 →
      AreListed pieces 0 (m ∷ [])
  with-one m absent room =
      let all : listed pieces 0 (m ∷ []) ≡ mounts ++ m ∷ [] = ap (λ xs. xs ++ m ∷ []) are in
      record {
        within = omega arith;
        bounded = (let long : length (listed pieces 0 (m ∷ [])) ≡ length mounts + 1 =
            ap length all ∙ length-append mounts (m ∷ []) in omega (arith, long, room));
        once = subst AreDistinct (sym are) distinct;
        distinct = subst AreDistinct (sym all) (distinct-more mounts m distinct absent);
      }

  pub first-dropped : listed pieces 1 [] ≡ drop 1 mounts
  first-dropped = append-nil (drop 1 (joined pieces)) ∙ ap (drop 1) are

  pub without-one : ArePacked 256 pieces → 0 < length mounts → AreListed pieces 1 []
  without-one packed some = record {
    within = first-some pieces packed (subst (λ xs. 0 < length xs) (sym are) some);
    bounded = (let left = ap length first-dropped ∙ length-drop 1 mounts in omega (arith, left, bounded));
    once = subst AreDistinct (sym are) distinct;
    distinct = subst AreDistinct (sym first-dropped) (distinct-behind is_same 1 mounts distinct);
  }

pub none-listed : AreListed [] 0 []
unfolding IsDistinct
none-listed = record {
  within = omega arith;
  bounded = (let none : 0 ≤ 65536 = omega arith in none);
  once = tt;
  distinct = tt;
}

-- ---- what passes a test
-- where no one passes, all are left without those that do
pub all-stay : {X : Type 0} (p : X → Bool) (xs : List X) → list_any p xs ≡ false →
    xs ≡ filter (λ x. not (p x)) xs
all-stay p [] none = refl
all-stay p (x ∷ xs) none =
    elim (p x) as
    (λ b. (b || list_any p xs) ≡ false → x ∷ xs ≡ cond (not b) (x ∷ filter (λ y. not (p y)) xs)
    (filter (λ y. not (p y)) xs)) [
      | true ↦ λ no. cc
      | false ↦ λ others. ap (λ ys. x ∷ ys) (all-stay p xs others)
    ] none

-- of the pieces that were seen, what passes is kept; so many are kept
pub record AreSifted {X : Type 0} (p : X → Bool) (seen kept : List (List X)) (count : ℕ) : Type 0 where
  pub same : joined kept ≡ filter p (joined seen)
  pub packed : ArePacked 256 kept
  pub counted : count ≡ length (joined kept)

module _ {X : Type 0} (p : X → Bool) where
  -- they are no more than were seen
  sifted-few : (seen kept : List (List X)) (count : ℕ) → AreSifted p seen kept count →
      count ≤ length (joined seen)
  sifted-few seen kept count sifted = omega (
    arith,
    sifted.counted,
    ap length sifted.same,
    length-filter p (joined seen),
    count_by-le-length p (joined seen),
  )

-- the same of the pieces at the first places
module _ {A X : Type 0} (f : A → List X) (p : X → Bool) (pieces : List A) where
  module _ (i : ℕ) (piece : A) (kept : List (List X)) (count : ℕ) (rest : List X)
      (sifted : AreSifted p (map f (take i pieces)) kept count) (within : i < length pieces)
      (at : piece ≡ get_or pieces i piece) (passes : rest ≡ filter p (f piece)) where
    one-more-seen : joined kept ++ rest ≡ filter p (joined (map f (take i pieces)) ++ f piece)
    one-more-seen =
        (λ j. sifted.same j ++ passes j) ∙ sym (filter-append p (joined (map f (take i pieces))) (f piece))

    pub sifted-next : (new : List (List X)) → joined new ≡ joined kept ++ rest → ArePacked 256 new →
        AreSifted p (map f (take (i + 1) pieces)) new (count + length rest)
    sifted-next new made packed = record {
      same = made ∙ one-more-seen ∙ ap (filter p) (sym (next-joined f pieces i piece within at));
      packed = packed;
      counted =
          ap (λ n. n + length rest) sifted.counted ∙ sym (length-append (joined kept) rest) ∙ sym (ap length made);
    }

    -- where all differ, those that are kept differ from those that come
    pub sifted-apart : (same : X → X → Bool) → IsDistinct same (joined (map f pieces)) →
        IsDistinct same (joined kept ++ rest)
    sifted-apart same distinct =
        let seen = joined (map f (take i pieces)) ++ f piece in
        subst (IsDistinct same) (sym one-more-seen)
        (distinct-passed same p seen (distinct-front same seen (joined (map f (drop (i + 1) pieces)))
        (subst (IsDistinct same) (all-joined f pieces i piece within at) distinct)))

    -- there is room for the rest
    pub sifted-room : count + length rest ≤ length (joined (map f pieces))
    sifted-room = omega (
      arith,
      sifted-few p (map f (take i pieces)) kept count sifted,
      ap length passes,
      length-filter p (f piece),
      count_by-le-length p (f piece),
      length-flat_map-take f pieces i piece within,
      ap (λ x. length (f x)) at,
      ap length (flat_map-map (λ xs. xs) f (take i pieces)),
      ap length (flat_map-map (λ xs. xs) f pieces),
    )

  -- all were seen
  pub sifted-all : (i : ℕ) (kept : List (List X)) (count : ℕ) → length pieces ≤ i →
      AreSifted p (map f (take i pieces)) kept count → AreSifted p (map f pieces) kept count
  sifted-all i kept count all = subst (λ seen. AreSifted p (map f seen) kept count) (take_all i pieces all)

pub filter-few : (p : MountBody → Bool) (mounts : List MountBody) → length mounts ≤ 65536 →
    length (filter p mounts) ≤ 65536
filter-few p mounts most = omega (arith, length-filter p mounts, count_by-le-length p mounts, most)

pub filter-distinct : (p : MountBody → Bool) (mounts : List MountBody) → AreDistinct mounts →
    AreDistinct (filter p mounts)
filter-distinct p mounts distinct = distinct-passed is_same p mounts distinct

pub sifted-pieces : (p : MountBody → Bool) (pieces kept : List (List MountBody)) (count was : ℕ) →
    AreSifted p pieces kept count → AreInPieces pieces was → AreInPieces kept count
sifted-pieces p pieces kept count was sifted held = record {
  counted = sifted.counted;
  bounded = omega (arith, sifted-few p pieces kept count sifted, held.counted, held.bounded);
  packed = sifted.packed;
  distinct = subst AreDistinct (sym sifted.same)
      (distinct-passed is_same p (joined pieces) held.distinct);
}
