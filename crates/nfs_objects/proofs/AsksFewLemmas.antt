-- A call asks for few addresses where nothing stands: each of them is one that it names, and is asked for once.
use Rattle.std.proofs.Common.{◌≡◌, ℕ, zero, suc, ◌+◌, ◌*◌, ◌/◌, ◌<◌, ◌≤◌, true, false, Bool, cond}
use Rattle.std.proofs.Common.{◌||◌, ◌==◌, List, []}
use Rattle.std.proofs.Common.{◌∷◌, ◌++◌, length, map, Option, Some, None, IsSome, is_some, inl, inr}
use Rattle.std.proofs.Common.{length-append, option_map, refl, sym, ◌∙◌, ap, subst, arith}
use Rattle.std.proofs.lemmas.List.{append-nil, append_assoc, length-map, map-append}
use Rattle.std.proofs.lemmas.List.Sums.{count_by-le-length, sum_by-append, sum_by-cons, sum_by_push}
use Rattle.std.specs.Int.{from_be_bytes, w64}
use Rattle.std.specs.List.{AllByRecursion, count_by}
use Rattle.std.specs.Option.{is_none}
use Rattle.nfs_wire.specs.declared.calls.NfsCall.{NfsCall}
use Rattle.nfs_wire.specs.declared.calls.NfsCall.TheVariants as nfs
use Rattle.nfs_wire.specs.declared.calls.DirOp.{DirOp}
use Rattle.side_wire.specs.declared.nlm.NlmCall.{NlmCall}
use Rattle.side_wire.specs.declared.nlm.NlmCall.TheVariants as nlm
use Rattle.nfs_machine.specs.Handles.{handle_of}
use Rattle.nfs_machine.specs.WellFormed.{WellFormed}
use Rattle.nfs_machine.specs.declared.calls.Call.{Call}
use Rattle.nfs_machine.specs.declared.calls.Call.TheVariants as calls
use Rattle.nfs_machine.specs.declared.context.Ctx.{Ctx}
use Rattle.nfs_machine.specs.declared.handle.Handle.{Handle}
use Rattle.nfs_machine.proofs.ModesLemmas.{all-joined}
use Rattle.nfs_objects.proofs.KnowsLemmas.{among-behind, among-either, among-front}
use Rattle.nfs_objects.proofs.SeenLemmas.{all-map, is_addr-refl, seen-before, some-shown}
use Rattle.nfs_objects.specs.Asks.{EachOnce, MayAsk}
use Rattle.nfs_objects.specs.Attempt.{Attempts}
use Rattle.nfs_objects.specs.Bound.{AsksFew, Given, Gives, Grows, NamesFew, NamesStay, Read, Round, WasAsked}
use Rattle.nfs_objects.specs.Bound.{asked_count}
use Rattle.nfs_objects.specs.Bound.{empty_count, held, view_after, with_round}
use Rattle.nfs_objects.specs.Calls.{IsAmong, added_by, addresses_of, blocks_at, blocks_from, data_of, in_file, made_by}
use Rattle.nfs_wire.specs.Handles.{nfs_handles}
use Rattle.side_wire.specs.Handles.{nlm_handles}
use Rattle.nfs_objects.specs.Calls.{maps_at, named_by, new_numbers, objects_at, places_for}
use Rattle.nfs_objects.specs.Calls.{buckets_below, locks_at, locks_lost, locks_named, locks_of, locks_under, usages_of}
use Rattle.std.proofs.Common.{take, min}
use Rattle.nfs_machine.specs.Exports.{ExportValue}
use Rattle.nfs_machine.specs.Replacing.{is_exhausted, new_count}
use Rattle.nfs_objects.specs.Calls.{exports_shown, root_usages, roots_for, roots_named, roots_wanted}
use Rattle.nfs_objects.specs.ExportTables.{ExportTableValue}
use Rattle.nfs_objects.specs.Stands.{export_table_of}
use Rattle.nfs_objects.specs.Fits.{Fits, vacant}
use Rattle.nfs_objects.specs.Modes.{led_at, modes_of, number_at, number_in, part_address}
use Rattle.nfs_objects.specs.Sound.{Sound}
use Rattle.nfs_objects.specs.Stands.{StoreMeaning, Represents, header_of}
use Rattle.nfs_objects.specs.Store.{Store}
use Rattle.nfs_objects.specs.Values.{Seen, ViewValue, is_addr, seen_at, shown_at}
use Rattle.nfs_objects.specs.declared.address.Addr.{Addr}
use Rattle.nfs_objects.specs.declared.address.Addr.TheVariants as addresses
use Rattle.nfs_objects.specs.declared.directory.Directory.{Directory}
use Rattle.nfs_objects.specs.declared.change.Outcome.{Outcome}
use Rattle.nfs_objects.specs.declared.change.Outcome.TheVariants.{Need, Fresh, Done}
use Rattle.nfs_objects.specs.declared.modes.Mode.{Mode}
use Rattle.nfs_objects.specs.declared.object.Object.{Object}
use Rattle.nfs_objects.specs.declared.view.Reserved.{Reserved}

-- ---- lists
all-two : {X : Type 0} (P Q R : X → Type 0) → ((x : X) → P x → Q x → R x) → (xs : List X) →
    AllByRecursion P xs → AllByRecursion Q xs → AllByRecursion R xs
all-two P Q R f [] p q = tt
all-two P Q R f (x ∷ xs) p q = (f x p.0 q.0, all-two P Q R f xs p.1 q.1)

all-front : {X : Type 0} (P : X → Type 0) (xs ys : List X) → AllByRecursion P (xs ++ ys) → AllByRecursion P xs
all-front P [] ys all = tt
all-front P (x ∷ xs) ys all = (all.0, all-front P xs ys all.1)

-- ---- counts
one-more : (a b : Bool) → (a ≡ true → b ≡ true) → cond {A = ℕ} a 1 0 ≤ cond {A = ℕ} b 1 0
one-more true b f = subst (λ c. 1 ≤ cond {A = ℕ} c 1 0) (sym (f refl)) (omega arith)
one-more false b f = omega arith

at-most : (a : Bool) → cond {A = ℕ} a 1 0 ≤ 1
at-most true = omega arith
at-most false = omega arith

count-cons : {X : Type 0} (p : X → Bool) (x : X) (xs : List X) →
    count_by p (x ∷ xs) ≡ cond {A = ℕ} (p x) 1 0 + count_by p xs
count-cons p x xs = sum_by-cons (λ y. cond {A = ℕ} (p y) 1 0) x xs

count-more : {X : Type 0} (p q : X → Bool) → ((x : X) → p x ≡ true → q x ≡ true) → (xs : List X) →
    count_by p xs ≤ count_by q xs
count-more p q f [] = omega arith
count-more p q f (x ∷ xs) = omega (
  arith,
  count-more p q f xs,
  one-more (p x) (q x) (f x),
  count-cons p x xs,
  count-cons q x xs,
)

-- one of the named passes that did not
count-gain : (p q : Addr → Bool) → ((x : Addr) → p x ≡ true → q x ≡ true) → (a : Addr) →
    p a ≡ false → q a ≡ true
    → (named : List Addr) → IsAmong named a → count_by p named + 1 ≤ count_by q named
count-gain p q f a none passes [] among = absurd among
count-gain p q f a none passes (b ∷ named) (inl same) =
    let no : cond {A = ℕ} (p b) 1 0 ≡ 0 = ap (λ c. cond {A = ℕ} c 1 0) (ap p same ∙ none) in
    let yes : cond {A = ℕ} (q b) 1 0 ≡ 1 = ap (λ c. cond {A = ℕ} c 1 0) (ap q same ∙ passes) in
    omega (arith, no, yes, count-more p q f named, count-cons p b named, count-cons q b named)
count-gain p q f a none passes (b ∷ named) (inr among) =
    omega (
      arith,
      count-gain p q f a none passes named among,
      one-more (p b) (q b) (f b),
      count-cons p b named,
      count-cons q b named,
    )

-- ---- which addresses are among those seen or asked for
abbrev is_in : List (Addr × Mode) → Addr → Bool
is_in [] a = false
is_in (x ∷ xs) a = is_addr x.0 a || is_in xs a

unseen-out : (es : List Seen) (a : Addr) → seen_at es a ≡ None → is_in (held es) a ≡ false
unseen-out [] a none = refl
unseen-out (e ∷ es) a none =
    elim (is_addr e.address a) as (λ b. cond b (Some e) (seen_at es a) ≡ None →
    (b || is_in (held es) a) ≡ false) [
      | true ↦ λ here. cc
      | false ↦ λ there. unseen-out es a there
    ] none

in-append : (xs : List (Addr × Mode)) (y : Addr × Mode) (a : Addr) →
    is_in (xs ++ y ∷ []) a ≡ (is_in xs a || is_addr y.0 a)
in-append [] y a = elim (is_addr y.0 a) as (λ t. (t || false) ≡ t) [ true ↦ refl | false ↦ refl ]
in-append (x ∷ xs) y a =
    elim (is_addr x.0 a) as (λ t. (t || is_in (xs ++ y ∷ []) a) ≡ ((t || is_in xs a) || is_addr y.0 a)) [
      | true ↦ refl
      | false ↦ in-append xs y a
    ]

in-more : (xs : List (Addr × Mode)) (y : Addr × Mode) (a : Addr) → is_in xs a ≡ true →
    is_in (xs ++ y ∷ []) a ≡ true
in-more xs y a is = in-append xs y a ∙ ap (λ b. b || is_addr y.0 a) is

in-last : (xs : List (Addr × Mode)) (y : Addr × Mode) → is_in (xs ++ y ∷ []) y.0 ≡ true
in-last xs y =
    in-append xs y y.0 ∙ ap (λ b. is_in xs y.0 || b) (is_addr-refl y.0)
    ∙ elim (is_in xs y.0) as (λ b. (b || true) ≡ true) [ true ↦ refl | false ↦ refl ]

module _ (s : Store) (named : List Addr) where
  -- what holds nothing is named, but for so many
  abbrev Within : List (Addr × Mode) → ℕ → Type 0
  Within xs others = empty_count s xs ≤ count_by (is_in xs) named + others

  -- it is new, and named if it holds nothing
  abbrev IsNew : List (Addr × Mode) → Addr × Mode → Type 0
  IsNew xs y = (is_in xs y.0 ≡ false) × (s.at y.0 ≡ None → IsAmong named y.0)

  empty-push : (xs : List (Addr × Mode)) (y : Addr × Mode) → empty_count s
      (xs ++ y ∷ []) ≡ empty_count s xs + cond {A = ℕ} (is_none (s.at y.0)) 1 0
  empty-push xs y = sum_by_push (λ (a : Addr × Mode). cond {A = ℕ} (is_none (s.at a.0)) 1 0) xs y

  within-one : (xs : List (Addr × Mode)) (y : Addr × Mode) (others : ℕ) → Within xs others → IsNew xs y →
      Within (xs ++ y ∷ []) others
  within-one xs y others within new =
      elim (s.at y.0) as (λ (o : Option Object). s.at y.0 ≡ o → Within (xs ++ y ∷ []) others) [
        | None ↦ λ e.
            let one : cond {A = ℕ} (is_none (s.at y.0)) 1 0 ≡ 1 =
            ap (λ (o : Option Object). cond {A = ℕ} (is_none o) 1 0) e in
            omega (
              arith,
              within,
              one,
              empty-push xs y,
              count-gain (is_in xs) (is_in (xs ++ y ∷ [])) (in-more xs y) y.0 new.0 (in-last xs y) named (new.1 e),
            )
        | Some x ↦ λ e.
            let none : cond {A = ℕ} (is_none (s.at y.0)) 1 0 ≡ 0 =
            ap (λ (o : Option Object). cond {A = ℕ} (is_none o) 1 0) e in
            omega (
              arith,
              within,
              none,
              empty-push xs y,
              count-more (is_in xs) (is_in (xs ++ y ∷ []))
                  (in-more xs y) named,
            )
      ] refl

  -- one more of the others
  within-other : (xs : List (Addr × Mode)) (y : Addr × Mode) (others : ℕ) → Within xs others →
      Within (xs ++ y ∷ []) (others + 1)
  within-other xs y others within =
      omega (
        arith,
        within,
        empty-push xs y,
        at-most (is_none (s.at y.0)),
        count-more (is_in xs) (is_in (xs ++ y ∷ [])) (in-more xs y) named,
      )

  -- so many more of the others
  within-others : (xs ys : List (Addr × Mode)) (others : ℕ) → Within xs others →
      Within (xs ++ ys) (others + length ys)
  within-others xs [] others within =
      subst (λ (l : List (Addr × Mode)). Within l (others + 0)) (sym (append-nil xs)) (omega (arith, within))
  within-others xs (y ∷ ys) others within =
      let rest = within-others (xs ++ y ∷ []) ys (others + 1) (within-other xs y others within) in
      subst (λ (l : List (Addr × Mode)). Within l (others + length (y ∷ ys))) (append_assoc xs (y ∷ []) ys)
      (omega (arith, rest))

  new-still : (xs : List (Addr × Mode)) (y z : Addr × Mode) → IsNew xs z → is_addr y.0 z.0 ≡ false →
      IsNew (xs ++ y ∷ []) z
  new-still xs y z new other = (in-append xs y z.0 ∙ ap (λ b. b || is_addr y.0 z.0) new.0 ∙ other, new.1)

  within-many : (xs ys : List (Addr × Mode)) (others : ℕ) → Within xs others → AllByRecursion (IsNew xs) ys →
      EachOnce ys → Within (xs ++ ys) others
  within-many xs [] others within new once = subst (λ (l : List (Addr × Mode)). Within l others)
      (sym (append-nil xs)) within
  within-many xs (y ∷ ys) others within new once =
      subst (λ (l : List (Addr × Mode)). Within l others) (append_assoc xs (y ∷ []) ys)
      (within-many (xs ++ y ∷ []) ys others (within-one xs y others within new.0)
      (all-two (IsNew xs) (λ (z : Addr × Mode). is_addr y.0 z.0 ≡ false) (IsNew (xs ++ y ∷ []))
      (λ z n o. new-still xs y z n o) ys new.1 once.0) once.1)

-- ---- the view before
some-before : (xs ys : List Seen) (a : Addr) → IsSome (seen_at xs a) → IsSome (seen_at (xs ++ ys) a)
some-before [] ys a some = cc
some-before (e ∷ es) ys a some =
    elim (is_addr e.address a) as (λ b. IsSome (cond b (Some e) (seen_at es a)) →
    IsSome (cond b (Some e) (seen_at (es ++ ys) a))) [
      | true ↦ λ here. refl
      | false ↦ λ there. some-before es ys a there
    ] some

some-behind : (xs ys : List Seen) (a : Addr) → IsSome (seen_at ys a) → IsSome (seen_at (xs ++ ys) a)
some-behind [] ys a some = some
some-behind (e ∷ es) ys a some =
    elim (is_addr e.address a) as (λ b. IsSome (cond b (Some e) (seen_at (es ++ ys) a))) [
      | true ↦ refl
      | false ↦ some-behind es ys a some
    ]

-- what is seen in a larger view was seen so, if it was
seen-front : (xs ys : List Seen) (a : Addr) (x : Seen) → IsSome (seen_at xs a) →
    seen_at (xs ++ ys) a ≡ Some x → seen_at xs a ≡ Some x
seen-front [] ys a x some seen = cc
seen-front (e ∷ es) ys a x some seen =
    elim (is_addr e.address a) as (λ b. IsSome (cond b (Some e) (seen_at es a)) →
    cond b (Some e) (seen_at (es ++ ys) a) ≡ Some x → cond b (Some e) (seen_at es a) ≡ Some x) [
      | true ↦ λ here is. is
      | false ↦ λ there is. seen-front es ys a x there is
    ] some seen

-- each number that may be given has an entry
abbrev pub HasEntry : List Seen → Reserved → Type 0
HasEntry entries r = IsSome (seen_at entries (addresses.Inode r.number))

more-entries : (entries more : List Seen) (reserved : List Reserved) → AllByRecursion (HasEntry entries) reserved →
    AllByRecursion (HasEntry (entries ++ more)) reserved
more-entries entries more reserved all =
    all-map (HasEntry entries) (HasEntry (entries ++ more))
    (λ r some. some-before entries more (addresses.Inode r.number) some) reserved all

-- each of these numbers has its vacant entry
have-vacant : (numbers : List Reserved) → AllByRecursion (HasEntry (map vacant numbers)) numbers
have-vacant [] = tt
have-vacant (r ∷ numbers) = (
  ap (λ b. is_some (cond b (Some (vacant r)) (seen_at (map vacant numbers) (addresses.Inode r.number))))
      (is_addr-refl (addresses.Inode r.number)),
  all-map (HasEntry (map vacant numbers)) (HasEntry (vacant r ∷ map vacant numbers))
      (λ q some. some-behind (vacant r ∷ []) (map vacant numbers) (addresses.Inode q.number) some) numbers
      (have-vacant numbers),
)

pub have-entries : (rounds : List Round) → AllByRecursion (HasEntry (view_after rounds).entries)
    (view_after rounds).reserved
have-entries [] = tt
have-entries (Read entries ∷ earlier) = more-entries (view_after earlier).entries entries
    (view_after earlier).reserved (have-entries earlier)
have-entries (Given numbers ∷ earlier) =
    let entries = (view_after earlier).entries in
    let reserved = (view_after earlier).reserved in
    all-joined (HasEntry (entries ++ map vacant numbers)) reserved numbers
    (more-entries entries (map vacant numbers) reserved (have-entries earlier))
    (all-map (HasEntry (map vacant numbers)) (HasEntry (entries ++ map vacant numbers))
    (λ r some. some-behind entries (map vacant numbers) (addresses.Inode r.number) some) numbers
    (have-vacant numbers))

-- the number may be given in this store
abbrev MayBeGiven : Store → List Seen → Reserved → Type 0
MayBeGiven s entries r = (seen_at entries (addresses.Inode r.number) ≡ Some (vacant r)) ×
    (s.last r.number < r.generation)

fits-front : (s : Store) (entries more : List Seen) (reserved : List Reserved) →
    AllByRecursion (HasEntry entries) reserved
    → AllByRecursion (λ (e : Seen). s.at e.address ≡ e.object) (entries ++ more) →
    AllByRecursion (MayBeGiven s (entries ++ more)) reserved
    → Fits (record { entries = entries; reserved = reserved }) s
fits-front s entries more reserved have stand given = record {
  entries = all-front (λ (e : Seen). s.at e.address ≡ e.object) entries more stand;
  reserved =
      all-two (HasEntry entries) (MayBeGiven s (entries ++ more)) (MayBeGiven s entries)
      (λ r has may. (seen-front entries more (addresses.Inode r.number) (vacant r) has may.0, may.1)) reserved have
      given;
}

-- a store that the larger view fits fits the view before
pub fits-before : (s : Store) (v : ViewValue) (round : Round) → AllByRecursion (HasEntry v.entries) v.reserved →
    Fits (with_round v round) s → Fits v s
fits-before s v (Read entries) have fits = fits-front s v.entries entries v.reserved have fits.entries fits.reserved
fits-before s v (Given numbers) have fits =
    fits-front s v.entries (map vacant numbers) v.reserved have fits.entries
    (all-front (MayBeGiven s (v.entries ++ map vacant numbers)) v.reserved numbers fits.reserved)

-- ---- what a call names stays
-- what is shown is shown still with more entries
shown-before : (es more : List Seen) (a : Addr) (o : Option Object) → shown_at es a ≡ Some o →
    shown_at (es ++ more) a ≡ Some o
shown-before es more a o shown =
    let s = some-shown es a o shown in
    ap (option_map (λ (e : Seen). e.object)) (seen-before es more a s.0 s.1) ∙ ap Some s.2

-- where a name more goes in the directory that stands somewhere
abbrev places_of : (number : ℕ) → List ℕ → Option (Option Object) → List Addr
places_of n name o = elim (elim o as (λ (x : Option (Option Object)). Option Directory) [
  | None ↦ None
  | Some object ↦ header_of object
]) [ None ↦ [] | Some h ↦ places_for h.entries n name (suc h.last_cookie) ]

next-stay : (es more : List Seen) (n : ℕ) (name : List ℕ) (a : Addr) →
    IsAmong (places_of n name (shown_at es (addresses.Inode n))) a →
    IsAmong (places_of n name (shown_at (es ++ more) (addresses.Inode n))) a
next-stay es more n name a = by (shown_at es (addresses.Inode n)) refl
  where
    by : (o : Option (Option Object)) → shown_at es (addresses.Inode n) ≡ o →
        IsAmong (places_of n name (shown_at es (addresses.Inode n))) a →
        IsAmong (places_of n name (shown_at (es ++ more) (addresses.Inode n))) a
    by None is among = absurd (subst (λ x. IsAmong (places_of n name x) a) is among)
    by (Some o) is among =
        subst (λ x. IsAmong (places_of n name x) a) (sym (shown-before es more (addresses.Inode n) o is))
        (subst (λ x. IsAmong (places_of n name x) a) is among)

abbrev added_of : List Seen → DirOp → Option Handle → List Addr
added_of es place h =
    elim h [ None ↦ [] | Some x ↦ places_of x.fileid place.name (shown_at es (addresses.Inode x.fileid)) ]

place-stay : (es more : List Seen) (place : DirOp) (a : Addr)
    → IsAmong (added_of es place (handle_of place.directory)) a →
    IsAmong (added_of (es ++ more) place (handle_of place.directory)) a
place-stay es more place a =
    elim (handle_of place.directory) as (λ h. IsAmong (added_of es place h) a
    → IsAmong (added_of (es ++ more) place h) a)
    [ None ↦ λ among. among | Some h ↦ next-stay es more h.fileid place.name a ]

added-stay : (view : ViewValue) (more : List Seen) (numbers : List Reserved) (call : NfsCall) (a : Addr) →
    IsAmong (added_by view call) a
    → IsAmong (added_by (record { entries = view.entries ++ more; reserved = numbers }) call) a
added-stay view more numbers (nfs.Create x) a = place-stay view.entries more x.place a
added-stay view more numbers (nfs.Mkdir x) a = place-stay view.entries more x.place a
added-stay view more numbers (nfs.Symlink x) a = place-stay view.entries more x.place a
added-stay view more numbers (nfs.Mknod x) a = place-stay view.entries more x.place a
added-stay view more numbers (nfs.Rename x) a = place-stay view.entries more x.to a
added-stay view more numbers (nfs.Link x) a = place-stay view.entries more x.place a
added-stay view more numbers nfs.Null a = λ among. among
added-stay view more numbers (nfs.Getattr x) a = λ among. among
added-stay view more numbers (nfs.Setattr x) a = λ among. among
added-stay view more numbers (nfs.Lookup x) a = λ among. among
added-stay view more numbers (nfs.Access x) a = λ among. among
added-stay view more numbers (nfs.Readlink x) a = λ among. among
added-stay view more numbers (nfs.Read x) a = λ among. among
added-stay view more numbers (nfs.Write x) a = λ among. among
added-stay view more numbers (nfs.Remove x) a = λ among. among
added-stay view more numbers (nfs.Rmdir x) a = λ among. among
added-stay view more numbers (nfs.Readdir x) a = λ among. among
added-stay view more numbers (nfs.Readdirplus x) a = λ among. among
added-stay view more numbers (nfs.Fsstat x) a = λ among. among
added-stay view more numbers (nfs.Fsinfo x) a = λ among. among
added-stay view more numbers (nfs.Pathconf x) a = λ among. among
added-stay view more numbers (nfs.Commit x) a = λ among. among

-- what a name leads to is shown still
abbrev found_in : List ℕ → Option (Option Object) → Option ℕ
found_in name o =
    elim o as (λ (x : Option (Option Object)). Option ℕ) [ None ↦ None | Some object ↦ number_in object name ]

abbrev led_of : ViewValue → (number : ℕ) → List ℕ → Option (Option Object) → Option ℕ
led_of view n name o = elim o as (λ (x : Option (Option Object)). Option ℕ) [
  | None ↦ None
  | Some object ↦ number_at view (part_address n object name) name
]

number-stay : (view : ViewValue) (more : List Seen) (numbers : List Reserved) (p : Option Addr) (name : List ℕ)
    (number : ℕ) → number_at view p name ≡ Some number →
    number_at (record { entries = view.entries ++ more; reserved = numbers }) p name ≡ Some number
number-stay view more numbers None name number led = cc
number-stay view more numbers (Some a) name number led = by (shown_at view.entries a) refl
  where
    by : (o : Option (Option Object)) → shown_at view.entries a ≡ o →
        number_at (record { entries = view.entries ++ more; reserved = numbers }) (Some a) name ≡ Some number
    by None is = let none : None ≡ Some number = subst (λ x. found_in name x ≡ Some number) is led in cc
    by (Some o) is =
        subst (λ x. found_in name x ≡ Some number) (sym (shown-before view.entries more a o is))
        (subst (λ x. found_in name x ≡ Some number) is led)

led-stay : (view : ViewValue) (more : List Seen) (numbers : List Reserved) (n : ℕ) (name : List ℕ) (number : ℕ) →
    led_at view n name ≡ Some number →
    led_at (record { entries = view.entries ++ more; reserved = numbers }) n name ≡ Some number
led-stay view more numbers n name number led = by (shown_at view.entries (addresses.Inode n)) refl
  where
    later : ViewValue
    later = record { entries = view.entries ++ more; reserved = numbers }

    by : (o : Option (Option Object)) → shown_at view.entries (addresses.Inode n) ≡ o →
        led_at (record { entries = view.entries ++ more; reserved = numbers }) n name ≡ Some number
    by None is = let none : None ≡ Some number = subst (λ x. led_of view n name x ≡ Some number) is led in cc
    by (Some o) is =
        subst (λ x. led_of later n name x ≡ Some number) (sym (shown-before view.entries more (addresses.Inode n) o is))
        (number-stay view more numbers (part_address n o name) name number
        (subst (λ x. led_of view n name x ≡ Some number) is led))

abbrev locks_led : Option ℕ → List Addr
locks_led led = elim led as (λ (x : Option ℕ). List Addr) [ None ↦ [] | Some number ↦ locks_at number ]

abbrev under_of : ViewValue → DirOp → Option Handle → List Addr
under_of view place h =
    elim h as (λ (x : Option Handle). List Addr) [ None ↦ [] | Some x ↦ locks_led (led_at view x.fileid place.name) ]

bucket-stay : (view : ViewValue) (more : List Seen) (numbers : List Reserved) (n : ℕ) (name : List ℕ) (a : Addr) →
    IsAmong (locks_led (led_at view n name)) a →
    IsAmong (locks_led (led_at (record { entries = view.entries ++ more; reserved = numbers }) n name)) a
bucket-stay view more numbers n name a among = by (led_at view n name) refl
  where
    by : (led : Option ℕ) → led_at view n name ≡ led →
        IsAmong (locks_led (led_at (record { entries = view.entries ++ more; reserved = numbers }) n name)) a
    by None is = absurd (subst (λ x. IsAmong (locks_led x) a) is among)
    by (Some number) is =
        subst (λ x. IsAmong (locks_led x) a) (sym (led-stay view more numbers n name number is))
        (subst (λ x. IsAmong (locks_led x) a) is among)

under-stay : (view : ViewValue) (more : List Seen) (numbers : List Reserved) (place : DirOp) (a : Addr) →
    IsAmong (locks_under view place) a →
    IsAmong (locks_under (record { entries = view.entries ++ more; reserved = numbers }) place) a
under-stay view more numbers place a =
    elim (handle_of place.directory) as (λ h. IsAmong (under_of view place h) a →
    IsAmong (under_of (record { entries = view.entries ++ more; reserved = numbers }) place h) a)
    [ None ↦ λ among. among | Some h ↦ bucket-stay view more numbers h.fileid place.name a ]

lost-stay : (view : ViewValue) (more : List Seen) (numbers : List Reserved) (call : NfsCall) (a : Addr) →
    IsAmong (locks_lost view call) a →
    IsAmong (locks_lost (record { entries = view.entries ++ more; reserved = numbers }) call) a
lost-stay view more numbers nfs.Null a = λ among. among
lost-stay view more numbers (nfs.Getattr x) a = λ among. among
lost-stay view more numbers (nfs.Setattr x) a = λ among. among
lost-stay view more numbers (nfs.Lookup x) a = λ among. among
lost-stay view more numbers (nfs.Access x) a = λ among. among
lost-stay view more numbers (nfs.Readlink x) a = λ among. among
lost-stay view more numbers (nfs.Read x) a = λ among. among
lost-stay view more numbers (nfs.Write x) a = λ among. among
lost-stay view more numbers (nfs.Create x) a = λ among. among
lost-stay view more numbers (nfs.Mkdir x) a = λ among. among
lost-stay view more numbers (nfs.Symlink x) a = λ among. among
lost-stay view more numbers (nfs.Mknod x) a = λ among. among
lost-stay view more numbers (nfs.Remove x) a = under-stay view more numbers x a
lost-stay view more numbers (nfs.Rmdir x) a = under-stay view more numbers x a
lost-stay view more numbers (nfs.Rename x) a = under-stay view more numbers x.to a
lost-stay view more numbers (nfs.Link x) a = λ among. among
lost-stay view more numbers (nfs.Readdir x) a = λ among. among
lost-stay view more numbers (nfs.Readdirplus x) a = λ among. among
lost-stay view more numbers (nfs.Fsstat x) a = λ among. among
lost-stay view more numbers (nfs.Fsinfo x) a = λ among. among
lost-stay view more numbers (nfs.Pathconf x) a = λ among. among
lost-stay view more numbers (nfs.Commit x) a = λ among. among

-- what is among the last ones of a list is so where these have more
among-more : (xs ys zs : List Addr) (a : Addr) → (IsAmong ys a → IsAmong zs a) → IsAmong (xs ++ ys) a →
    IsAmong (xs ++ zs) a
among-more [] ys zs a f among = f among
among-more (x ∷ xs) ys zs a f (inl same) = inl same
among-more (x ∷ xs) ys zs a f (inr rest) = inr (among-more xs ys zs a f rest)

-- and among two lists where both have more
among-both : (xs ys vs ws : List Addr) (a : Addr) → (IsAmong xs a → IsAmong vs a) → (IsAmong ys a → IsAmong ws a) →
    IsAmong (xs ++ ys) a → IsAmong (vs ++ ws) a
among-both xs ys vs ws a f g among =
    elim (among-either xs ys a among) [ inl x ↦ among-front vs ws a (f x) | inr y ↦ among-behind vs ws a (g y) ]

named-stay : (view : ViewValue) (more : List Seen) (numbers : List Reserved) (call : NfsCall) (a : Addr) →
    IsAmong (named_by (calls.Nfs call) view) a →
    IsAmong (named_by (calls.Nfs call) (record { entries = view.entries ++ more; reserved = numbers })) a
named-stay view more numbers call a =
    among-more (addresses.Exports ∷ objects_at view (nfs_handles call))
    (data_of call ++ (added_by view call ++ locks_lost view call))
    (data_of call ++ (added_by later call ++ locks_lost later call)) a
    (among-more (data_of call) (added_by view call ++ locks_lost view call)
    (added_by later call ++ locks_lost later call) a
    (among-both (added_by view call) (locks_lost view call) (added_by later call) (locks_lost later call) a
    (added-stay view more numbers call a) (lost-stay view more numbers call a)))
  where
    later : ViewValue
    later = record { entries = view.entries ++ more; reserved = numbers }

-- ---- other exports
-- the groups of the first roots are named still where more are given
usages-stay : (last count : ℕ) (rs more : List Reserved) (a : Addr) → IsAmong (root_usages last (take count rs)) a →
    IsAmong (root_usages last (take count (rs ++ more))) a
usages-stay last zero rs more a among = among
usages-stay last (suc count) [] more a among = absurd among
usages-stay last (suc count) (r ∷ rs) more a (inl same) = inl same
usages-stay last (suc count) (r ∷ rs) more a (inr rest) = inr (usages-stay (suc last) count rs more a rest)

-- what a view shows of the exports it shows still
pub exports-before : (view : ViewValue) (more : List Seen) (numbers : List Reserved) (table : ExportTableValue) →
    exports_shown view ≡ Some table → exports_shown (record { entries = view.entries ++ more; reserved = numbers })
    ≡ Some table
exports-before view more numbers table is = by (shown_at view.entries addresses.Exports) refl
  where
    by : (o : Option (Option Object)) → shown_at view.entries addresses.Exports ≡ o →
        exports_shown (record { entries = view.entries ++ more; reserved = numbers }) ≡ Some table
    by None none = (let no : None ≡ Some table = sym (ap (option_map export_table_of) none) ∙ is in cc)
    by (Some o) some = ap (option_map export_table_of) (shown-before view.entries more addresses.Exports o some)
        ∙ sym (ap (option_map export_table_of) some) ∙ is

abbrev usages_for : List Reserved → Option ExportTableValue → List Addr
usages_for rs o = elim o as (λ (x : Option ExportTableValue). List Addr) [
  | None ↦ []
  | Some table ↦
      root_usages table.last (take 64 rs)
]

replacing-stay : (view : ViewValue) (more : List Seen) (numbers : List Reserved) →
    ((last : ℕ) (a : Addr) → IsAmong (root_usages last (take 64 view.reserved)) a
    → IsAmong (root_usages last (take 64 numbers)) a)
    → (a : Addr) → IsAmong (addresses.Exports ∷ roots_named view) a →
    IsAmong (addresses.Exports ∷ roots_named (record { entries = view.entries ++ more; reserved = numbers })) a
replacing-stay view more numbers still a (inl same) = inl same
replacing-stay view more numbers still a (inr rest) = inr (by (exports_shown view) refl)
  where
    by : (o : Option ExportTableValue) → exports_shown view ≡ o →
        IsAmong (roots_named (record { entries = view.entries ++ more; reserved = numbers })) a
    by None none = absurd (subst (λ o. IsAmong (usages_for view.reserved o) a) none rest)
    by (Some table) some =
        subst (λ o. IsAmong (usages_for numbers o) a) (sym (exports-before view more numbers table some))
        (still table.last a (subst (λ o. IsAmong (usages_for view.reserved o) a) some rest))

abbrev pub wanted_for : List ExportValue → Option ExportTableValue → ℕ
wanted_for exports o = elim o as (λ (x : Option ExportTableValue). ℕ) [
  | None ↦ 0
  | Some table ↦ roots_for exports table
]

wanted-stay : (view : ViewValue) (more : List Seen) (numbers : List Reserved) (exports : List ExportValue) →
    roots_wanted view exports ≤ roots_wanted (record { entries = view.entries ++ more; reserved = numbers }) exports
wanted-stay view more numbers exports = by (exports_shown view) refl
  where
    by : (o : Option ExportTableValue) → exports_shown view ≡ o →
        roots_wanted view exports ≤ roots_wanted (record { entries = view.entries ++ more; reserved = numbers }) exports
    by None none = (let zero : roots_wanted view exports ≡ 0 = ap (wanted_for exports) none in omega (arith, zero))
    by (Some table) some =
        let same : roots_wanted view exports
        ≡ roots_wanted (record { entries = view.entries ++ more; reserved = numbers }) exports =
        ap (wanted_for exports) some ∙ sym (ap (wanted_for exports) (exports-before view more numbers table some)) in
        omega (arith, same)

wanted-few : (view : ViewValue) (exports : List ExportValue) → roots_wanted view exports ≤ 64
wanted-few view exports = by (exports_shown view)
  where
    few : (b : Bool) (n : ℕ) → cond b 0 (min n 64) ≤ 64
    few true n = omega arith
    few false n = omega arith

    by : (o : Option ExportTableValue) → wanted_for exports o ≤ 64
    by None = omega arith
    by (Some table) = few (is_exhausted table.exports table.last exports) (new_count table.exports exports)

root-usages-few : (last count : ℕ) (rs : List Reserved) → length (root_usages last (take count rs)) ≤ count
root-usages-few last zero rs = omega arith
root-usages-few last (suc count) [] = omega arith
root-usages-few last (suc count) (r ∷ rs) = (let few = root-usages-few (suc last) count rs in omega (arith, few))

roots-few : (view : ViewValue) → length (roots_named view) ≤ 64
roots-few view = by (exports_shown view)
  where
    by : (o : Option ExportTableValue) → length (usages_for view.reserved o) ≤ 64
    by None = omega arith
    by (Some table) = root-usages-few table.last 64 view.reserved

pub names-stay : NamesStay
names-stay (calls.Nfs call) view (Read entries) =
    record { named = named-stay view entries view.reserved call; numbers = omega arith }
names-stay (calls.Nfs call) view (Given numbers) =
    record { named = named-stay view (map vacant numbers) (view.reserved ++ numbers) call; numbers = omega arith }
names-stay (calls.Mount call) view round = record { named = λ a among. among; numbers = omega arith }
names-stay (calls.Nlm call) view round = record { named = λ a among. among; numbers = omega arith }
names-stay (calls.Replace exports) view (Read entries) =
    record {
      named = replacing-stay view entries view.reserved (λ last a among. among);
      numbers =
          wanted-stay view entries view.reserved exports;
    }
names-stay (calls.Replace exports) view (Given numbers) =
    record {
      named = replacing-stay view (map vacant numbers) (view.reserved ++ numbers)
          (λ last a among. usages-stay last 64 view.reserved numbers a among);
      numbers =
          wanted-stay view (map vacant numbers) (view.reserved ++ numbers) exports;
    }

-- ---- rounds
in-all : (P : Addr × Mode → Type 0) (xs : List (Addr × Mode)) (a : Addr × Mode) → AllByRecursion P xs →
    WasAsked xs a → P a
in-all P [] a all in_it = absurd in_it
in-all P (x ∷ xs) a all (inl same) = subst P same all.0
in-all P (x ∷ xs) a all (inr rest) = in-all P xs a all.1 rest

module _ (call : Call) (ctx : Ctx) (s : Store) (k : StoreMeaning) (stands : Represents s k) (sound : Sound k)
    (formed : WellFormed k.state) (all : List Addr) where
  -- what the call names on this view is among these
  abbrev pub Names : ViewValue → Type 0
  Names v = (a : Addr) → IsAmong (named_by call v) a → IsAmong all a

  asked-new : (v : ViewValue) → Names v → Fits v s → (a : Addr × Mode) →
      MayAsk (modes_of call) (named_by call v) v a → IsNew s all (held v.entries) a
  asked-new v names fits a may = (
    unseen-out v.entries a.0 may.unseen,
    λ none. (elim may.bounded [
      | inl among ↦ names a.0 among
      | inr lives ↦ (let some = lives s k fits stands sound formed in cc)
    ]),
  )

  abbrev Bounded : ViewValue → Type 0
  Bounded v = Within s all (held v.entries) (length v.reserved) × (length v.reserved ≤ new_numbers call v)

  bounded-one : (v : ViewValue) (round : Round) (outcome : Outcome) → Attempts call ctx v outcome →
      Gives outcome round → Names v → Fits v s → Bounded v → Bounded (with_round v round)
  bounded-one v (Read entries) (Need asked) attempts gives names fits bounded = (
    subst (λ (l : List (Addr × Mode)). Within s all l (length v.reserved))
        (sym (map-append (λ (e : Seen). (e.address, e.mode)) v.entries entries))
        (within-many s all (held v.entries) (held entries) (length v.reserved) bounded.0
        (all-map (WasAsked asked.items) (IsNew s all (held v.entries))
        (λ a was.
        let may = in-all (MayAsk (modes_of call) (named_by call v) v) asked.items a attempts.each was in
        asked-new v names fits a may)
        (held entries) gives.1) gives.0),
    omega (arith, bounded.1, (names-stay call v (Read entries)).numbers),
  )
  bounded-one v (Read entries) (Fresh count) attempts gives names fits bounded = absurd gives
  bounded-one v (Read entries) (Done change) attempts gives names fits bounded = absurd gives
  bounded-one v (Given numbers) (Need asked) attempts gives names fits bounded = absurd gives
  bounded-one v (Given numbers) (Fresh count) attempts gives names fits bounded =
      let was : length v.reserved ≡ 0 = ap (λ (l : List Reserved). length l) attempts.none in
      let both = length-append v.reserved numbers in
      let many : length (held (map vacant numbers)) ≡ length numbers =
      length-map (map vacant numbers) (λ (e : Seen). (e.address, e.mode)) ∙ length-map numbers vacant in
      let within = within-others s all (held v.entries) (held (map vacant numbers)) (length v.reserved) bounded.0 in (
        subst (λ (l : List (Addr × Mode)). Within s all l (length (v.reserved ++ numbers)))
            (sym (map-append (λ (e : Seen). (e.address, e.mode)) v.entries (map vacant numbers)))
            (omega (arith, within, both, many)),
        omega (arith, was, both, gives, attempts.whole, (names-stay call v (Given numbers)).numbers),
      )
  bounded-one v (Given numbers) (Done change) attempts gives names fits bounded = absurd gives

  bounded : (rounds : List Round) → Grows call ctx rounds → Fits (view_after rounds) s →
      Names (view_after rounds) → Bounded (view_after rounds)
  bounded [] grows fits names = (omega arith, omega arith)
  bounded (round ∷ earlier) grows fits names =
      let v = view_after earlier in
      let before = fits-before s v round (have-entries earlier) fits in
      let named : Names v = λ a among. names a ((names-stay call v round).named a among) in
      bounded-one v round grows.0 grows.1 grows.2 named before (bounded earlier grows.3 before named)

  few : (v : ViewValue) (outcome : Outcome) → Attempts call ctx v outcome → Names v → Fits v s → Bounded v
      → empty_count s (held v.entries) + asked_count s outcome ≤ length all + new_numbers call v
  few v (Need asked) attempts names fits bounded =
      let more = within-many s all (held v.entries) asked.items (length v.reserved) bounded.0
      (all-map (MayAsk (modes_of call) (named_by call v) v) (IsNew s all (held v.entries))
      (asked-new v names fits) asked.items attempts.each) attempts.once in
      omega (
        arith,
        more,
        bounded.1,
        sum_by-append (λ (a : Addr × Mode). cond {A = ℕ} (is_none (s.at a.0)) 1 0) (held v.entries) asked.items,
        count_by-le-length (is_in (held v.entries ++ asked.items)) all,
      )
  few v (Fresh count) attempts names fits bounded =
      let was : length v.reserved ≡ 0 = ap (λ (l : List Reserved). length l) attempts.none in
      omega (arith, bounded.0, was, attempts.whole, count_by-le-length (is_in (held v.entries)) all)
  few v (Done change) attempts names fits bounded =
      omega (arith, bounded.0, bounded.1, count_by-le-length (is_in (held v.entries)) all)

  -- so few among these hold nothing, and of what is asked for
  pub few-among : (rounds : List Round) (outcome : Outcome) → Grows call ctx rounds →
      Attempts call ctx (view_after rounds) outcome → Fits (view_after rounds) s → Names (view_after rounds) →
      empty_count s (held (view_after rounds).entries) + asked_count s outcome ≤
      length all + new_numbers call (view_after rounds)
  few-among rounds outcome grows attempts fits names =
      few (view_after rounds) outcome attempts names fits (bounded rounds grows fits names)

  -- and of what was read
  pub read-among : (rounds : List Round) → Grows call ctx rounds → Fits (view_after rounds) s →
      Names (view_after rounds) → empty_count s (held (view_after rounds).entries) ≤
      length all + new_numbers call (view_after rounds)
  read-among rounds grows fits names =
      let b = bounded rounds grows fits names in
      omega (arith, b.0, b.1, count_by-le-length (is_in (held (view_after rounds).entries)) all)

pub asks-few : AsksFew
asks-few call ctx rounds outcome s k grows attempts fits stands sound formed =
    few-among call ctx s k stands sound formed (named_by call (view_after rounds)) rounds outcome grows attempts fits
    (λ a among. among)

-- ---- what a call names
usages-few : (export count : ℕ) → length (usages_of export count) ≡ count
unfolding usages_of
usages-few export zero = refl
usages-few export (suc count) = ap suc (usages-few export count)

objects-few : (view : ViewValue) (handles : List (List ℕ)) →
    length (objects_at view handles) ≤ 65 * length handles
objects-few view [] = omega arith
objects-few view (handle ∷ handles) =
    let rest = objects-few view handles in
    elim (handle_of handle) as (λ (h : Option Handle).
    length (elim h as (λ (o : Option Handle). List Addr) [
      | None ↦ objects_at view handles
      | Some x ↦ addresses_of view x.fileid ++ usages_of x.export 64 ++ objects_at view handles
    ]) ≤ 65 * length (handle ∷ handles)) [
      | None ↦ omega (arith, rest)
      | Some h ↦ omega (
        arith,
        rest,
        length-append (usages_of h.export 64) (objects_at view handles),
        usages-few h.export 64,
      )
    ]

blocks-few : (file first count : ℕ) → length (blocks_from file first count) ≡ count
unfolding blocks_from
blocks-few file first zero = refl
blocks-few file first (suc count) = ap suc (blocks-few file (suc first) count)

-- of the file of a handle at most as many as of each file
in-few : (handle : List ℕ) (places : ℕ → List Addr) → ((file : ℕ) → length (places file) ≤ 19) →
    length (in_file handle places) ≤ 19
in-few handle places few =
    elim (handle_of handle) as (λ (h : Option Handle).
    length (elim h as (λ (o : Option Handle). List Addr) [ None ↦ [] | Some x ↦ places x.fileid ]) ≤ 19)
    [ None ↦ omega arith | Some h ↦ few h.fileid ]

data-few : (call : NfsCall) → length (data_of call) ≤ 19
data-few (nfs.Read a) =
    in-few a.file (λ file. blocks_at file a.offset)
    (λ file. (let few = blocks-few file (a.offset / 4096) 17 in omega (arith, few)))
data-few (nfs.Write a) =
    in-few a.file (λ file. blocks_at file a.offset ++ maps_at file a.offset)
    (λ file. (let few = blocks-few file (a.offset / 4096) 17 in
    let both = length-append (blocks_at file a.offset) (maps_at file a.offset) in omega (arith, few, both)))
data-few nfs.Null = omega arith
data-few (nfs.Getattr a) = omega arith
data-few (nfs.Setattr a) = omega arith
data-few (nfs.Lookup a) = omega arith
data-few (nfs.Access a) = omega arith
data-few (nfs.Readlink a) = omega arith
data-few (nfs.Create a) = omega arith
data-few (nfs.Mkdir a) = omega arith
data-few (nfs.Symlink a) = omega arith
data-few (nfs.Mknod a) = omega arith
data-few (nfs.Remove a) = omega arith
data-few (nfs.Rmdir a) = omega arith
data-few (nfs.Readdir a) = omega arith
data-few (nfs.Readdirplus a) = omega arith
data-few (nfs.Fsstat a) = omega arith
data-few (nfs.Fsinfo a) = omega arith
data-few (nfs.Pathconf a) = omega arith
data-few (nfs.Commit a) = omega arith
data-few (nfs.Rename a) = omega arith
data-few (nfs.Link a) = omega arith

-- of a name that comes two at most
added-of-few : (es : List Seen) (place : DirOp) (h : Option Handle) → length (added_of es place h) ≤ 2
added-of-few es place None = omega arith
added-of-few es place (Some h) = by (shown_at es (addresses.Inode h.fileid))
  where
    by : (o : Option (Option Object)) → length (places_of h.fileid place.name o) ≤ 2
    by None = omega arith
    by (Some object) =
        elim (header_of object) as (λ (d : Option Directory). length (elim d as (λ (x : Option Directory). List Addr) [
          | None ↦ []
          | Some x ↦ places_for x.entries h.fileid place.name (suc x.last_cookie)
        ]) ≤ 2) [ None ↦ omega arith | Some d ↦ omega arith ]

added-few : (view : ViewValue) (call : NfsCall) → length (added_by view call) ≤ 2
added-few view (nfs.Create a) = added-of-few view.entries a.place (handle_of a.place.directory)
added-few view (nfs.Mkdir a) = added-of-few view.entries a.place (handle_of a.place.directory)
added-few view (nfs.Symlink a) = added-of-few view.entries a.place (handle_of a.place.directory)
added-few view (nfs.Mknod a) = added-of-few view.entries a.place (handle_of a.place.directory)
added-few view (nfs.Rename a) = added-of-few view.entries a.to (handle_of a.to.directory)
added-few view (nfs.Link a) = added-of-few view.entries a.place (handle_of a.place.directory)
added-few view nfs.Null = omega arith
added-few view (nfs.Getattr a) = omega arith
added-few view (nfs.Setattr a) = omega arith
added-few view (nfs.Lookup a) = omega arith
added-few view (nfs.Access a) = omega arith
added-few view (nfs.Readlink a) = omega arith
added-few view (nfs.Read a) = omega arith
added-few view (nfs.Write a) = omega arith
added-few view (nfs.Remove a) = omega arith
added-few view (nfs.Rmdir a) = omega arith
added-few view (nfs.Readdir a) = omega arith
added-few view (nfs.Readdirplus a) = omega arith
added-few view (nfs.Fsstat a) = omega arith
added-few view (nfs.Fsinfo a) = omega arith
added-few view (nfs.Pathconf a) = omega arith
added-few view (nfs.Commit a) = omega arith

-- of a name that goes one at most
under-few : (view : ViewValue) (place : DirOp) → length (locks_under view place) ≤ 1
under-few view place =
    elim (handle_of place.directory) as (λ h. length (under_of view place h) ≤ 1) [
      | None ↦ omega arith
      | Some h ↦ elim (led_at view h.fileid place.name) as (λ led. length (locks_led led) ≤ 1)
          [ None ↦ omega arith | Some number ↦ omega arith ]
    ]

lost-few : (view : ViewValue) (call : NfsCall) → length (locks_lost view call) ≤ 1
lost-few view nfs.Null = omega arith
lost-few view (nfs.Getattr a) = omega arith
lost-few view (nfs.Setattr a) = omega arith
lost-few view (nfs.Lookup a) = omega arith
lost-few view (nfs.Access a) = omega arith
lost-few view (nfs.Readlink a) = omega arith
lost-few view (nfs.Read a) = omega arith
lost-few view (nfs.Write a) = omega arith
lost-few view (nfs.Create a) = omega arith
lost-few view (nfs.Mkdir a) = omega arith
lost-few view (nfs.Symlink a) = omega arith
lost-few view (nfs.Mknod a) = omega arith
lost-few view (nfs.Remove a) = under-few view a
lost-few view (nfs.Rmdir a) = under-few view a
lost-few view (nfs.Rename a) = under-few view a.to
lost-few view (nfs.Link a) = omega arith
lost-few view (nfs.Readdir a) = omega arith
lost-few view (nfs.Readdirplus a) = omega arith
lost-few view (nfs.Fsstat a) = omega arith
lost-few view (nfs.Fsinfo a) = omega arith
lost-few view (nfs.Pathconf a) = omega arith
lost-few view (nfs.Commit a) = omega arith

nfs-handles-few : (call : NfsCall) → length (nfs_handles call) ≤ 2
nfs-handles-few nfs.Null = omega arith
nfs-handles-few (nfs.Getattr a) = omega arith
nfs-handles-few (nfs.Setattr a) = omega arith
nfs-handles-few (nfs.Lookup a) = omega arith
nfs-handles-few (nfs.Access a) = omega arith
nfs-handles-few (nfs.Readlink a) = omega arith
nfs-handles-few (nfs.Read a) = omega arith
nfs-handles-few (nfs.Write a) = omega arith
nfs-handles-few (nfs.Create a) = omega arith
nfs-handles-few (nfs.Mkdir a) = omega arith
nfs-handles-few (nfs.Symlink a) = omega arith
nfs-handles-few (nfs.Mknod a) = omega arith
nfs-handles-few (nfs.Remove a) = omega arith
nfs-handles-few (nfs.Rmdir a) = omega arith
nfs-handles-few (nfs.Readdir a) = omega arith
nfs-handles-few (nfs.Readdirplus a) = omega arith
nfs-handles-few (nfs.Fsstat a) = omega arith
nfs-handles-few (nfs.Fsinfo a) = omega arith
nfs-handles-few (nfs.Pathconf a) = omega arith
nfs-handles-few (nfs.Commit a) = omega arith
nfs-handles-few (nfs.Rename a) = omega arith
nfs-handles-few (nfs.Link a) = omega arith

nlm-handles-few : (call : NlmCall) → length (nlm_handles call) ≤ 2
nlm-handles-few nlm.Null = omega arith
nlm-handles-few (nlm.Test a) = omega arith
nlm-handles-few (nlm.Lock a) = omega arith
nlm-handles-few (nlm.Cancel a) = omega arith
nlm-handles-few (nlm.Unlock a) = omega arith
nlm-handles-few (nlm.Granted a) = omega arith
nlm-handles-few (nlm.TestMsg a) = omega arith
nlm-handles-few (nlm.LockMsg a) = omega arith
nlm-handles-few (nlm.CancelMsg a) = omega arith
nlm-handles-few (nlm.UnlockMsg a) = omega arith
nlm-handles-few (nlm.GrantedMsg a) = omega arith
nlm-handles-few (nlm.TestRes a) = omega arith
nlm-handles-few (nlm.LockRes a) = omega arith
nlm-handles-few (nlm.CancelRes a) = omega arith
nlm-handles-few (nlm.UnlockRes a) = omega arith
nlm-handles-few (nlm.GrantedRes a) = omega arith
nlm-handles-few (nlm.Share a) = omega arith
nlm-handles-few (nlm.Unshare a) = omega arith
nlm-handles-few (nlm.NmLock a) = omega arith
nlm-handles-few (nlm.FreeAll a) = omega arith

buckets-few : (count : ℕ) → length (buckets_below count) ≡ count
unfolding buckets_below
buckets-few zero = refl
buckets-few (suc count) = ap suc (buckets-few count)

-- of the file of one handle one at most
file-few : (handle : List ℕ) → length (locks_of (handle ∷ [])) ≤ 64
file-few handle =
    elim (handle_of handle) as (λ (h : Option Handle).
    length (elim h as (λ (o : Option Handle). List Addr) [ None ↦ [] | Some x ↦ locks_at x.fileid ] ++ []) ≤ 64)
    [ None ↦ omega arith | Some h ↦ omega arith ]

locks-few : (call : NlmCall) → length (locks_named call) ≤ 64
locks-few nlm.Null = omega arith
locks-few (nlm.Test a) = file-few a.lock.file
locks-few (nlm.Lock a) = file-few a.lock.file
locks-few (nlm.Cancel a) = file-few a.lock.file
locks-few (nlm.Unlock a) = file-few a.lock.file
locks-few (nlm.Granted a) = omega arith
locks-few (nlm.TestMsg a) = file-few a.lock.file
locks-few (nlm.LockMsg a) = file-few a.lock.file
locks-few (nlm.CancelMsg a) = file-few a.lock.file
locks-few (nlm.UnlockMsg a) = file-few a.lock.file
locks-few (nlm.GrantedMsg a) = omega arith
locks-few (nlm.TestRes a) = omega arith
locks-few (nlm.LockRes a) = omega arith
locks-few (nlm.CancelRes a) = omega arith
locks-few (nlm.UnlockRes a) = omega arith
locks-few (nlm.GrantedRes r) =
    elim (length r.cookie == 8) as (λ (b : Bool). length (cond {A = List Addr} b (locks_at (from_be_bytes w64 r.cookie))
    []) ≤ 64)
    [ true ↦ omega arith | false ↦ omega arith ]
locks-few (nlm.Share a) = file-few a.share.file
locks-few (nlm.Unshare a) = file-few a.share.file
locks-few (nlm.NmLock a) = file-few a.lock.file
locks-few (nlm.FreeAll a) = (let few = buckets-few 64 in omega (arith, few))

made-few : (call : NfsCall) → made_by call ≤ 1
made-few (nfs.Create a) = omega arith
made-few (nfs.Mkdir a) = omega arith
made-few (nfs.Symlink a) = omega arith
made-few (nfs.Mknod a) = omega arith
made-few nfs.Null = omega arith
made-few (nfs.Getattr a) = omega arith
made-few (nfs.Setattr a) = omega arith
made-few (nfs.Lookup a) = omega arith
made-few (nfs.Access a) = omega arith
made-few (nfs.Readlink a) = omega arith
made-few (nfs.Read a) = omega arith
made-few (nfs.Write a) = omega arith
made-few (nfs.Remove a) = omega arith
made-few (nfs.Rmdir a) = omega arith
made-few (nfs.Readdir a) = omega arith
made-few (nfs.Readdirplus a) = omega arith
made-few (nfs.Fsstat a) = omega arith
made-few (nfs.Fsinfo a) = omega arith
made-few (nfs.Pathconf a) = omega arith
made-few (nfs.Commit a) = omega arith
made-few (nfs.Rename a) = omega arith
made-few (nfs.Link a) = omega arith

pub names-few : NamesFew
names-few (calls.Nfs call) view =
    omega (
      arith,
      objects-few view (nfs_handles call),
      nfs-handles-few call,
      made-few call,
      data-few call,
      added-few view call,
      lost-few view call,
      length-append (objects_at view (nfs_handles call)) (data_of call ++ (added_by view call ++ locks_lost view call)),
      length-append (data_of call) (added_by view call ++ locks_lost view call),
      length-append (added_by view call) (locks_lost view call),
    )
names-few (calls.Mount call) view = omega arith
names-few (calls.Nlm call) view = omega (
  arith,
  objects-few view (nlm_handles call),
  nlm-handles-few call,
  locks-few call,
  length-append (objects_at view (nlm_handles call)) (locks_named call),
)
names-few (calls.Replace exports) view = omega (arith, roots-few view, wanted-few view exports)
