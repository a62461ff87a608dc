-- The steps of a call on its course: each leads on, and what was read suits the call.
use Rattle.std.proofs.Common.{◌≡◌, ℕ, ◌+◌, Bool, true, false, cond, List, [], ◌∷◌, ◌++◌, Option, Some, None}
use Rattle.std.proofs.Common.{option_map, slice_get, length, refl, sym, ◌∙◌, ap, subst, inl, arith, ◌&&◌}
use Rattle.std.proofs.lemmas.List.{length-append}
use Rattle.std.specs.List.{AllByRecursion}
use Rattle.std.specs.Option.{option_and_then}
use Rattle.std.specs.Vec.Iter.{into_iter_items}
use Rattle.std.specs.declared.alloc.Global.{Global}
use Rattle.std.specs.declared.vec.IntoIter.{IntoIter}
use Rattle.std.specs.declared.vec.Vec.{Vec}
use denote.RawPtr.{null_ptr}
use Rattle.nfs_machine.specs.Handles.{handle_of}
use Rattle.nfs_machine.specs.declared.calls.Call.{Call}
use Rattle.nfs_machine.specs.declared.calls.Call.TheVariants as calls
use Rattle.nfs_machine.specs.declared.context.Ctx.{Ctx}
use Rattle.nfs_machine.specs.declared.handle.Handle.{Handle}
use Rattle.nfs_wire.specs.declared.calls.DirOp.{DirOp}
use Rattle.nfs_wire.specs.declared.calls.RenameArguments.{RenameArguments}
use Rattle.nfs_objects.proofs.KnowsLemmas.{names-objects}
use Rattle.nfs_objects.proofs.NewNumberLemmas.{grown-have-numbers}
use Rattle.nfs_objects.proofs.ModesSuitLemmas.{grows-suitably, starts-suitably}
use Rattle.nfs_objects.specs.Asks.{Asks, AsksNumbers, EachOnce, MayAsk}
use Rattle.nfs_objects.specs.Attempt.{AsksFirst, Attempts}
use Rattle.nfs_objects.specs.Bound.{Grows, HasNumbers, Round, held, view_after}
use Rattle.nfs_objects.specs.Fits.{vacant}
use Rattle.nfs_wire.specs.Handles.{nfs_handles}
use Rattle.nfs_objects.specs.Calls.{IsAmong, addresses_of, named_by, new_numbers, objects_at, usages_of}
use Rattle.nfs_objects.specs.Modes.{Suits, is_apart, modes_of, only_reads}
use Rattle.nfs_objects.specs.Rooms.{with_seen, with_number}
use Rattle.nfs_objects.specs.Values.{Seen, ViewValue, is_addr, seen_at}
use Rattle.nfs_objects.specs.declared.address.Addr.{Addr}
use Rattle.nfs_objects.specs.declared.address.Addr.TheVariants.{Exports, Inode}
use Rattle.nfs_objects.specs.declared.change.Outcome.{Outcome}
use Rattle.nfs_objects.specs.declared.change.Outcome.TheVariants.{Need, Fresh}
use Rattle.nfs_objects.specs.declared.modes.Mode.{Mode}
use Rattle.nfs_objects.specs.declared.modes.Mode.TheVariants.{Shared}
use Rattle.nfs_objects.specs.declared.object.Object.{Object}
use Rattle.nfs_objects.specs.declared.view.Reserved.{Reserved}
use Rattle.nfs_engine.specs.Calls.{TxnValue}
use Rattle.nfs_schedule.proofs.ReadOrderLemmas.{once_more}
use Rattle.nfs_schedule.proofs.AsksFewLemmas.{courses-few}
use Rattle.nfs_schedule.proofs.ViewRoundsLemmas.{asking_all, asking_alone, asking_less, grown_numbers, grown_part}
use Rattle.nfs_schedule.proofs.ViewRoundsLemmas.{numbering_all, numbering_less}
use Rattle.nfs_schedule.specs.Courses.{HasReadFew, IsAfterNumber, IsAt, IsFirstOf, IsMade, IsNext, IsNextStep}
use Rattle.nfs_schedule.specs.Courses.{NumbersNext, TakesNext}
use Rattle.nfs_schedule.specs.Executions.{HasNumber, HasTaken}
use Rattle.nfs_schedule.specs.Foreseen.{foreseen, object_in}
use Rattle.nfs_schedule.specs.Grown.{HasGrown, IsAsking, IsNumbering}
use Rattle.nfs_schedule.specs.Workers.{IsSuited}
use Rattle.nfs_schedule.specs.declared.course.Course.{Course}
use Rattle.nfs_schedule.specs.declared.course.Course.TheVariants.{Begun, FirstHandle, Acquiring, Planned, Reserving}
use Rattle.nfs_schedule.specs.declared.course.NextStep.{NextStep}
use Rattle.nfs_schedule.specs.declared.course.NextStep.TheVariants.{Acquire}
use Rattle.nfs_schedule.specs.declared.planning.Plan.{Plan}
use Rattle.nfs_schedule.specs.declared.planning.Plan.TheVariants.{Over}

-- ---- what has grown in rounds suits its call
grows_suited : (call : Call) (ctx : Ctx) (rounds : List Round) → Grows call ctx rounds →
    Suits (modes_of call) (view_after rounds)
grows_suited call ctx [] grows = starts-suitably call
grows_suited call ctx (round ∷ earlier) grows =
    grows-suitably call ctx (view_after earlier) grows.0 round grows.1 grows.2 (grows_suited call ctx earlier grows.3)

grown_suited : (t : TxnValue) → HasGrown t → IsSuited t
grown_suited t g =
    subst (λ (v : ViewValue). Suits (modes_of t.call) v) (sym g.view_is) (grows_suited t.call t.ctx g.rounds g.grows)

-- and has all its numbers or none; so it is of the call and the view that are lent
module _ (t : TxnValue) (call : Call) (view : ViewValue) (g : HasGrown t) (named : call ≡ t.call)
    (seen : view ≡ t.view) where
  pub lent_suits : Suits (modes_of call) view
  lent_suits = subst (λ (c : Call). Suits (modes_of c) view) (sym named)
      (subst (λ (v : ViewValue). Suits (modes_of t.call) v) (sym seen) (grown_suited t g))

  pub lent_numbers : HasNumbers call view
  lent_numbers = subst (λ (c : Call). HasNumbers c view) (sym named)
      (subst (λ (v : ViewValue). HasNumbers t.call v) (sym (seen ∙ g.view_is))
      (grown-have-numbers t.call t.ctx g.rounds g.grows))

-- ---- an address that is left of what was asked for
-- behind entries that do not show the address
seen_behind : (es more : List Seen) (a : Addr) → seen_at es a ≡ None → seen_at (es ++ more) a ≡ seen_at more a
seen_behind [] more a none = refl
seen_behind (e ∷ es) more a none =
    elim (is_addr e.address a) as (λ b. cond b (Some e) (seen_at es a) ≡ None →
    cond b (Some e) (seen_at (es ++ more) a) ≡ seen_at more a) [
      | true ↦ λ here. absurd cc
      | false ↦ λ there. seen_behind es more a there
    ] none

in_middle : {X : Type 0} (P : X → Type 0) (xs : List X) (x : X) (ys : List X) → AllByRecursion P (xs ++ x ∷ ys) → P x
in_middle P [] x ys all = all.0
in_middle P (y ∷ xs) x ys all = in_middle P xs x ys all.1

-- what was given before is another address
apart : (given : List Seen) (a : Addr × Mode) (left : List (Addr × Mode)) → EachOnce (held given ++ a ∷ left) →
    seen_at given a.0 ≡ None
apart [] a left once = refl
apart (e ∷ given) a left once =
    ap (λ b. cond b (Some e) (seen_at given a.0))
    (in_middle (λ (b : Addr × Mode). is_addr e.address b.0 ≡ false) (held given) a left once.0)
    ∙ apart given a left once.1

asking_unseen : (t : TxnValue) (a : Addr × Mode) (left : List (Addr × Mode)) → IsAsking t (a ∷ left) →
    seen_at t.view.entries a.0 ≡ None
asking_unseen t a left asking =
    let before = view_after asking.before in
    let may = MayAsk (modes_of t.call) (named_by t.call before) before in
    let each = subst (λ (l : List (Addr × Mode)). AllByRecursion may l) asking.whole asking.attempts.each in
    let once = subst (λ (l : List (Addr × Mode)). EachOnce l) asking.whole asking.attempts.once in
    let here : may a = in_middle may (held asking.given) a left each in
    ap (λ (v : ViewValue). seen_at v.entries a.0) asking.view_is
    ∙ seen_behind before.entries asking.given a.0 here.unseen
    ∙ apart asking.given a left once

-- it is next
takes_next : (t : TxnValue) (a : Addr × Mode) (left : List (Addr × Mode)) (after : Course) → IsAsking t (a ∷ left) →
    ((u : TxnValue) → IsAsking u left → IsAt after u) → TakesNext t a after
takes_next t a left after asking leads = record {
  others = left;
  asking = asking;
  unseen = asking_unseen t a left asking;
  goes_on = λ o.
      let u : TxnValue = record t { view = with_seen t.view (record { address = a.0; mode = a.1; object = o }) } in
      leads u (asking_less t u a left o refl asking);
}

-- the first of these is next
first_next : (t : TxnValue) (wanted : List (Addr × Mode)) (plan : Plan) (next : NextStep) →
    IsFirstOf wanted plan (Some next) → IsAsking t wanted → IsNextStep t next
first_next t [] plan next first asking = absurd (let no : Some next ≡ None = first in cc)
first_next t (a ∷ left) plan next first asking =
    let step : Some next ≡ Some (Acquire a.0 a.1 (Acquiring first.0 plan)) = first.2 in
    let same : next ≡ Acquire a.0 a.1 (Acquiring first.0 plan) = cc in
    subst (λ (n : NextStep). IsNextStep t n) (sym same)
    (takes_next t a left (Acquiring first.0 plan) asking
    (λ u less. subst (λ (l : List (Addr × Mode)). IsAsking u l) (sym first.1) less))

-- ---- numbers
number_next : (t : TxnValue) (left : ℕ) (plan : Plan) (after : Course) → IsNumbering t left →
    IsAfterNumber left plan after → NumbersNext t after
number_next t left plan (Reserving others then) n is = record {
  left = left;
  numbering = n;
  goes_on = λ r. numbering_less t (record t { view = with_number t.view r }) r left refl n others is.0 is.1;
}
number_next t left plan (Planned then) n is = record {
  left = left;
  numbering = n;
  goes_on = λ r. grown_numbers t (record t { view = with_number t.view r }) r left refl n is.0;
}
number_next t left plan Begun n is = absurd is
number_next t left plan (FirstHandle address mode) n is = absurd is
number_next t left plan (Acquiring wanted then) n is = absurd is

-- ---- what is foreseen
abbrev nothing : ViewValue
nothing = view_after []

apart_from_nothing : (place : DirOp) (n : ℕ) → is_apart nothing place n ≡ false
apart_from_nothing place n =
    elim (handle_of place.directory) as (λ (o : Option Handle). elim o as (λ _. Bool) [
      | None ↦ false
      | Some h ↦ false
    ] ≡ false) [
      | None ↦ refl
      | Some h ↦ refl
    ]

nothing_read : (renames : Option RenameArguments) (n : ℕ) → only_reads renames nothing n ≡ false
nothing_read None n = refl
nothing_read (Some a) n = ap (λ b. b && is_apart nothing a.to n) (apart_from_nothing a.from n)

-- what the first of these handles names
named_first : (mode : Mode) (handles : List (List ℕ)) (a : Addr × Mode) →
    Some a ≡ option_map (object_in mode) (option_and_then handle_of (slice_get handles 0)) →
    (h : Handle) × (a ≡ object_in mode h) × IsAmong (objects_at nothing handles) (Inode h.fileid)
named_first mode [] a is = absurd (let no : Some a ≡ None = is in cc)
named_first mode (handle ∷ handles) a is =
    elim (handle_of handle) as (λ (o : Option Handle). Some a ≡ option_map (object_in mode) o →
    (h : Handle) × (a ≡ object_in mode h) × IsAmong (elim o [
      | None ↦ objects_at nothing handles
      | Some h ↦ addresses_of nothing h.fileid ++ usages_of h.export 64 ++ objects_at nothing handles
    ]) (Inode h.fileid)) [
      | None ↦ λ none. absurd (let no : Some a ≡ None = none in cc)
      | Some h ↦ λ some. (h, (let same : a ≡ object_in mode h = cc in same), inl refl)
    ] is

may_ask_first : (call : Call) (a : Addr × Mode) → Some a ≡ foreseen call →
    Asks (modes_of call) (named_by call nothing) nothing ((Exports, Shared) ∷ a ∷ [])
may_ask_first (calls.Nfs call) a is =
    let modes = modes_of (calls.Nfs call) in
    let first = named_first modes.inodes (nfs_handles call) a is in
    subst (λ (x : Addr × Mode). Asks modes (named_by (calls.Nfs call) nothing) nothing ((Exports, Shared) ∷ x ∷ []))
    (sym first.1) (record {
      some = λ none. cc;
      once = ((refl, tt), (tt, tt));
      each = (
        record { unseen = refl; mode = refl; bounded = inl (inl refl) },
        (
          record {
            unseen = refl;
            mode = sym (ap (λ b. cond b Shared modes.inodes) (nothing_read modes.renames first.0.fileid));
            bounded = inl (names-objects (calls.Nfs call) nothing (Inode first.0.fileid) first.2);
          },
          tt,
        ),
      );
    })
may_ask_first (calls.Mount call) a is = absurd (let no : Some a ≡ None = is in cc)
may_ask_first (calls.Nlm call) a is = absurd (let no : Some a ≡ None = is in cc)
may_ask_first (calls.Replace exports) a is = absurd (let no : Some a ≡ None = is in cc)

-- two addresses as a vector
abbrev two : Global → (a b : Addr × Mode) → Vec (Addr × Mode) Global
two alloc a b = record {
  ptr = null_ptr;
  len = 2;
  cap = 2;
  alloc = alloc;
  items = a ∷ b ∷ [];
  ok = (refl, omega arith);
  small = omega arith;
}

pub foreseen_next : (alloc : Global) (t : TxnValue) (a : Addr × Mode) → t.view ≡ view_after [] →
    Some a ≡ foreseen t.call → TakesNext t (Exports, Shared) (FirstHandle a.0 a.1)
foreseen_next alloc t a unread is = takes_next t (Exports, Shared) (a ∷ []) (FirstHandle a.0 a.1) (record {
  before = [];
  grows = tt;
  asked = two alloc (Exports, Shared) a;
  attempts = may_ask_first t.call a is;
  given = [];
  whole = refl;
  view_is = unread;
}) (λ u less. less)

-- ---- where a call is on its course
module _ (t : TxnValue) (course : Course) (at : IsAt course t) where
  pub foreseen_last : (address : Addr) (mode : Mode) (plan : Plan) → course ≡ FirstHandle address mode →
      TakesNext t (address, mode) (Planned plan)
  foreseen_last address mode plan is =
      takes_next t (address, mode) [] (Planned plan) (subst (λ (x : Course). IsAt x t) is at)
      (λ u less. grown_part u [] less)

  pub asked_grown : (wanted : IntoIter (Addr × Mode) Global) (plan : Plan) → course ≡ Acquiring wanted plan → HasGrown t
  asked_grown wanted plan is = grown_part t (into_iter_items wanted) (subst (λ (x : Course). IsAt x t) is at)

  pub asked_next : (wanted : IntoIter (Addr × Mode) Global) (plan : Plan) (next : NextStep) →
      course ≡ Acquiring wanted plan → IsFirstOf (into_iter_items wanted) plan (Some next) → IsNextStep t next
  asked_next wanted plan next is first =
      first_next t (into_iter_items wanted) plan next first (subst (λ (x : Course). IsAt x t) is at)

  pub planned_grown : (plan : Plan) → course ≡ Planned plan → HasGrown t
  planned_grown plan is = subst (λ (x : Course). IsAt x t) is at

  pub numbers_next : (left : ℕ) (plan : Plan) (after : Course) → course ≡ Reserving left plan →
      IsAfterNumber left plan after → NumbersNext t after
  numbers_next left plan after is less = number_next t left plan after (subst (λ (x : Course). IsAt x t) is at) less

-- the first of these, and what is behind it
pub first_is : (wanted : List (Addr × Mode)) (plan : Plan) (a : Addr × Mode) (rest : IntoIter (Addr × Mode) Global) →
    wanted ≡ a ∷ into_iter_items rest → IsFirstOf wanted plan (Some (Acquire a.0 a.1 (Acquiring rest plan)))
first_is wanted plan a rest is =
    subst (λ (l : List (Addr × Mode)). IsFirstOf l plan (Some (Acquire a.0 a.1 (Acquiring rest plan)))) (sym is)
    (rest, refl, refl)

-- ---- an attempt
module _ (t : TxnValue) (outcome : Outcome) (g : HasGrown t) (attempts : Attempts t.call t.ctx t.view outcome) where
  pub need_next : (asked : Vec (Addr × Mode) Global) (wanted : List (Addr × Mode)) (plan : Plan) (next : NextStep) →
      AsksFirst t.call t.view outcome → outcome ≡ Need asked → wanted ≡ asked.items →
      IsFirstOf wanted plan (Some next) → IsNextStep t next
  need_next asked wanted plan next first is listed found =
      first_next t wanted plan next found (asking_all t wanted g (record {
        asked = asked;
        attempts = subst (λ (o : Outcome). Attempts t.call t.ctx t.view o) is attempts;
        first = subst (λ (o : Outcome). AsksFirst t.call t.view o) is first;
        whole = sym listed;
      }))

  pub fresh_next : (count : ℕ) (plan : Plan) (after : Course) → outcome ≡ Fresh count →
      IsAfterNumber count plan after → NumbersNext t after
  fresh_next count plan after is less =
      number_next t count plan after
      (numbering_all t count g (subst (λ (o : Outcome). Attempts t.call t.ctx t.view o) is attempts)) less

-- ---- what is planned
-- an address as a vector
abbrev alone : Global → (a : Addr × Mode) → Vec (Addr × Mode) Global
alone alloc a = record {
  ptr = null_ptr;
  len = 1;
  cap = 1;
  alloc = alloc;
  items = a ∷ [];
  ok = (refl, omega arith);
  small = omega arith;
}

-- an address that an attempt may ask for is next
pub planned_next : (alloc : Global) (t : TxnValue) (a : Addr × Mode) (after : Plan) → HasGrown t →
    MayAsk (modes_of t.call) (named_by t.call t.view) t.view a → TakesNext t a (Planned after)
planned_next alloc t a after g may =
    let asks : Asks (modes_of t.call) (named_by t.call t.view) t.view (a ∷ []) = record {
      some = λ none. cc;
      once = (tt, tt);
      each = (may, tt);
    } in
    takes_next t a [] (Planned after) (asking_alone t (alone alloc a) (a ∷ []) g asks refl)
    (λ u less. grown_part u [] less)

-- so is the first of several for which it may ask at once
pub planned_first : (t : TxnValue) (asked : Vec (Addr × Mode) Global) (wanted : List (Addr × Mode)) (plan : Plan)
    (next : Option NextStep) → HasGrown t → Asks (modes_of t.call) (named_by t.call t.view) t.view asked.items →
    wanted ≡ asked.items → IsFirstOf wanted plan next → IsNext t next
planned_first t asked wanted plan None g asks listed found = g
planned_first t asked wanted plan (Some next) g asks listed found =
    first_next t wanted plan next found (asking_alone t asked wanted g asks (sym listed))

-- and a new number, where an attempt may ask for so many
pub planned_numbers : (t : TxnValue) (count : ℕ) (plan : Plan) (after : Course) → HasGrown t →
    AsksNumbers (new_numbers t.call t.view) t.view count → IsAfterNumber count plan after → NumbersNext t after
planned_numbers t count plan after g asks less = number_next t count plan after (numbering_all t count g asks) less

-- ---- a step that was made
pub taken_on : (t u : TxnValue) (a : Addr × Mode) (o : Option Object) (after : Course) → TakesNext t a after →
    HasTaken t u (record { address = a.0; mode = a.1; object = o }) → IsAt after u
taken_on t u a o after n taken = subst (λ (x : TxnValue). IsAt after x) (sym taken) (n.goes_on o)

pub number_on : (t u : TxnValue) (r : Reserved) (after : Course) → NumbersNext t after →
    u ≡ record t { view = with_number t.view r } → IsAt after u
number_on t u r after n got = subst (λ (x : TxnValue). IsAt after x) (sym got) (n.goes_on r)

-- what it is made to: one thing more is read
one_longer : (t u : TxnValue) (e : Seen) → u.view.entries ≡ t.view.entries ++ e ∷ [] →
    length u.view.entries ≡ length t.view.entries + 1
one_longer t u e is = ap (λ (l : List Seen). length l) is ∙ length-append t.view.entries (e ∷ [])

pub taken_made : (t u : TxnValue) (a : Addr × Mode) (o : Option Object) (after : Course) → TakesNext t a after →
    HasTaken t u (record { address = a.0; mode = a.1; object = o }) → IsMade t u after
taken_made t u a o after n taken = record {
  at = taken_on t u a o after n taken;
  grown = one_longer t u (record { address = a.0; mode = a.1; object = o })
      (ap (λ (x : TxnValue). x.view.entries) taken);
}

pub number_made : (t u : TxnValue) (r : Reserved) (after : Course) → NumbersNext t after →
    u ≡ record t { view = with_number t.view r } → IsMade t u after
number_made t u r after n got = record {
  at = number_on t u r after n got;
  grown = one_longer t u (vacant r) (ap (λ (x : TxnValue). x.view.entries) got);
}

pub taken_once : (t u : TxnValue) (e : Seen) → EachOnce (held t.view.entries) →
    seen_at t.view.entries e.address ≡ None → HasTaken t u e → EachOnce (held u.view.entries)
taken_once t u e once unseen taken =
    subst (λ (x : TxnValue). EachOnce (held x.view.entries)) (sym taken) (once_more t.view.entries e once unseen)

pub number_once : (t u : TxnValue) (r : Reserved) → EachOnce (held t.view.entries) → HasNumber t u r →
    EachOnce (held u.view.entries)
number_once t u r once n =
    subst (λ (x : TxnValue). EachOnce (held x.view.entries)) (sym n.call)
    (once_more t.view.entries (vacant r) once n.unseen)

pub read_few : (t : TxnValue) → EachOnce (held t.view.entries) → HasGrown t → HasReadFew t
read_few t once g = record { once = once; few = courses-few (Planned Over) t g }
