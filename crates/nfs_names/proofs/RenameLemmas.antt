-- What RENAME does is an end of the machine's, and its answer is a step.
use Rattle.std.proofs.Common.{◌≡◌, ◌==◌, ℕ, ◌+◌, ◌-◌, ◌^◌, ◌<◌, ◌≤◌, nat_lt, min}
use Rattle.std.proofs.Common.{true, false, Bool, cond, not, ◌||◌, ◌&&◌, List, [], Option, Some}
use Rattle.std.proofs.Common.{None, Result, Ok, Err, option_map, refl, sym, ◌∙◌, ap, subst, arith}
use Rattle.std.specs.Prelude.{◌↔◌, IfSome, MatchResult, is_some, ok_or}
use Rattle.std.specs.FinMap.{get}
use Rattle.std.specs.Option.{option_map_or}
use Rattle.std.proofs.lemmas.Bool.{ltb-true}
use Rattle.nfs_wire.specs.declared.attributes.Attributes.{Attributes}
use Rattle.nfs_wire.specs.declared.attributes.FileType.TheVariants as types
use Rattle.nfs_wire.specs.declared.attributes.Time.{Time}
use Rattle.nfs_wire.specs.declared.attributes.Wcc.{Wcc}
use Rattle.nfs_wire.specs.declared.calls.NfsCall.TheVariants as nfs
use Rattle.nfs_wire.specs.declared.calls.RenameArguments.{RenameArguments}
use Rattle.nfs_wire.specs.declared.replies.NfsReply.{NfsReply}
use Rattle.nfs_wire.specs.declared.replies.NfsReply.TheVariants as replies
use Rattle.nfs_wire.specs.declared.status.NfsStatus.{NfsStatus}
use Rattle.nfs_wire.specs.declared.status.NfsStatus.TheVariants as status
use Rattle.nfs_machine.proofs.ChecksPassedLemmas as facts
use Rattle.nfs_machine.proofs.MovedNameLemmas.{GoesIntoItself, Move, move_end, named_as, with_moved}
use Rattle.nfs_machine.proofs.RenameChecksLemmas.{IsBegun, IsMove, moves-free, moves-over}
use Rattle.nfs_machine.proofs.RenameStateLemmas.{entry-leads}
use Rattle.nfs_machine.proofs.TakenNameLemmas.{is-under, under-entry}
use Rattle.nfs_machine.proofs.WellFormedLemmas.{links-names, no_entries}
use Rattle.nfs_machine.proofs.WithinLemmas.{within-empty, within-told}
use Rattle.nfs_machine.specs.Answers.{Ends, answer_of, state_after}
use Rattle.nfs_machine.specs.Attributes.{entries_of, is_directory, is_living_directory, links_of}
use Rattle.nfs_machine.specs.Attributes.{names_of, type_of}
use Rattle.nfs_machine.specs.Checks.{DirectoryEntries, ◌>>=◌, entries_in, entry_of, holding, link_limit, object_of}
use Rattle.nfs_machine.specs.Exports.{LivingExport}
use Rattle.nfs_machine.specs.NfsSteps.{NfsStep}
use Rattle.nfs_machine.specs.RemoveSteps.{object_under}
use Rattle.nfs_machine.specs.RenameSteps.{IsWithin, TellsWithin, is_compatible, rename_end}
use Rattle.nfs_machine.specs.Resolve.{Named, Resolved, resolve}
use Rattle.nfs_machine.specs.Resolve as machine
use Rattle.nfs_machine.specs.Shown.{after_first, attributes_at, wcc}
use Rattle.nfs_machine.specs.State.{Content, Directory, Regular, Link, BlockDevice, CharacterDevice, Socket, Fifo}
use Rattle.nfs_machine.specs.State.{Entry, Living, State}
use Rattle.nfs_machine.specs.Times.{time_of}
use Rattle.nfs_machine.specs.WellFormed.{WellFormed, is_root}
use Rattle.nfs_machine.specs.declared.calls.Call.TheVariants as calls
use Rattle.nfs_machine.specs.declared.calls.Reply.TheVariants as answers
use Rattle.nfs_machine.specs.declared.context.Ctx.{Ctx}
use Rattle.nfs_objects.proofs.KnowsLemmas.{covers-among, failed, passed, stops-wider}
use Rattle.nfs_objects.proofs.PromiseLemmas.{answer-ending, promised-does, promised-unchanged, turns-both, turns-none}
use Rattle.nfs_objects.specs.Asks.{IsThere}
use Rattle.nfs_objects.specs.Attempt.{HaltsFirst}
use Rattle.nfs_objects.specs.Calls.{IsAmong, addresses_of}
use Rattle.nfs_objects.specs.Begins.{Begins}
use Rattle.nfs_objects.specs.Knows.{Does, Knows, Possible, Turns, ending}
use Rattle.nfs_objects.specs.Promise.{Given, Held, IsPromised}
use Rattle.nfs_objects.specs.Sound.{Sound}
use Rattle.nfs_objects.specs.Stands.{StoreMeaning}
use Rattle.nfs_objects.specs.Store.{Store}
use Rattle.nfs_objects.specs.Values.{DraftValue, ModesValue, ViewValue, done_value}
use Rattle.nfs_objects.specs.declared.address.Addr.{Addr}
use Rattle.nfs_objects.specs.declared.address.Addr.TheVariants as addresses
use Rattle.nfs_objects.specs.declared.change.Missing.{Missing}
use Rattle.nfs_objects.proofs.UsageSumLemmas.{AllFit, turned-fit}
use Rattle.nfs_inodes.proofs.LivedBeforeLemmas.{LivesAsBefore, lived-both, lived-given, lived-left, lived-rehomed}
use Rattle.nfs_inodes.proofs.LivedBeforeLemmas.{lived-same}
use Rattle.nfs_inodes.proofs.LivedBeforeLemmas.{usage-there}
use Rattle.nfs_inodes.proofs.RenameKeepsLemmas.{changes-are, directory_over, kept_moved, moved-sound, moved-state}
use Rattle.nfs_inodes.proofs.RenameKeepsLemmas.{one_if}
use Rattle.nfs_inodes.proofs.StandsLemmas.{directory-listed, kind-is, known-lives}
use Rattle.nfs_inodes.specs.Known.{ChecksDirectory, IsKnown, IsObject, Means, Names, content_at, last_cookie_of, listed}
use Rattle.nfs_inodes.specs.Known.{new_cookie, object_at, target, weak_of}
use Rattle.nfs_inodes.specs.Makes.{link_lost}
use Rattle.nfs_inodes.specs.Renames.{name_given, name_left, rehomed}
use Rattle.nfs_inodes.proofs.ReaderHaltLemmas.{any-stops, lives-stops, stops-before}
use Rattle.nfs_inodes.specs.Entered.{grown_at}
use Rattle.nfs_inodes.specs.Stops.{StopsAt, UsageLives}
use Rattle.nfs_inodes.specs.declared.found.Known.{Known}
use Rattle.nfs_inodes.specs.declared.kinds.KnownDirectory as kinds
use Rattle.nfs_names.proofs.MakeObjectLemmas.{a-cookie, no-cookie}
use Rattle.nfs_names.proofs.LookupLemmas.{lives-at}
use Rattle.nfs_names.specs.Renames.{ComesToBoth, IsRenameEnd, IsRenaming, IsUnder, both_found, entry_moved}
use Rattle.nfs_inodes.specs.Removes.{is_directory_type}
use Rattle.nfs_names.specs.Renames.{is_one_directory, links_given, links_left, names_counted}
use Rattle.nfs_names.specs.Renames.{rename_checked, renamed, replaced_lost}
use Rattle.nfs_names.specs.declared.rename.Places.{Places}
use Rattle.nfs_names.specs.declared.rename.Renaming.{Renaming}

abbrev RenameEnd : Type 0
RenameEnd = Result (Unit {0} × State) NfsStatus

-- ---- an end that changes nothing
stays-same : (r : Result (Unit {0}) NfsStatus) (m : State) → m ≡ state_after m (ending r m)
stays-same (Ok x) m = refl
stays-same (Err e) m = refl

module _ (d : DraftValue) (a : RenameArguments) where
  -- the machine comes to this end, whatever test tells what is within what
  abbrev pub EndsSo : RenameEnd → StoreMeaning → Type 0
  EndsSo end k = (is_within : (upper lower : ℕ) → Bool) → TellsWithin k.state is_within →
      rename_end k.state d.ctx a is_within ≡ end

  pub settled-does : (result : Result (Unit {0}) NfsStatus) →
      ((s : Store) (k : StoreMeaning) → Possible d s k → WellFormed k.state → EndsSo (ending result k.state) k)
      → Does d d (IsRenameEnd d.ctx a) result
  settled-does result ends = record {
    op = λ k. k;
    turns = turns-none d;
    sound = λ s k w formed. w.sound;
    ends = λ s k w formed. (let t = within-told k.state formed in (t.0, t.1, ends s k w formed t.0 t.1));
    stays = λ k. stays-same result k.state;
  }

-- ---- kinds
kind-of : (c : Content) → is_directory c ≡ is_directory_type (type_of c)
kind-of (Directory entries last) = refl
kind-of (Regular bytes) = refl
kind-of (Link text) = refl
kind-of (BlockDevice device) = refl
kind-of (CharacterDevice device) = refl
kind-of Socket = refl
kind-of Fifo = refl

no-directory : (c : Content) (e : NfsStatus) → entries_in c ≡ Err e → is_directory c ≡ false
no-directory (Directory entries last) e is = cc
no-directory (Regular bytes) e is = refl
no-directory (Link text) e is = refl
no-directory (BlockDevice device) e is = refl
no-directory (CharacterDevice device) e is = refl
no-directory Socket e is = refl
no-directory Fifo e is = refl

pub known-kind : (m : State) (x : Known) → IsKnown m x →
    is_directory (content_at m x.number) ≡ is_directory_type x.attributes.kind
known-kind m x is = kind-of (content_at m x.number) ∙ ap is_directory_type (kind-is m x is)

pub known-links : (m : State) (x : Known) → IsKnown m x →
    x.attributes.links ≡ links_of m x.number (content_at m x.number)
known-links m x is = ap (λ (b : Attributes). b.links) is.shows

-- ---- the checks of both directories
-- what comes after them
module _ (d : DraftValue) (a : RenameArguments) (x y : Known) (m : State) (is_within : (upper lower : ℕ) →
    Bool) where
  abbrev tail : (from_entries to_entries : DirectoryEntries) → Option Named → Option Named → RenameEnd
  tail from_entries to_entries moved replaced = ok_or moved status.NoEntry >>= λ o.
      move_end m (time_of d.ctx.moment) a is_within (target m x) (target m y) from_entries to_entries o replaced

  abbrev rest : (from_entries to_entries : DirectoryEntries) → RenameEnd
  rest from_entries to_entries = tail from_entries to_entries
      (object_under m (entry_of from_entries.list a.from.name)) (object_under m (entry_of to_entries.list a.to.name))

-- they decide, or the rest
comes-of : (d : DraftValue) (a : RenameArguments) (x y : Known) (checked : Result Places NfsStatus) (k : StoreMeaning) →
    Names d.ctx a.from.directory k x → Names d.ctx a.to.directory k y →
    ComesToBoth (rename_checked k.state.exports d.ctx a) x y checked → (is_within : (upper lower : ℕ) → Bool) →
    rename_end k.state d.ctx a is_within ≡
    both_found (content_at k.state x.number) (content_at k.state y.number) (rest d a x y k.state is_within) checked
comes-of d a x y checked k from to passes is_within =
    passed _ from.names (passed _ to.names
    (passes (content_at k.state x.number) (content_at k.state y.number) (rest d a x y k.state is_within)
    (kind-is k.state x from.known) (kind-is k.state y to.known)))

module _ (d : DraftValue) (a : RenameArguments) (x y : Known)
    (from : Knows d (λ k. Names d.ctx a.from.directory k x)) (to : Knows d (λ k. Names d.ctx a.to.directory k y))
    (exports : List LivingExport) (lists : Knows d (λ k. k.state.exports ≡ exports)) where
  comes : (checked : Result Places NfsStatus) → ComesToBoth (rename_checked exports d.ctx a) x y checked →
      (s : Store) (k : StoreMeaning) → Possible d s k → (is_within : (upper lower : ℕ) → Bool) →
      rename_end k.state d.ctx a is_within ≡
      both_found (content_at k.state x.number) (content_at k.state y.number) (rest d a x y k.state is_within) checked
  comes checked passes s k w =
      comes-of d a x y checked k (from s k w) (to s k w)
      (subst (λ es. ComesToBoth (rename_checked es d.ctx a) x y checked) (sym (lists s k w)) passes)

  pub check-refused : (e : NfsStatus) → ComesToBoth (rename_checked exports d.ctx a) x y (Err e) →
      (s : Store) (k : StoreMeaning) → Possible d s k → WellFormed k.state → EndsSo d a (Err e) k
  check-refused e refuses s k w formed = λ is_within tells. comes (Err e) refuses s k w is_within

  module _ (places : Places) (passes : ComesToBoth (rename_checked exports d.ctx a) x y (Ok places)) where
    pub no-source : Knows d (λ k. IsUnder k.state x a.from.name None) →
        (s : Store) (k : StoreMeaning) → Possible d s k → WellFormed k.state → EndsSo d a (Err status.NoEntry) k
    no-source none s k w formed = λ is_within tells.
        comes (Ok places) passes s k w is_within ∙ failed _ (ap (λ o. ok_or o status.NoEntry) (none s k w).0)

    pub is-renaming : places.from.known ≡ x → places.to.known ≡ y → x.export ≡ y.export →
        (moved : Known) (replaced : Option Known) →
        Knows d (λ k. IsUnder k.state x a.from.name (Some moved)) →
        Knows d (λ k. IsUnder k.state y a.to.name replaced) →
        Knows d (λ k. IsRenaming k d.ctx a
        (record { from = places.from; to = places.to; moved = moved; replaced = replaced }))
    is-renaming from-is to-is one moved replaced leads over s k w = record {
      from = subst (λ z. Names d.ctx a.from.directory k z) (sym from-is) (from s k w);
      to = subst (λ z. Names d.ctx a.to.directory k z) (sym to-is) (to s k w);
      export = ap (λ (z : Known). z.export) from-is ∙ one ∙ sym (ap (λ (z : Known). z.export) to-is);
      passes = subst (λ es. ComesToBoth (rename_checked es d.ctx a) places.from.known places.to.known (Ok places))
          (sym (lists s k w))
          (subst (λ z. ComesToBoth (rename_checked exports d.ctx a) z places.to.known (Ok places)) (sym from-is)
          (subst (λ z. ComesToBoth (rename_checked exports d.ctx a) x z (Ok places)) (sym to-is) passes));
      moved = subst (λ z. IsUnder k.state z a.from.name (Some moved)) (sym from-is) (leads s k w);
      replaced = subst (λ z. IsUnder k.state z a.to.name replaced) (sym to-is) (over s k w);
    }

-- ---- what a name leads to
pub under-none : (d : DraftValue) (x : Known) (name : List ℕ) →
    Knows d (λ k. option_map (λ (e : Entry). e.number) (entry_of (entries_of (content_at k.state x.number)) name) ≡
    None)
    → Knows d (λ k. IsUnder k.state x name None)
under-none d x name none s k w = (by (entry_of (entries_of (content_at k.state x.number)) name) (none s k w), tt)
  where
    by : (f : Option Entry) → option_map (λ (e : Entry). e.number) f ≡ None → object_under k.state f ≡ None
    by None is = refl
    by (Some e) is = cc

pub under-number : (d : DraftValue) (x : Known) (name : List ℕ) (number : ℕ) (found : Option Known)
    → Knows d (λ k. option_map (λ (e : Entry). e.number) (entry_of (entries_of (content_at k.state x.number)) name)
    ≡ Some number) → Knows d (λ k. IsObject k.state number found)
    → Knows d (λ k. IsUnder k.state x name found)
under-number d x name number found leads is s k w = (
  by (entry_of (entries_of (content_at k.state x.number)) name)
      (leads s k w) ∙ at found (is s k w),
  known found (is s k w),
)
  where
    by : (f : Option Entry) → option_map (λ (e : Entry). e.number) f ≡ Some number →
        object_under k.state f ≡ option_map (λ (o : Living). record { number = number; object = o })
        (get k.state.objects number)
    by None is = cc
    by (Some e) is = (let same : e.number ≡ number = cc in ap
        (λ n. option_map (λ (o : Living). record { number = n; object = o }) (get k.state.objects n)) same)

    at : (f : Option Known) → IsObject k.state number f →
        option_map (λ (o : Living). record { number = number; object = o }) (get k.state.objects number) ≡
        option_map (target k.state) f
    at None none = ap (option_map (λ (o : Living). record { number = number; object = o })) none
    at (Some z) there =
        ap (option_map (λ (o : Living). record { number = number; object = o })) (lives-at k.state number z there)
        ∙ ap (λ n. Some (record { number = n; object = object_at k.state z })) (sym there.0)

    known : (f : Option Known) → IsObject k.state number f → IfSome f (IsKnown k.state)
    known None none = tt
    known (Some z) there = there.1

pub reads-under : (d : DraftValue) (x : Known) (name : List ℕ) (number : ℕ) (r : Result (Option Known) Missing)
    → Knows d (λ k. option_map (λ (e : Entry). e.number) (entry_of (entries_of (content_at k.state x.number)) name)
    ≡ Some number) → IsThere d.view (addresses.Inode number)
    → MatchResult r (λ found. Knows d (λ k. IsObject k.state number found)) (StopsAt d (addresses_of d.view number))
    → MatchResult r (λ found. Knows d (λ k. IsUnder k.state x name found)) (StopsAt d [])
reads-under d x name number (Ok found) leads lives is = under-number d x name number found leads is
reads-under d x name number (Err halt) leads lives stops = lives-stops d number halt lives stops

-- ---- the rest of the checks
map-or : {A B C : Type 0} (f : A → B) (g : C → A) (o : Option C) (b : B) →
    option_map_or f (option_map g o) b ≡ option_map_or (λ x. f (g x)) o b
map-or f g None b = refl
map-or f g (Some x) b = refl

map-some : {A B : Type 0} (f : A → B) (o : Option A) → is_some (option_map f o) ≡ is_some o
map-some f None = refl
map-some f (Some x) = refl

-- two tests that tell the same
same-test : (a b : Bool) (P : Type 0) → (a ≡ true) ↔ P → (b ≡ true) ↔ P → a ≡ b
same-test true true P f g = refl
same-test false false P f g = refl
same-test true false P f g = sym (g.1 (f.0 refl))
same-test false true P f g = f.1 (g.0 refl)

module _ (d : DraftValue) (a : RenameArguments) (r : Renaming) (finds : Knows d (λ k. IsRenaming k d.ctx a r)) where
  abbrev x : Known
  x = r.from.known

  abbrev y : Known
  y = r.to.known

  abbrev over : State → Option Named
  over m = option_map (target m) r.replaced

  abbrev now : Time
  now = time_of d.ctx.moment

  abbrev last : State → ℕ
  last m = last_cookie_of (content_at m y.number)

  abbrev pub move_of : State → Move
  move_of m = record {
    from = named_as (target m x) (listed (content_at m x.number)) a.from.name (target m r.moved);
    target = y.number;
    directory = object_at m y;
    entries = entries_of (content_at m y.number);
    last_cookie = last m;
    name = a.to.name;
    replaced = over m;
  }

  -- the end by the outcomes of the checks
  abbrev by_checks : State → (one fits within room next : Bool) → RenameEnd
  by_checks m one fits within room next = cond one (Ok (tt, m))
      (holding fits status.Exists >>= λ _. holding (not within) status.Invalid >>= λ _.
      holding room status.TooManyLinks >>= λ _. holding next status.NoSpace >>= λ _. Ok
      (tt, with_moved m now (move_of m)))

  abbrev is_one : Bool
  is_one = option_map_or (λ (o : Known). o.number == r.moved.number) r.replaced false

  abbrev has_room : Bool
  has_room = not (is_directory_type r.moved.attributes.kind) || is_one_directory r || is_some r.replaced || nat_lt
      y.attributes.links link_limit

  abbrev fits : State → Bool
  fits m = option_map_or (λ (o : Known). is_compatible (content_at m r.moved.number) (content_at m o.number))
      r.replaced true

  found-ends : (s : Store) (k : StoreMeaning) → Possible d s k → (is_within : (upper lower : ℕ) → Bool) →
      rename_end k.state d.ctx a is_within ≡ move_end k.state now a is_within (target k.state x) (target k.state y)
      (listed (content_at k.state x.number)) (listed (content_at k.state y.number)) (target k.state r.moved)
      (over k.state)
  found-ends s k w is_within =
      let m = k.state in
      let f = finds s k w in
      let from_entries = listed (content_at m x.number) in
      let to_entries = listed (content_at m y.number) in
      comes-of d a x y (Ok (record { from = r.from; to = r.to })) k f.from f.to f.passes is_within
      ∙ ap (λ o. tail d a x y m is_within from_entries to_entries o
      (object_under m (entry_of (entries_of (content_at m y.number)) a.to.name))) f.moved.0
      ∙ ap (λ o. tail d a x y m is_within from_entries to_entries (Some (target m r.moved)) o) f.replaced.0

  ends-by : (s : Store) (k : StoreMeaning) → Possible d s k → (is_within : (upper lower : ℕ) → Bool)
      → rename_end k.state d.ctx a is_within ≡ by_checks k.state is_one (fits k.state)
      (is_within r.moved.number y.number) has_room (nat_lt (last k.state + 1) (2 ^ 64))
  ends-by s k w is_within =
      let m = k.state in
      let f = finds s k w in
      let moved : IsKnown m r.moved = f.moved.1 in
      found-ends s k w is_within
      ∙ ap (λ b. by_checks m b (option_map_or (λ (o : Named). is_compatible (content_at m r.moved.number)
      o.object.content) (over m) true) (is_within r.moved.number y.number)
      (not (is_directory (content_at m r.moved.number)) || is_one_directory r || is_some (over m) || nat_lt
      (links_of m y.number (content_at m y.number)) link_limit) (nat_lt (last m + 1) (2 ^ 64)))
      (map-or (λ (o : Named). o.number == r.moved.number) (target m) r.replaced false)
      ∙ ap (λ b. by_checks m is_one b (is_within r.moved.number y.number)
      (not (is_directory (content_at m r.moved.number)) || is_one_directory r || is_some (over m) || nat_lt
      (links_of m y.number (content_at m y.number)) link_limit) (nat_lt (last m + 1) (2 ^ 64)))
      (map-or (λ (o : Named). is_compatible (content_at m r.moved.number) o.object.content) (target m) r.replaced true)
      ∙ ap (λ b. by_checks m is_one (fits m) (is_within r.moved.number y.number)
      (not b || is_one_directory r || is_some (over m) || nat_lt (links_of m y.number (content_at m y.number))
      link_limit) (nat_lt (last m + 1) (2 ^ 64)))
      (known-kind m r.moved moved)
      ∙ ap (λ b. by_checks m is_one (fits m) (is_within r.moved.number y.number)
      (not (is_directory_type r.moved.attributes.kind) || is_one_directory r || b || nat_lt
      (links_of m y.number (content_at m y.number)) link_limit) (nat_lt (last m + 1) (2 ^ 64)))
      (map-some (target m) r.replaced)
      ∙ ap (λ n. by_checks m is_one (fits m) (is_within r.moved.number y.number)
      (not (is_directory_type r.moved.attributes.kind) || is_one_directory r || is_some r.replaced || nat_lt n
      link_limit) (nat_lt (last m + 1) (2 ^ 64)))
      (sym (known-links m y f.to.known))

  pub ends-one : is_one ≡ true → (s : Store) (k : StoreMeaning) → Possible d s k → WellFormed k.state →
      EndsSo d a (Ok (tt, k.state)) k
  ends-one one s k w formed = λ is_within tells.
      ends-by s k w is_within ∙ ap (λ b. by_checks k.state b (fits k.state) (is_within r.moved.number y.number)
      has_room (nat_lt (last k.state + 1) (2 ^ 64))) one

  module _ (one : is_one ≡ false) where
    abbrev Fits : Bool → Type 0
    Fits b = Knows d (λ k. fits k.state ≡ b)

    ends-other : (s : Store) (k : StoreMeaning) → Possible d s k → (is_within : (upper lower : ℕ) → Bool)
        → rename_end k.state d.ctx a is_within ≡ by_checks k.state false (fits k.state)
        (is_within r.moved.number y.number) has_room (nat_lt (last k.state + 1) (2 ^ 64))
    ends-other s k w is_within =
        ends-by s k w is_within ∙ ap (λ b. by_checks k.state b (fits k.state) (is_within r.moved.number y.number)
        has_room (nat_lt (last k.state + 1) (2 ^ 64))) one

    pub ends-exists : Fits false → (s : Store) (k : StoreMeaning) → Possible d s k → WellFormed k.state →
        EndsSo d a (Err status.Exists) k
    ends-exists unfit s k w formed = λ is_within tells.
        ends-other s k w is_within ∙ ap (λ b. by_checks k.state false b (is_within r.moved.number y.number) has_room
        (nat_lt (last k.state + 1) (2 ^ 64))) (unfit s k w)

    module _ (fit : Fits true) where
      abbrev Within : Bool → Type 0
      Within b = Knows d (λ k. WellFormed k.state → (b ≡ true) ↔ IsWithin k.state r.moved.number y.number)

      directory-there : (s : Store) (k : StoreMeaning) → Possible d s k → y.attributes.kind ≡ types.Directory →
          is_living_directory (get k.state.objects y.number) ≡ true
      directory-there s k w kind =
          ap is_living_directory (finds s k w).to.known.lives ∙ known-kind k.state y (finds s k w).to.known
          ∙ ap is_directory_type kind

      ends-within : (b : Bool) → Within b → (s : Store) (k : StoreMeaning) → Possible d s k → WellFormed k.state →
          (is_within : (upper lower : ℕ) → Bool) → TellsWithin k.state is_within
          → rename_end k.state d.ctx a is_within ≡
          by_checks k.state false true b has_room (nat_lt (last k.state + 1) (2 ^ 64))
      ends-within b within s k w formed is_within tells =
          ends-other s k w is_within
          ∙ ap (λ f. by_checks k.state false f (is_within r.moved.number y.number) has_room
          (nat_lt (last k.state + 1) (2 ^ 64))) (fit s k w)
          ∙ ap (λ i. by_checks k.state false true i has_room (nat_lt (last k.state + 1) (2 ^ 64)))
          (same-test (is_within r.moved.number y.number) b (IsWithin k.state r.moved.number y.number)
          (tells r.moved.number y.number (directory-there s k w r.to.kind)) (within s k w formed))

      pub ends-invalid : Within true → (s : Store) (k : StoreMeaning) → Possible d s k → WellFormed k.state →
          EndsSo d a (Err status.Invalid) k
      ends-invalid within s k w formed = λ is_within tells. ends-within true within s k w formed is_within tells

      module _ (out : Within false) where
        pub ends-links : has_room ≡ false → (s : Store) (k : StoreMeaning) → Possible d s k → WellFormed k.state →
            EndsSo d a (Err status.TooManyLinks) k
        ends-links full s k w formed = λ is_within tells.
            ends-within false out s k w formed is_within tells
            ∙ ap (λ b. by_checks k.state false true false b (nat_lt (last k.state + 1) (2 ^ 64))) full

        module _ (room : has_room ≡ true) where
          ends-room : (s : Store) (k : StoreMeaning) → Possible d s k → WellFormed k.state →
              (is_within : (upper lower : ℕ) → Bool) → TellsWithin k.state is_within
              → rename_end k.state d.ctx a is_within ≡
              by_checks k.state false true false true (nat_lt (last k.state + 1) (2 ^ 64))
          ends-room s k w formed is_within tells =
              ends-within false out s k w formed is_within tells
              ∙ ap (λ b. by_checks k.state false true false b (nat_lt (last k.state + 1) (2 ^ 64))) room

          pub ends-space : Knows d (λ k. new_cookie (last k.state) ≡ None) → (s : Store) (k : StoreMeaning) →
              Possible d s k → WellFormed k.state → EndsSo d a (Err status.NoSpace) k
          ends-space none s k w formed = λ is_within tells.
              ends-room s k w formed is_within tells
              ∙ failed (λ _. Ok (tt, with_moved k.state now (move_of k.state)))
              (no-cookie (nat_lt (last k.state + 1) (2 ^ 64)) _ status.NoSpace (none s k w))

          -- ---- the change
          module _ (cookie : ℕ) (next : Knows d (λ k. new_cookie (last k.state) ≡ Some cookie)) where
            has-cookie : (s : Store) (k : StoreMeaning) → Possible d s k →
                (holding (nat_lt (last k.state + 1) (2 ^ 64)) status.NoSpace ≡ Ok tt) × (last k.state + 1 ≡ cookie)
            has-cookie s k w = a-cookie (nat_lt (last k.state + 1) (2 ^ 64)) (last k.state + 1) cookie status.NoSpace
                (next s k w)

            listed-is : (m : State) (z : Known) → IsKnown m z → z.attributes.kind ≡ types.Directory →
                content_at m z.number ≡ Directory (entries_of (content_at m z.number))
                (last_cookie_of (content_at m z.number))
            listed-is m z is kind = facts.is-directory (content_at m z.number) (listed (content_at m z.number))
                (directory-listed (content_at m z.number) (kind-is m z is ∙ kind))

            begun : (s : Store) (k : StoreMeaning) → Possible d s k → IsBegun k.state (move_of k.state)
            begun s k w =
                let m = k.state in
                let f = finds s k w in
                record {
                  from = is-under m (target m x) (listed (content_at m x.number)) a.from.name (target m r.moved)
                      f.from.known.lives (listed-is m x f.from.known r.from.kind) f.moved.0;
                  lives = f.to.known.lives;
                  content = listed-is m y f.to.known r.to.kind;
                  export = f.export;
                  over = sym f.replaced.0;
                }

            -- what has the new name is another object, and may be replaced
            is-move : (s : Store) (k : StoreMeaning) → Possible d s k → IsMove k.state (move_of k.state)
            is-move s k w = by r.replaced refl
              where
                by : (o : Option Known) → r.replaced ≡ o → IsMove k.state (move_of k.state)
                by None e = moves-free k.state (move_of k.state) (begun s k w) (ap (option_map (target k.state)) e)
                by (Some o) e =
                    moves-over k.state (move_of k.state) (begun s k w) (target k.state o)
                    (ap (option_map (target k.state)) e)
                    (sym (ap (λ z. option_map_or (λ (o : Known). o.number == r.moved.number) z false) e) ∙ one)
                    (sym (ap (λ z. option_map_or (λ (o : Known). is_compatible (content_at k.state r.moved.number)
                    (content_at k.state o.number)) z true) e) ∙ fit s k w)

            stays-out : (s : Store) (k : StoreMeaning) → Possible d s k → WellFormed k.state →
                GoesIntoItself k.state (move_of k.state) → ⊥
            stays-out s k w formed into = (let no : false ≡ true = (out s k w formed).1 into.1 in cc)

            -- ---- links
            module _ (s : Store) (k : StoreMeaning) (w : Possible d s k) (formed : WellFormed k.state) where
              abbrev m : State
              m = k.state

              f : IsRenaming k d.ctx a r
              f = finds s k w

              -- a directory has two links at least
              directory-links : (z : Known) → IsKnown m z → z.attributes.kind ≡ types.Directory →
                  2 ≤ z.attributes.links
              directory-links z is kind =
                  let links = known-links m z is in
                  let more : 2 ≤ links_of m z.number (content_at m z.number) =
                  subst (λ c. 2 ≤ links_of m z.number c) (sym (listed-is m z is kind)) (omega arith) in
                  omega (arith, links, more)

              over-kinds : (o : Option Known) → IfSome o (IsKnown m) →
                  directory_over (option_map (target m) o) ≡
                  one_if (elim o [ None ↦ false | Some z ↦ is_directory_type z.attributes.kind ])
              over-kinds None is = refl
              over-kinds (Some z) is = ap one_if (known-kind m z is)

              lefts : is_one_directory r ≡ false →
                  links_left r + one_if (is_directory (content_at m r.moved.number)) ≡
                  links_of m x.number (content_at m x.number)
              lefts two =
                  let links = known-links m x f.from.known in
                  let two-links = directory-links x f.from.known r.from.kind in
                  ap (λ b. links_left r + one_if b) (known-kind m r.moved f.moved.1)
                  ∙ by (is_directory_type r.moved.attributes.kind) links two-links
                where
                  by : (b : Bool) → x.attributes.links ≡ links_of m x.number (content_at m x.number) →
                      2 ≤ x.attributes.links
                      → cond b (x.attributes.links - 1) x.attributes.links + one_if b ≡
                      links_of m x.number (content_at m x.number)
                  by true links some = omega (arith, links, some)
                  by false links some = omega (arith, links)

              abbrev replaces : Option Known → Bool
              replaces o = elim o [ None ↦ false | Some z ↦ is_directory_type z.attributes.kind ]

              -- where a directory comes and none goes, there is room
              small : (o : Option Known) → r.replaced ≡ o → is_directory_type r.moved.attributes.kind ≡ true →
                  is_one_directory r ≡ false → replaces o ≡ false → y.attributes.links < link_limit
              small None e brings two goes =
                  let less : nat_lt y.attributes.links link_limit ≡ true =
                  sym (ap (λ b. not b || is_one_directory r || is_some r.replaced || nat_lt y.attributes.links
                  link_limit) brings
                  ∙ ap (λ b. not true || b || is_some r.replaced || nat_lt y.attributes.links link_limit) two
                  ∙ ap (λ (z : Option Known). not true || false || is_some z || nat_lt y.attributes.links link_limit)
                  e) ∙ room in
                  ltb-true y.attributes.links link_limit less
              small (Some z) e brings two goes =
                  let may : is_compatible (content_at m r.moved.number) (content_at m z.number) ≡ true =
                  sym (ap (λ q. option_map_or (λ (o : Known). is_compatible (content_at m r.moved.number)
                  (content_at m o.number)) q true) e) ∙ fit s k w in
                  let known : IsKnown m z = subst (λ (q : Option Known). IfSome q (IsKnown m)) e f.replaced.1 in
                  let empty : Bool = facts.are_none (entries_of (content_at m z.number)) in
                  let no : false ≡ true =
                  sym (ap (λ b. (b && is_directory (content_at m z.number) && empty) ||
                  (not b && not (is_directory (content_at m z.number)))) (known-kind m r.moved f.moved.1 ∙ brings)
                  ∙ ap (λ b. (true && b && empty) || (not true && not b)) (known-kind m z known ∙ goes)) ∙ may in
                  cc

              gives : links_given r + directory_over (over m) ≡ links_of m y.number (content_at m y.number) + cond
                  (is_one_directory r) 0 (one_if (is_directory (content_at m r.moved.number)))
              gives =
                  let links = known-links m y f.to.known in
                  let two-links = directory-links y f.to.known r.to.kind in
                  ap (λ n. links_given r + n) (over-kinds r.replaced f.replaced.1)
                  ∙ by (is_directory_type r.moved.attributes.kind) (is_one_directory r) (replaces r.replaced)
                  (small r.replaced refl) links two-links
                  ∙ ap (λ b. links_of m y.number (content_at m y.number) + cond (is_one_directory r) 0 (one_if b))
                  (sym (known-kind m r.moved f.moved.1))
                where
                  by : (moves one goes : Bool) → (moves ≡ true → one ≡ false → goes ≡ false →
                      y.attributes.links < link_limit) →
                      y.attributes.links ≡ links_of m y.number (content_at m y.number) → 2 ≤ y.attributes.links
                      → cond (moves && not one) (cond goes y.attributes.links
                      (min (y.attributes.links + 1) (2 ^ 32 - 1)))
                      (cond goes (y.attributes.links - 1) y.attributes.links) + one_if goes
                      ≡ links_of m y.number (content_at m y.number) + cond one 0 (one_if moves)
                  by true true true less links some = omega (arith, links, some)
                  by true true false less links some = omega (arith, links)
                  by true false true less links some = omega (arith, links)
                  by true false false less links some =
                      (let few : y.attributes.links < 32000 = less refl refl refl in omega (arith, links, few))
                  by false true true less links some = omega (arith, links, some)
                  by false true false less links some = omega (arith, links)
                  by false false true less links some = omega (arith, links, some)
                  by false false false less links some = omega (arith, links)

              abbrev names : Option Known → ℕ
              names o = elim o [ None ↦ 0 | Some z ↦ names_counted z ]

              names-of : (z : Known) → r.replaced ≡ Some z → names_counted z ≡ names_of m z.number
              names-of z e =
                  let known : IsKnown m z = subst (λ (q : Option Known). IfSome q (IsKnown m)) e f.replaced.1 in
                  let links = known-links m z known in
                  elim (is_directory_type z.attributes.kind) as (λ b. is_directory_type z.attributes.kind ≡ b →
                  cond b 1 z.attributes.links ≡ names_of m z.number) [
                    | true ↦ λ is.
                        let kind : is_directory (content_at m z.number) ≡ true = known-kind m z known ∙ is in
                        let most = formed.one_name z.number (object_at m z) known.lives kind in
                        let found = under-entry m (entry_of (entries_of (content_at m y.number)) a.to.name) (target m z)
                        (f.replaced.0 ∙ ap (option_map (target m)) e) in
                        let leads = entry-leads m formed y.number (object_at m y) (entries_of (content_at m y.number))
                        (last m) f.to.known.lives (listed-is m y f.to.known r.to.kind) a.to.name found.0 found.1 in
                        let some = formed.named z.number (object_at m z) known.lives
                        (ap (is_root m) (sym found.2) ∙ leads.no_root) in
                        omega (arith, most, some)
                    | false ↦ λ is. links ∙ links-names m z.number (content_at m z.number)
                        (known-kind m z known ∙ is)
                  ] refl

              counts : (o : Named) → over m ≡ Some o → names r.replaced ≡ names_of m o.number
              counts o some = by r.replaced refl some
                where
                  by : (q : Option Known) → r.replaced ≡ q → option_map (target m) q ≡ Some o →
                      names q ≡ names_of m o.number
                  by None e is = cc
                  by (Some z) e is = (let same : target m z ≡ o = cc in names-of z e
                      ∙ ap (λ (p : Named). names_of m p.number) same)

              lost-same : (q : Option Known) (h : StoreMeaning) → ◌≡◌ {A = StoreMeaning}
                  (elim q [ None ↦ h | Some o ↦ link_lost now o.number (names_counted o) h ])
                  (elim (option_map (target m) q) [ None ↦ h | Some o ↦ link_lost now o.number (names q) h ])
              lost-same None h = refl
              lost-same (Some z) h = refl

              op-is : renamed now a r cookie k ≡ kept_moved now (move_of m) k (links_left r) (links_given r)
                  (names r.replaced) (over m)
              op-is =
                  ap (replaced_lost now r)
                  (changes-are k now (move_of m) (is-move s k w) formed (stays-out s k w formed) w.sound (links_left r)
                  (links_given r) lefts gives (is_one_directory r) refl cookie (has-cookie s k w).1)
                  ∙ lost-same r.replaced _

              op-sound : AllFit (renamed now a r cookie k).state → Sound (renamed now a r cookie k)
              op-sound fit = subst Sound (sym op-is)
                  (moved-sound k now (move_of m) (is-move s k w) formed (stays-out s k w formed) w.sound (links_left r)
                  (links_given r) lefts gives (names r.replaced) counts
                  (subst (λ (q : StoreMeaning). AllFit q.state) op-is fit))

              op-state : (renamed now a r cookie k).state ≡ with_moved m now (move_of m)
              op-state = ap (λ (q : StoreMeaning). q.state) op-is
                  ∙ moved-state k now (move_of m) (is-move s k w) formed (stays-out s k w formed) w.sound
                  (links_left r) (links_given r) lefts gives (names r.replaced) counts

            pub moved-does : (new : DraftValue) → Turns d new (renamed now a r cookie) →
                Does d new (IsRenameEnd d.ctx a) (Ok tt)
            moved-does new turns = record {
              op = renamed now a r cookie;
              turns = turns;
              sound = λ s k w formed. op-sound s k w formed (turned-fit d new (renamed now a r cookie) turns s k w);
              ends = λ s k w formed.
                  let t = within-told k.state formed in (
                    t.0,
                    t.1,
                    ends-room s k w formed t.0 t.1
                        ∙ passed (λ _. Ok (tt, with_moved k.state now (move_of k.state))) (has-cookie s k w).0
                        (ap (λ m. Ok (tt, m)) (sym (op-state s k w formed))),
                  );
              stays = λ k. refl;
            }

-- ---- what may be replaced
module _ (d : DraftValue) (moved : Known) (known : Knows d (λ k. IsKnown k.state moved)) where
  abbrev Replaceable : Option Known → Bool → Type 0
  Replaceable replaced b = Knows d (λ k. option_map_or
      (λ (o : Known). is_compatible (content_at k.state moved.number) (content_at k.state o.number)) replaced true ≡
      b)

  abbrev compatible : (a b e : Bool) → Bool
  compatible a b e = (a && b && e) || (not a && not b)

  module _ (o : Known) (there : Knows d (λ k. IsKnown k.state o)) where
    by-kinds : (s : Store) (k : StoreMeaning) → Possible d s k → (a b : Bool) →
        is_directory_type moved.attributes.kind ≡ a → is_directory_type o.attributes.kind ≡ b
        → is_compatible (content_at k.state moved.number) (content_at k.state o.number) ≡
        compatible a b (facts.are_none (entries_of (content_at k.state o.number)))
    by-kinds s k w a b first second =
        ap (λ q. compatible q (is_directory (content_at k.state o.number))
        (facts.are_none (entries_of (content_at k.state o.number)))) (known-kind k.state moved (known s k w) ∙ first)
        ∙ ap (λ q. compatible a q (facts.are_none (entries_of (content_at k.state o.number))))
        (known-kind k.state o (there s k w) ∙ second)

    pub over-plain : is_directory_type moved.attributes.kind ≡ false → (b : Bool) →
        is_directory_type o.attributes.kind ≡ b → Replaceable (Some o) (not b)
    over-plain plain b kind s k w = by-kinds s k w false b plain kind

    pub over-directory : is_directory_type moved.attributes.kind ≡ true
        → (r : Result kinds.KnownDirectory NfsStatus) →
        ChecksDirectory o r → (e : NfsStatus) → r ≡ Err e → Replaceable (Some o) false
    over-directory moves r checks e is s k w =
        let none : is_directory (content_at k.state o.number) ≡ false =
        no-directory (content_at k.state o.number) e (subst
        (λ q. MatchResult q (λ _. entries_in (content_at k.state o.number) ≡
        Ok (listed (content_at k.state o.number))) (λ e. entries_in (content_at k.state o.number) ≡ Err e)) is
        (checks (content_at k.state o.number) (kind-is k.state o (there s k w)))) in
        by-kinds s k w true false moves (sym (known-kind k.state o (there s k w)) ∙ none)

    pub over-empty : is_directory_type moved.attributes.kind ≡ true → (directory : kinds.KnownDirectory) →
        directory.known ≡ o → (r : Result Bool Missing)
        → MatchResult r (λ empty. Knows d (λ k. facts.are_none
        (entries_of (content_at k.state directory.known.number)) ≡ empty))
        (StopsAt d (addresses_of d.view directory.known.number))
        → d.writes ≡ [] → MatchResult r (Replaceable (Some o)) (StopsAt d [])
    over-empty moves directory same (Ok empty) reads none = λ s k w.
        by-kinds s k w true true moves (ap (λ (z : Known). is_directory_type z.attributes.kind) (sym same)
        ∙ ap is_directory_type directory.kind)
        ∙ or-none (facts.are_none (entries_of (content_at k.state o.number)))
        ∙ ap (λ (z : Known). facts.are_none (entries_of (content_at k.state z.number))) (sym same) ∙ reads s k w
      where
        or-none : (b : Bool) → (b || false) ≡ b
        or-none true = refl
        or-none false = refl
    over-empty moves directory same (Err halt) stops none =
        lives-stops d directory.known.number halt (known-lives d directory.known none
        (subst (λ z. Knows d (λ k. IsKnown k.state z)) (sym same) there)) stops

-- ---- nothing is within what is no directory
pub plain-outside : (d : DraftValue) (moved : Known) (lower : kinds.KnownDirectory) →
    Knows d (λ k. IsKnown k.state moved) → Knows d (λ k. IsKnown k.state lower.known) →
    is_directory_type moved.attributes.kind ≡ false
    → Knows d (λ k. WellFormed k.state → (false ≡ true) ↔ IsWithin k.state moved.number lower.known.number)
plain-outside d moved lower known below plain s k w formed = (
  (λ x. cc),
  (λ within.
      let kind : is_directory (content_at k.state moved.number) ≡ false = known-kind k.state moved (known s k w)
      ∙ plain in
      let same : lower.known.number ≡ moved.number =
      within-empty k.state moved.number (object_at k.state moved) (known s k w).lives
      (no_entries (content_at k.state moved.number) kind) moved.number lower.known.number within refl in
      let both : is_directory (content_at k.state lower.known.number) ≡ true =
      known-kind k.state lower.known (below s k w) ∙ ap is_directory_type lower.kind in
      let no : true ≡ false = sym both ∙ ap (λ n. is_directory (content_at k.state n)) same ∙ kind in
      cc),
)

-- ---- the change, step by step
-- what lives in every store that the view fits is there once more was written
pub lives-on : (old new : DraftValue) (op : StoreMeaning → StoreMeaning) (a : Addr) → Turns old new op
    → IsThere old.view a →
    IsThere new.view a
lives-on old new op a turns lives = subst (λ v. IsThere v a) (sym turns.view) lives

pub over-lives : (old new : DraftValue) (op : StoreMeaning → StoreMeaning) (o : Option Known) → Turns old new op →
    old.writes ≡ [] → Knows old (λ k. IfSome o (IsKnown k.state))
    → IfSome o (λ z. IsThere new.view (addresses.Inode z.number))
over-lives old new op None turns none known = tt
over-lives old new op (Some z) turns none known = lives-on old new op (addresses.Inode z.number) turns
    (known-lives old z none known)

pub stops-later : (old new : DraftValue) (op : StoreMeaning → StoreMeaning) (halt : Missing) → Turns old new op →
    StopsAt new [] halt → StopsAt old [] halt
stops-later old new op halt turns stops = stops-before old new op (λ view. []) halt turns stops

-- a change after another, at the call's moment
pub turned-both : (a b c : DraftValue) (f : StoreMeaning → StoreMeaning) (g : Time → StoreMeaning → StoreMeaning)
    → Turns a b f →
    Turns b c (g (time_of b.ctx.moment)) → Turns a c (λ k. g (time_of a.ctx.moment) (f k))
turned-both a b c f g first second =
    turns-both a b c f (g (time_of a.ctx.moment)) first
    (subst (λ (x : Ctx). Turns b c (g (time_of x.moment))) first.ctx second)

-- which is the last
pub turned-after : (a b c : DraftValue) (f : StoreMeaning → StoreMeaning) (g : Time → StoreMeaning → StoreMeaning)
    (r : Result (Unit {0}) Missing) (Stops After : Missing → Type 0) → ((halt : Missing) → Stops halt → After halt) →
    Turns a b f → MatchResult r (λ _. Turns b c (g (time_of b.ctx.moment))) Stops →
    MatchResult r (λ _. Turns a c (λ k. g (time_of a.ctx.moment) (f k))) After
turned-after a b c f g (Ok x) Stops After before first second = turned-both a b c f g first second
turned-after a b c f g (Err halt) Stops After before first stops = before halt stops

-- what may be asked for whatever is named may be asked for by who names some
pub later-named : (old new : DraftValue) (op : StoreMeaning → StoreMeaning) (named : List Addr) (halt : Missing)
    → Turns old new op →
    StopsAt new [] halt → StopsAt old named halt
later-named old new op named halt turns stops = any-stops old named halt (stops-later old new op halt turns stops)

-- what had the new name lived before in the same export, so what its group uses stands there
pub moved-lived : (now : Time) (a : RenameArguments) (r : Renaming) (cookie : ℕ) →
    LivesAsBefore (λ k. rehomed now r.moved.number r.to.known.number (entry_moved now a r cookie k))
moved-lived now a r cookie =
    let left = λ (one : Bool) (k : StoreMeaning). cond one k (name_left now r.from.known.number a.from.name
    (links_left r) k) in
    let given = name_given now r.to.known.number (cond (is_one_directory r) (Some a.from.name) None)
    (record { name = a.to.name; number = r.moved.number; cookie = cookie }) (links_given r) in
    lived-both (entry_moved now a r cookie) (rehomed now r.moved.number r.to.known.number)
    (lived-both (left (is_one_directory r)) given
    (elim (is_one_directory r) as (λ b. LivesAsBefore (left b)) [
      | true ↦ lived-same
      | false ↦ lived-left now r.from.known.number a.from.name (links_left r)
    ])
    (lived-given now r.to.known.number (cond (is_one_directory r) (Some a.from.name) None)
    (record { name = a.to.name; number = r.moved.number; cookie = cookie }) (links_given r)))
    (lived-rehomed now r.moved.number r.to.known.number)

pub over-counts : (old new : DraftValue) (op : StoreMeaning → StoreMeaning) (o : Option Known) → old.writes ≡ []
    → Turns old new op →
    LivesAsBefore op → IfSome o (λ z. UsageLives new z.number)
over-counts old new op None none turns lived = tt
over-counts old new op (Some z) none turns lived = usage-there old new op none turns lived z.number

module _ (d new : DraftValue) (a : RenameArguments) (r : Renaming) (cookie : ℕ) (result : Result (Unit {0}) Missing)
  where
    abbrev given : Time → (left : Option (List ℕ)) → StoreMeaning → StoreMeaning
    given now left = name_given now r.to.known.number left
        (record { name = a.to.name; number = r.moved.number; cookie = cookie }) (links_given r)

    abbrev moved : Time → Bool → StoreMeaning → StoreMeaning
    moved now one k = given now (cond one (Some a.from.name) None)
        (cond one k (name_left now r.from.known.number a.from.name (links_left r) k))

    -- a name is given so, with so many links of its directory
    abbrev Gives : DraftValue → (left : Option (List ℕ)) → (name : List ℕ) → (links : ℕ) → Type 0
    Gives old left name links = MatchResult result
        (λ _. Turns old new (name_given (time_of old.ctx.moment) r.to.known.number left
        (record { name = name; number = r.moved.number; cookie = cookie }) links))
        (StopsAt old (grown_at old r.to.known.number name cookie))

    gives-as : (old : DraftValue) (left : Option (List ℕ)) (name : List ℕ) (links : ℕ) → name ≡ a.to.name →
        links ≡ links_given r → Gives old left name links → Gives old left a.to.name (links_given r)
    gives-as old left name links same count gives =
        subst (λ n. Gives old left n (links_given r)) same (subst (λ l. Gives old left name l) count gives)

    module _ (named : List Addr) where
      abbrev Moves : Bool → Type 0
      Moves one = MatchResult result (λ _. Turns d new (moved (time_of d.ctx.moment) one)) (StopsAt d named)

      abbrev Moved : Type 0
      Moved = MatchResult result (λ _. Turns d new (entry_moved (time_of d.ctx.moment) a r cookie)) (StopsAt d named)

      -- one directory changes once
      pub moves-one : (old_name name : List ℕ) (links : ℕ) → old_name ≡ a.from.name → name ≡ a.to.name →
          links ≡ links_given r → is_one_directory r ≡ true →
          ((halt : Missing) → StopsAt d (grown_at d r.to.known.number a.to.name cookie) halt → StopsAt d named halt) →
          Gives d (Some old_name) name links → Moved
      moves-one old_name name links left same count one before is = subst Moves (sym one)
          (turned-after d d new (λ k. k) (λ now. given now (Some a.from.name)) result
          (StopsAt d (grown_at d r.to.known.number a.to.name cookie)) (StopsAt d named) before (turns-none d)
          (subst (λ n. Gives d (Some n) a.to.name (links_given r)) left
          (gives-as d (Some old_name) name links same count is)))

      pub moves-two : (mid : DraftValue) (name : List ℕ) (links : ℕ) → name ≡ a.to.name → links ≡ links_given r →
          is_one_directory r ≡ false →
          ((halt : Missing) → StopsAt mid (grown_at mid r.to.known.number a.to.name cookie) halt
          → StopsAt d named halt) →
          Turns d mid (name_left (time_of d.ctx.moment) r.from.known.number a.from.name (links_left r)) →
          Gives mid None name links → Moved
      moves-two mid name links same count two before left is =
          let leaves : StoreMeaning → StoreMeaning = name_left (time_of d.ctx.moment) r.from.known.number a.from.name
          (links_left r) in
          subst Moves (sym two) (turned-after d mid new leaves (λ now. given now None) result
          (StopsAt mid (grown_at mid r.to.known.number a.to.name cookie)) (StopsAt d named) before left
          (gives-as mid None name links same count is))

-- ---- the reply
after-named : (first second : Resolved) (x : Named) → object_of first ≡ Ok x → after_first first second ≡ second
after-named machine.BadHandle second x is = cc
after-named machine.Stale second x is = cc
after-named (machine.Names number object) second x is = refl

after-refused : (first second : Resolved) (e : NfsStatus) → object_of first ≡ Err e →
    after_first first second ≡ machine.BadHandle
after-refused machine.BadHandle second e is = refl
after-refused machine.Stale second e is = refl
after-refused (machine.Names number object) second e is = cc

abbrev nothing : Wcc
nothing = record { before = None; after = None }

abbrev shows_of : Known → State → Wcc
shows_of x m = record { before = Some (weak_of x); after = attributes_at m x.number }

module _ (old : DraftValue) (a : RenameArguments) (begins : Begins (calls.Nfs (nfs.Rename a)) old) where
  abbrev Replies : DraftValue → Wcc → Wcc → Result (Unit {0}) NfsStatus → Type 0
  Replies new from to result = IsPromised (done_value (calls.Nfs (nfs.Rename a)) old.ctx old.view
      (record {
        writes = new.writes;
        messages = new.messages;
        reply = answers.Nfs (replies.Rename (record { from = from; to = to; result = result }));
      }))

  module _ (m after : State) (from to : Wcc) (result : Result (Unit {0}) NfsStatus) (end : RenameEnd)
      (is : after ≡ state_after m end)
      (shows_from : from ≡ wcc (state_after m end) (resolve m old.ctx a.from.directory))
      (shows_to : to ≡ wcc (state_after m end) (after_first (resolve m old.ctx a.from.directory)
      (resolve m old.ctx a.to.directory)))
      (tells : answer_of end ≡ result) where
    abbrev reply : Wcc → Wcc → Result (Unit {0}) NfsStatus → NfsReply
    reply f t r = replies.Rename (record { from = f; to = t; result = r })

    abbrev Answered : RenameEnd → Type 0
    Answered to_end = Ends m (λ after result. reply (wcc after (resolve m old.ctx a.from.directory))
        (wcc after (after_first (resolve m old.ctx a.from.directory) (resolve m old.ctx a.to.directory))) result) to_end
        (reply from to result) [] after

    rename-step : IsRenameEnd old.ctx a m end → NfsStep m old.ctx (nfs.Rename a) (reply from to result) [] after
    unfolding NfsStep
    rename-step ends =
        let shown_from = wcc (state_after m end) (resolve m old.ctx a.from.directory) in
        let shown_to = wcc (state_after m end)
        (after_first (resolve m old.ctx a.from.directory) (resolve m old.ctx a.to.directory)) in
        let here : Answered end = record {
          reply_is = ap (λ f. reply f to result) shows_from ∙ ap (λ t. reply shown_from t result) shows_to
              ∙ ap (λ r. reply shown_from shown_to r) (sym tells);
          no_message = refl;
          state_is = is;
        } in
        record { is_within = ends.0; tells = ends.1; answers = subst Answered (sym ends.2) here }

  pub rename-promised : (x y : Known) (result : Result (Unit {0}) NfsStatus) (from to : Wcc) (new : DraftValue) →
      Held new.view new.writes → Given new.view new.writes
      → Knows old (λ k. Names old.ctx a.from.directory k x) →
      Knows old (λ k. Names old.ctx a.to.directory k y) → Does old new (IsRenameEnd old.ctx a) result
      → Knows new (λ k. from ≡ shows_of x k.state) → Knows new (λ k. to ≡ shows_of y k.state) →
      Replies new from to result
  rename-promised x y result from to new held given source target does shows_from shows_to =
      promised-does old new begins.none begins.quiet (IsRenameEnd old.ctx a) result does (calls.Nfs (nfs.Rename a)) _
      held given (λ s k after w later is stays ends.
      let end = ending result (does.op k).state in
      rename-step k.state after from to result end stays
      (shows_from s (does.op k) later ∙ ap (shows_of x) (sym is ∙ stays)
      ∙ sym ((source s k w).wcc_after (state_after k.state end)))
      (shows_to s (does.op k) later ∙ ap (shows_of y) (sym is ∙ stays)
      ∙ sym ((target s k w).wcc_after (state_after k.state end))
      ∙ ap (wcc (state_after k.state end)) (sym (after-named (resolve k.state old.ctx a.from.directory)
      (resolve k.state old.ctx a.to.directory) _ (source s k w).names)))
      (answer-ending result (does.op k).state) ends)

module _ (d : DraftValue) (a : RenameArguments) (begins : Begins (calls.Nfs (nfs.Rename a)) d)
    (held : Held d.view d.writes) (given : Given d.view d.writes) where
  told : (m : State) → WellFormed m → (e : NfsStatus) →
      ((is_within : (upper lower : ℕ) → Bool) → rename_end m d.ctx a is_within ≡ Err e) →
      IsRenameEnd d.ctx a m (Err e)
  told m formed e ends = (let t = within-told m formed in (t.0, t.1, ends t.0))

  pub first-refused : (e : NfsStatus) → Knows d (Means d.ctx a.from.directory (Err e)) →
      Replies d a begins d nothing nothing (Err e)
  first-refused e refused =
      promised-unchanged d begins.none begins.quiet (calls.Nfs (nfs.Rename a)) _ held given (λ s k w formed.
      rename-step d a begins k.state k.state nothing nothing (Err e) (Err e) refl
      (sym ((refused s k w).wcc_after k.state))
      (sym (ap (wcc k.state) (after-refused (resolve k.state d.ctx a.from.directory)
      (resolve k.state d.ctx a.to.directory) e (refused s k w).refused))) refl
      (told k.state formed e (λ is_within. failed _ (refused s k w).refused)))

  pub second-refused : (e : NfsStatus) (x : Known) (from : Wcc) → Knows d (λ k. Names d.ctx a.from.directory k x) →
      Knows d (Means d.ctx a.to.directory (Err e))
      → Knows d (λ k. from ≡ shows_of x k.state) → Replies d a begins d from nothing (Err e)
  second-refused e x from source refused shows_from =
      promised-unchanged d begins.none begins.quiet (calls.Nfs (nfs.Rename a)) _ held given (λ s k w formed.
      rename-step d a begins k.state k.state from nothing (Err e) (Err e) refl
      (shows_from s k w ∙ sym ((source s k w).wcc_after k.state))
      (sym (ap (wcc k.state) (after-named (resolve k.state d.ctx a.from.directory)
      (resolve k.state d.ctx a.to.directory) _ (source s k w).names) ∙ (refused s k w).wcc_after k.state)) refl
      (told k.state formed e (λ is_within. passed _ (source s k w).names (failed _ (refused s k w).refused))))

-- ---- what is asked for first is known once the first handle names something
pub first-known : {A B : Type 0} (modes other : ModesValue) (view : ViewValue) (wanted : Option Addr) (x : A)
    (r : Result B Missing) →
    HaltsFirst modes view wanted (Ok x) → HaltsFirst other view wanted r
first-known modes other view None x r first = tt
first-known modes other view (Some a) x r first = absurd first

-- ---- how it halts
pub stops-named : {A : Type 0} (d new : DraftValue) (IsEnd : State → Result (A × State) NfsStatus → Type 0)
    (few named : List Addr) (r : Result (Result A NfsStatus) Missing) →
    ((a : Addr) → IsAmong few a → IsAmong named a)
    → MatchResult r (Does d new IsEnd) (StopsAt d few) → MatchResult r (Does d new IsEnd) (StopsAt d named)
stops-named d new IsEnd few named (Ok x) names does = does
stops-named d new IsEnd few named (Err halt) names stops =
    stops-wider d.modes few named 0 d.view halt (covers-among few named d.view names) stops
