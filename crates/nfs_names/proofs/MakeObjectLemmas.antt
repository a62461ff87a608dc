-- What a call does that makes an object under a name is an end of the machine's, and its answer is a step.
use Rattle.std.proofs.Common.{◌≡◌, ℕ, ◌+◌, ◌≤◌, ◌^◌, nat_lt, true, false, Bool, cond, List, [], ◌++◌}
use Rattle.std.proofs.Common.{Option, Some, None, arith, Result, Ok, Err, inl, inr, option_map}
use Rattle.std.proofs.Common.{refl, sym, ◌∙◌, ap, subst}
use Rattle.std.specs.Cmp.{unsigned_Decides}
use Rattle.std.specs.FinMap.{get, insert}
use Rattle.std.specs.Prelude.{MatchResult}
use Rattle.nfs_wire.specs.declared.attributes.Attributes.{Attributes}
use Rattle.nfs_wire.specs.declared.attributes.FileType.TheVariants as types
use Rattle.nfs_wire.specs.declared.attributes.Time.{Time}
use Rattle.nfs_wire.specs.declared.attributes.Wcc.{Wcc}
use Rattle.nfs_wire.specs.declared.calls.NfsCall.{NfsCall}
use Rattle.nfs_wire.specs.declared.calls.DirOp.{DirOp}
use Rattle.nfs_wire.specs.declared.replies.Made.{Made}
use Rattle.nfs_wire.specs.declared.replies.MadeReply.{MadeReply}
use Rattle.nfs_wire.specs.declared.replies.NfsReply.{NfsReply}
use Rattle.nfs_wire.specs.declared.status.NfsStatus.{NfsStatus}
use Rattle.nfs_wire.specs.declared.status.NfsStatus.TheVariants as status
use Rattle.nfs_machine.proofs.MapSumLemmas.{get-inserted}
use Rattle.nfs_machine.specs.Answers.{Ends, answer_of, state_after}
use Rattle.nfs_machine.specs.Attributes.{attributes_of, entries_of}
use Rattle.nfs_machine.specs.Checks.{◌>>=◌, DirectoryEntries, entries_in, entry_of, holding}
use Rattle.nfs_machine.specs.Exports.{LivingExport}
use Rattle.nfs_machine.specs.Making.{Choice, MakeStep, Wanted, given_attributes, kind_checked, made, make_end}
use Rattle.nfs_machine.specs.Making.{new_object, with_entry}
use Rattle.nfs_machine.specs.NfsSteps.{NfsStep}
use Rattle.nfs_machine.specs.Resolve.{resolve}
use Rattle.nfs_machine.specs.Shown.{attributes_at, handle_at, wcc, with_content, with_object}
use Rattle.nfs_machine.specs.State.{Directory, Entry, Living, Socket, State}
use Rattle.nfs_machine.specs.Times.{time_of}
use Rattle.nfs_machine.specs.WellFormed.{WellFormed}
use Rattle.nfs_machine.specs.declared.calls.Call.TheVariants as calls
use Rattle.nfs_machine.specs.declared.calls.Reply.TheVariants as answers
use Rattle.nfs_machine.specs.declared.context.Ctx.{Ctx}
use Rattle.nfs_objects.proofs.KnowsLemmas.{among-behind, among-front, covers-among, covers-both, failed, passed}
use Rattle.nfs_objects.proofs.KnowsLemmas.{stops-wider}
use Rattle.nfs_objects.proofs.KnowsLemmas.{stops-within}
use Rattle.nfs_objects.proofs.PromiseLemmas.{answer-ending, does-as, possible-after, promised, turns-none}
use Rattle.nfs_objects.proofs.UsageSumLemmas.{AllFit, turned-fit}
use Rattle.nfs_objects.specs.Asks.{IsThere}
use Rattle.nfs_objects.specs.Calls.{added_at, addresses_of, next_places, usages_of}
use Rattle.nfs_objects.specs.Begins.{Begins}
use Rattle.nfs_objects.specs.Knows.{Does, Knows, Possible, Turns, ending}
use Rattle.nfs_objects.specs.Promise.{Given, Held, IsPromised}
use Rattle.nfs_objects.specs.Sound.{Sound}
use Rattle.nfs_objects.specs.Stands.{StoreMeaning}
use Rattle.nfs_objects.specs.Store.{Store}
use Rattle.nfs_objects.specs.Values.{DraftValue, done_value}
use Rattle.nfs_objects.specs.declared.address.Addr.{Addr}
use Rattle.nfs_objects.specs.declared.address.Addr.TheVariants as addresses
use Rattle.nfs_objects.specs.declared.change.Missing.{Missing}
use Rattle.nfs_objects.specs.declared.view.Reserved.{Reserved}
use Rattle.nfs_inodes.proofs.UsageChangeLemmas.{among-brought}
use Rattle.nfs_inodes.proofs.ReaderHaltLemmas.{lives-stops, stops-before}
use Rattle.nfs_inodes.proofs.KeptBesideLemmas.{choice-of, fresh-of, made-is, made-sound, room-of}
use Rattle.nfs_inodes.proofs.StandsLemmas.{directory-listed, kind-is}
use Rattle.nfs_inodes.specs.Asked.{content_asked, wanted_as}
use Rattle.nfs_inodes.specs.Known.{HasNumber, IsKnown, IsObject, Means, Names, content_at, entries_found}
use Rattle.nfs_inodes.specs.Known.{last_cookie_of}
use Rattle.nfs_inodes.specs.Known.{listed, new_cookie, object_at, shell, weak_of}
use Rattle.nfs_inodes.specs.Makes.{IsFree, made_under}
use Rattle.nfs_inodes.specs.Stops.{IsOfExport, StopsAt, StopsMaking, brought_by}
use Rattle.nfs_inodes.specs.declared.found.Known.{Known}
use Rattle.nfs_inodes.specs.declared.new_objects.NewContent.{NewContent}
use Rattle.nfs_inodes.specs.declared.new_objects.NewContent.TheVariants as contents
use Rattle.nfs_inodes.specs.declared.new_objects.Wanted as rust
use Rattle.nfs_names.proofs.NameGrowsLemmas.{next-added}
use Rattle.nfs_names.proofs.LookupLemmas.{lives-at}
use Rattle.nfs_names.specs.Checking.{ComesTo}
use Rattle.nfs_names.specs.Making.{IsMakeEnd, IsNewEnd, IsThereEnd, MakeEnd, MakesReply, ThereEnd}
use Rattle.nfs_names.specs.Making.{add_checked, made_at, placed_end}
use Rattle.nfs_names.specs.declared.make.Accepted.{Accepted}

-- ---- a new name
-- what it asks for by a directory and a name that are these, the call may ask for that brings both
pub new-stops : (d : DraftValue) (place : DirOp) (x known : Known) (name : List ℕ) (halt : Missing) → x ≡ known →
    name ≡ place.name → IsOfExport place.directory known.export → HasNumber place.directory known.number →
    StopsMaking d (usages_of x.export 64 ++ next_places d.view x.number name) halt →
    StopsMaking d (brought_by d.view place.directory ++ added_at d.view place) halt
new-stops d place x known name halt same named usage number stops =
    let brought : List Addr = brought_by d.view place.directory ++ added_at d.view place in
    stops-within d.modes (usages_of known.export 64 ++ next_places d.view known.number place.name) brought 1 d.view halt
    (covers-both brought d.view (usages_of known.export 64) (next_places d.view known.number place.name)
    (covers-among (usages_of known.export 64) brought d.view
    (λ a among. among-front (brought_by d.view place.directory) (added_at d.view place) a
    (among-brought d.view place.directory known.export usage a among)))
    (covers-among (next_places d.view known.number place.name) brought d.view
    (λ a among. among-behind (brought_by d.view place.directory) (added_at d.view place) a
    (next-added d.view place known.number number a among))))
    (subst (λ n. StopsMaking d (usages_of known.export 64 ++ next_places d.view known.number n) halt) named
    (subst (λ (z : Known). StopsMaking d (usages_of z.export 64 ++ next_places d.view z.number name) halt) same stops))

-- ---- the checks of the directory, and what its entries lead to
abbrev number_of : Option Entry → Option ℕ
number_of = option_map (λ (e : Entry). e.number)

module _ (d : DraftValue) (place : DirOp) (asked : Result Wanted NfsStatus) (there : ThereEnd) (x : Known)
    (names : Knows d (λ k. Names d.ctx place.directory k x)) (exports : List LivingExport)
    (lists : Knows d (λ k. k.state.exports ≡ exports)) where
  abbrev whole : State → Choice → MakeEnd
  whole m choice = make_end m d.ctx choice place asked (there m)

  -- a new object in a directory of so many links
  abbrev new_at : State → Choice → Wanted → DirectoryEntries → (links : ℕ) → MakeEnd
  new_at m choice wanted entries links = kind_checked d.ctx links wanted.content
      >>= λ _. placed_end m d.ctx choice wanted x place.name entries

  -- what is there under the name, or a new object
  abbrev at_number : State → Choice → (links : ℕ) → Wanted → DirectoryEntries → Option ℕ → MakeEnd
  at_number m choice links wanted entries number = elim number [
    | Some n ↦ there m n (get m.objects n)
    | None ↦ new_at m choice wanted entries links
  ]

  abbrev at_entry : State → Choice → (links : ℕ) → Wanted → DirectoryEntries → Option Entry → MakeEnd
  at_entry m choice links wanted entries found = elim found [
    | Some e ↦ there m e.number (get m.objects e.number)
    | None ↦ new_at m choice wanted entries links
  ]

  by-number : (m : State) (choice : Choice) (links : ℕ) (wanted : Wanted) (entries : DirectoryEntries)
      (found : Option Entry) →
      at_entry m choice links wanted entries found ≡ at_number m choice links wanted entries (number_of found)
  by-number m choice links wanted entries None = refl
  by-number m choice links wanted entries (Some e) = refl

  abbrev rest : State → Choice → (links : ℕ) → Result Wanted NfsStatus → DirectoryEntries → MakeEnd
  rest m choice links a entries = a >>= λ wanted.
      at_entry m choice links wanted entries (entry_of entries.list place.name)

  -- what is asked for decides with the checks of the directory
  split : (k : StoreMeaning) (choice : Choice) → Names d.ctx place.directory k x → (a : Result Wanted NfsStatus) →
      make_end k.state d.ctx choice place a (there k.state)
      ≡ add_checked k.state.exports d.ctx place.name a (object_at k.state x)
      (rest k.state choice (attributes_of k.state x.number (object_at k.state x)).links a)
  split k choice is (Ok wanted) = passed _ is.names refl
  split k choice is (Err e) = passed _ is.names refl

  comes : (checked : Result Accepted NfsStatus) → ComesTo (add_checked exports d.ctx place.name asked) x checked →
      (s : Store) (k : StoreMeaning) → Possible d s k → (choice : Choice) → whole k.state choice
      ≡ entries_found (content_at k.state x.number) (rest k.state choice x.attributes.links asked) checked
  comes checked passes s k w choice =
      let is = names s k w in
      split k choice is asked
      ∙ ap (λ (a : Attributes). add_checked k.state.exports d.ctx place.name asked (object_at k.state x)
      (rest k.state choice a.links asked)) (sym is.known.shows)
      ∙ ap (λ es. add_checked es d.ctx place.name asked (object_at k.state x)
      (rest k.state choice x.attributes.links asked)) (lists s k w)
      ∙ passes (content_at k.state x.number) (rest k.state choice x.attributes.links asked)
      (kind-is k.state x is.known)

  pub refused-end : (e : NfsStatus) →
      ComesTo {B = Accepted} (add_checked exports d.ctx place.name asked) x (Err e) →
      (s : Store) (k : StoreMeaning) → Possible d s k → IsMakeEnd d.ctx place asked there k.state (Err e)
  refused-end e refuses s k w = inl (comes (Err e) refuses s k w)

  module _ (accepted : Accepted) (passes : ComesTo (add_checked exports d.ctx place.name asked) x (Ok accepted))
      (wanted : Wanted) (is_asked : asked ≡ Ok wanted)
      (new : DraftValue) (r : Result (Result Made NfsStatus) Missing) where
    abbrev LeadsTo : Option ℕ → Type 0
    LeadsTo number = Knows d (λ k.
        number_of (entry_of (entries_of (content_at k.state x.number)) place.name) ≡ number)

    leads : (number : Option ℕ) → LeadsTo number → (s : Store) (k : StoreMeaning) → Possible d s k →
        (choice : Choice) → whole k.state choice ≡
        at_number k.state choice x.attributes.links wanted (listed (content_at k.state x.number)) number
    leads number to s k w choice =
        let found = entry_of (entries_of (content_at k.state x.number)) place.name in
        let entries = listed (content_at k.state x.number) in
        comes (Ok accepted) passes s k w choice
        ∙ passed _ is_asked (by-number k.state choice x.attributes.links wanted entries found
        ∙ ap (at_number k.state choice x.attributes.links wanted entries) (to s k w))

    abbrev DoesOr : (Missing → Type 0) → (State → MakeEnd → Type 0) → Type 0
    DoesOr Stop IsEnd = MatchResult r (Does d new IsEnd) Stop

    abbrev brought : List Addr
    brought = brought_by d.view place.directory ++ added_at d.view place

    abbrev Made_in : Type 0
    Made_in = MatchResult r (Does d new (IsMakeEnd d.ctx place asked there)) (StopsMaking d brought)

    ends-so : (Stop : Missing → Type 0) → ((halt : Missing) → Stop halt → StopsMaking d brought halt) →
        (IsEnd : State → MakeEnd → Type 0) → ((s : Store) (k : StoreMeaning) → Possible d s k →
        (end : MakeEnd) → IsEnd k.state end → IsMakeEnd d.ctx place asked there k.state end) →
        DoesOr Stop IsEnd → Made_in
    ends-so Stop stops IsEnd means = elim r as (λ q. MatchResult q (Does d new IsEnd) Stop →
        MatchResult q (Does d new (IsMakeEnd d.ctx place asked there)) (StopsMaking d brought)) [
          | Ok result ↦ does-as d new IsEnd (IsMakeEnd d.ctx place asked there) result means
          | Err halt ↦ stops halt
        ]

    pub there-ends : (number : ℕ) → LeadsTo (Some number)
        → DoesOr (StopsAt d []) (IsThereEnd there number) → Made_in
    there-ends number to = ends-so (StopsAt d [])
        (λ halt stops. stops-wider d.modes [] brought 1 d.view halt tt stops)
        (IsThereEnd there number)
        (λ s k w end is. inl (λ choice. leads (Some number) to s k w choice ∙ is))

    pub new-ends : IsOfExport place.directory x.export → HasNumber place.directory x.number → LeadsTo None →
        DoesOr (StopsMaking d (usages_of x.export 64 ++ next_places d.view x.number place.name))
        (IsNewEnd d.ctx wanted x place.name) → Made_in
    new-ends usage number to = ends-so (StopsMaking d (usages_of x.export 64 ++ next_places d.view x.number place.name))
        (λ halt stops. new-stops d place x x place.name halt refl refl usage number stops)
        (IsNewEnd d.ctx wanted x place.name)
        (λ s k w end is. elim is [
          | inl all ↦ inl (λ choice. leads None to s k w choice ∙ all choice)
          | inr chosen ↦ inr (chosen.0, chosen.1, leads None to s k w chosen.0 ∙ chosen.2)
        ])

-- ---- of a new object, the same of another directory and name that are these
abbrev pub MakesNew : (d new : DraftValue) → Result (Result Made NfsStatus) Missing → Wanted → Known → List ℕ → Type 0
MakesNew d new r wanted x name = MatchResult r (Does d new (IsNewEnd d.ctx wanted x name))
    (StopsMaking d (usages_of x.export 64 ++ next_places d.view x.number name))

pub new-as : (d new : DraftValue) (r : Result (Result Made NfsStatus) Missing) (wanted : Wanted) (x y : Known)
    (name other : List ℕ) → x ≡ y → name ≡ other → MakesNew d new r wanted x name → MakesNew d new r wanted y other
new-as d new r wanted x y name other same named makes =
    subst (λ n. MakesNew d new r wanted y n) named (subst (λ (z : Known). MakesNew d new r wanted z name) same makes)

-- ---- what is told of a number
abbrev pub told_of : State → Ctx → ℕ → Option Living → Made
told_of m ctx number o = elim o [
  | None ↦ record { object = None; attributes = None }
  | Some p ↦ made m ctx number p
]

module _ (d : DraftValue) (number : ℕ) where
  pub nothing-told : Knows d (λ k. IsObject k.state number None) →
      Knows d (λ k. record { object = None; attributes = None } ≡ made_at k.state d.ctx number)
  nothing-told none s k w = sym (ap (told_of k.state d.ctx number) (none s k w))

  pub object-told : (x : Known) (handle : List ℕ) → Knows d (λ k. IsObject k.state number (Some x)) →
      handle ≡ handle_at d.ctx x.number (shell x Socket) →
      Knows d (λ k. record { object = Some handle; attributes = Some x.attributes } ≡ made_at k.state d.ctx number)
  object-told x handle there is s k w =
      ap (λ h. record { object = Some h; attributes = Some x.attributes }) is
      ∙ ap (λ b. record { object = Some (handle_at d.ctx x.number (shell x Socket)); attributes = Some b })
      ((there s k w).1).shows
      ∙ ap (λ n. made k.state d.ctx n (object_at k.state x)) (there s k w).0
      ∙ sym (ap (told_of k.state d.ctx number) (lives-at k.state number x (there s k w)))

-- ---- the directory has not the name
abbrev pub now_of : DraftValue → Time
now_of d = time_of d.ctx.moment

pub get-here : (m : State) (n : ℕ) (o : Living) → get (insert m.objects n o) n ≡ Some o
get-here m n o = get-inserted m.objects n o n
    ∙ ap (λ b. cond b (Some o) (get m.objects n)) ((unsigned_Decides n n).1 refl)

pub not-refused : (r : Result (Unit {0}) NfsStatus) → ((e : NfsStatus) → r ≡ Err e → ⊥) → r ≡ Ok tt
not-refused (Ok u) other = refl
not-refused (Err e) other = absurd (other e refl)

pub no-cookie : (b : Bool) (n : ℕ) (e : NfsStatus) → cond b (Some n) None ≡ None → holding b e ≡ Err e
no-cookie true n e is = cc
no-cookie false n e is = refl

pub a-cookie : (b : Bool) (n c : ℕ) (e : NfsStatus) → cond b (Some n) None ≡ Some c →
    (holding b e ≡ Ok tt) × (n ≡ c)
a-cookie true n c e is = (refl, (let same : n ≡ c = cc in same))
a-cookie false n c e is = cc

no-number : (f : Option Entry) → number_of f ≡ None → f ≡ None
no-number None is = refl
no-number (Some e) is = cc

-- two checks, and what comes after them
module _ (a b : Result (Unit {0}) NfsStatus) where
  pub both-pass : Ok tt ≡ (a >>= λ _. b) → (a ≡ Ok tt) × (b ≡ Ok tt)
  both-pass is = by a refl is
    where
      by : (q : Result (Unit {0}) NfsStatus) → a ≡ q → Ok tt ≡ (q >>= λ _. b) →
          (a ≡ Ok tt) × (b ≡ Ok tt)
      by (Ok u) same is = (same, sym is)
      by (Err e) same is = cc

  pub one-fails : {A : Type 0} (e : NfsStatus) (rest : Result A NfsStatus) → Err e ≡ (a >>= λ _. b) →
      (a >>= λ _. b >>= λ _. rest) ≡ Err e
  one-fails {A} e rest is = by a is
    where
      by : (q : Result (Unit {0}) NfsStatus) → Err e ≡ (q >>= λ _. b) → (q >>= λ _. b >>= λ _. rest) ≡ Err e
      by (Ok u) is = ap (λ (c : Result (Unit {0}) NfsStatus). c >>= λ _. rest) (sym is)
      by (Err f) is = (let same : f ≡ e = cc in ap (λ g. Err g) same)

-- a new object has no entry, and the cookies of a new directory are used up to that of ".."
pub no-entries : (content : NewContent) → entries_of (content_asked content) ≡ []
no-entries (contents.Regular size) = refl
no-entries contents.Directory = refl
no-entries (contents.Link text) = refl
no-entries (contents.BlockDevice device) = refl
no-entries (contents.CharacterDevice device) = refl
no-entries contents.Socket = refl
no-entries contents.Fifo = refl

pub used-cookies : (content : NewContent) (last : ℕ) → content_asked content ≡ Directory [] last → 2 ≤ last
used-cookies contents.Directory last is = subst (λ l. 2 ≤ l) (let same : 2 ≡ last = cc in same) (omega arith)
used-cookies (contents.Regular size) last is = cc
used-cookies (contents.Link text) last is = cc
used-cookies (contents.BlockDevice device) last is = cc
used-cookies (contents.CharacterDevice device) last is = cc
used-cookies contents.Socket last is = cc
used-cookies contents.Fifo last is = cc

module _ (d : DraftValue) (asked : rust.Wanted) (x : Known) (name : List ℕ) where
  abbrev wanted : Wanted
  wanted = wanted_as asked

  abbrev kind : Result (Unit {0}) NfsStatus
  kind = kind_checked d.ctx x.attributes.links wanted.content

  abbrev given : Result (Unit {0}) NfsStatus
  given = given_attributes d.ctx wanted.attributes

  pub not-given : (e : NfsStatus) → Err e ≡ (kind >>= λ _. given) →
      (s : Store) (k : StoreMeaning) → Possible d s k → IsNewEnd d.ctx wanted x name k.state (Err e)
  not-given e judged s k w = inl (λ choice. one-fails kind given e _ judged)

  module _ (judged : Ok tt ≡ (kind >>= λ _. given)) where
    abbrev last : StoreMeaning → ℕ
    last k = last_cookie_of (content_at k.state x.number)

    pub no-space : Knows d (λ k. new_cookie (last k) ≡ None) → (s : Store) (k : StoreMeaning) → Possible d s k →
        IsNewEnd d.ctx wanted x name k.state (Err status.NoSpace)
    no-space none s k w = let both = both-pass kind given judged in inl (λ choice. passed _ both.0
        (passed _ both.1 (failed _ (no-cookie (nat_lt (last k + 1) (2 ^ 64)) _ status.NoSpace (none s k w)))))

    module _ (new : DraftValue) (cookie : ℕ) (next : Knows d (λ k. new_cookie (last k) ≡ Some cookie))
        (known : Knows d (λ k. IsKnown k.state x)) (is_directory : x.attributes.kind ≡ types.Directory)
        (absent : Knows d (λ k. number_of (entry_of (entries_of (content_at k.state x.number)) name) ≡ None))
        (r : Reserved) (free : Knows d (λ k. IsFree k.state r))
        (turns : Turns d new (made_under (now_of d) x.number x.attributes.links cookie name r
        (new_object d.ctx x.export r.generation wanted)))
        (told : Made) (tells : Knows new (λ k. told ≡ made_at k.state new.ctx r.number)) where
      abbrev object : Living
      object = new_object d.ctx x.export r.generation wanted

      abbrev op : (cookie : ℕ) → StoreMeaning → StoreMeaning
      op cookie k = made_under (now_of d) x.number x.attributes.links cookie name r object k

      abbrev entries : StoreMeaning → List Entry
      entries k = entries_of (content_at k.state x.number)

      room : (s : Store) (k : StoreMeaning) → Possible d s k →
          (holding (nat_lt (last k + 1) (2 ^ 64)) status.NoSpace ≡ Ok tt) × (last k + 1 ≡ cookie)
      room s k w = a-cookie (nat_lt (last k + 1) (2 ^ 64)) (last k + 1) cookie status.NoSpace (next s k w)

      abbrev widened : StoreMeaning → State
      widened k = with_object k.state x.number
          (with_content (object_at k.state x) (now_of d) (with_entry (entries k) (last k) name r.number))

      abbrev after : StoreMeaning → State
      after k = record (with_object (widened k) r.number object) { spent = (choice-of k.state r).spent }

      has-entries : (s : Store) (k : StoreMeaning) → Possible d s k →
          entries_in (content_at k.state x.number) ≡ Ok (listed (content_at k.state x.number))
      has-entries s k w = directory-listed (content_at k.state x.number)
          (kind-is k.state x (known s k w) ∙ is_directory)

      is-absent : (s : Store) (k : StoreMeaning) → Possible d s k → entry_of (entries k) name ≡ None
      is-absent s k w = no-number _ (absent s k w)

      op-sound : (s : Store) (k : StoreMeaning) → Possible d s k → WellFormed k.state → Sound (op cookie k)
      op-sound s k w formed =
          subst (λ c. Sound (op c k)) (room s k w).1
          (made-sound k x (known s k w) (now_of d) name r object (entries k) (last k) (has-entries s k w)
          (is-absent s k w) (free s k w) refl refl (no-entries asked.content) (used-cookies asked.content)
          (room-of d.ctx x.attributes.links wanted.content (both-pass kind given judged).0) formed w.sound
          (subst (λ c. AllFit (op c k).state) (sym (room s k w).1) (turned-fit d new (op cookie) turns s k w)))

      after-is : (s : Store) (k : StoreMeaning) → Possible d s k → after k ≡ (op cookie k).state
      after-is s k w = sym (ap (λ (q : StoreMeaning). q.state)
          (made-is k x (known s k w) (now_of d) name r object (entries k) (last k) (has-entries s k w)
          (is-absent s k w))) ∙ ap (λ c. (op c k).state) (room s k w).1

      answer-is : (s : Store) (k : StoreMeaning) → Possible d s k → WellFormed k.state →
          made (after k) d.ctx r.number object ≡ told
      answer-is s k w formed =
          sym (tells s (op cookie k) (possible-after d new (op cookie) turns s k w (op-sound s k w formed))
          ∙ ap (λ c. made_at (op cookie k).state c r.number) turns.ctx
          ∙ ap (λ m. made_at m d.ctx r.number) (sym (after-is s k w))
          ∙ ap (told_of (after k) d.ctx r.number) (get-here (widened k) r.number object))

      pub new-does : Does d new (IsNewEnd d.ctx wanted x name) (Ok told)
      new-does = let both = both-pass kind given judged in record {
        op = op cookie;
        turns = turns;
        sound = op-sound;
        ends = λ s k w formed. inr (
          choice-of k.state r,
          fresh-of k.state r (free s k w),
          passed _ both.0 (passed _ both.1 (passed _ (room s k w).0
              (ap (λ t. Ok (t, after k)) (answer-is s k w formed) ∙ ap (λ m. Ok (told, m)) (after-is s k w)))),
        );
        stays = λ k. refl;
      }

-- ---- how it halts
pub later-stops : (old new : DraftValue) (op : StoreMeaning → StoreMeaning) (n : ℕ) (halt : Missing)
    → Turns old new op →
    IsThere old.view (addresses.Inode n) → StopsAt new (addresses_of new.view n) halt → StopsAt old [] halt
later-stops old new op n halt turns lives stops =
    lives-stops old n halt lives (stops-before old new op (λ view. addresses_of view n) halt turns stops)

-- a call that makes an object may read one that lives
pub lives-making : (d : DraftValue) (n : ℕ) (asked : List Addr) (halt : Missing) → IsThere d.view (addresses.Inode n) →
    StopsAt d (addresses_of d.view n) halt → StopsMaking d asked halt
lives-making d n asked halt lives stops =
    stops-wider d.modes (addresses_of d.view n) asked 1 d.view halt (inr lives, tt) stops

-- and what some may ask for may be asked for by who names them first
pub front-making : (d : DraftValue) (few more : List Addr) (halt : Missing) → StopsAt d few halt →
    StopsMaking d (few ++ more) halt
front-making d few more halt stops =
    stops-wider d.modes few (few ++ more) 1 d.view halt
    (covers-among few (few ++ more) d.view (λ a among. among-front few more a among)) stops

-- what it knows it may read after a change
pub knows-making : (old new : DraftValue) (op : StoreMeaning → StoreMeaning) (asked : List Addr) (halt : Missing)
    → Turns old new op →
    StopsAt new [] halt → StopsMaking old asked halt
knows-making old new op asked halt turns stops =
    stops-wider old.modes [] asked 1 old.view halt tt (stops-before old new op (λ view. []) halt turns stops)

-- an object that lives may be read after it
pub bringing-stops : (old new : DraftValue) (op : StoreMeaning → StoreMeaning) (asked : List Addr) (n : ℕ)
    (halt : Missing) →
    Turns old new op → IsThere old.view (addresses.Inode n) → StopsAt new (addresses_of new.view n) halt →
    StopsMaking old asked halt
bringing-stops old new op asked n halt turns lives stops =
    lives-making old n asked halt lives (stops-before old new op (λ view. addresses_of view n) halt turns stops)

-- ---- the reply
module _ (place : DirOp) (asked : Result Wanted NfsStatus) (there : ThereEnd) where
  module _ (ctx : Ctx) (m after : State) (shown : Wcc) (result : Result Made NfsStatus) (end : MakeEnd)
      (is : after ≡ state_after m end) (shows : shown ≡ wcc (state_after m end) (resolve m ctx place.directory))
      (tells : answer_of end ≡ result) (reply_of : MadeReply → NfsReply) where
    abbrev replied : Wcc → Result Made NfsStatus → NfsReply
    replied w r = reply_of (record { directory = w; result = r })

    abbrev Answered : MakeEnd → Type 0
    Answered to = Ends m (λ after result. replied (wcc after (resolve m ctx place.directory)) result) to
        (replied shown result) [] after

    make-step : IsMakeEnd ctx place asked there m end →
        MakeStep m ctx place asked (there m) reply_of (replied shown result) [] after
    make-step ends =
        let answers : Answered end = record {
          reply_is = ap (λ w. replied w result) shows
              ∙ ap (replied (wcc (state_after m end) (resolve m ctx place.directory))) (sym tells);
          no_message = refl;
          state_is = is;
        } in
        elim ends [
          | inl all ↦ (let any : Choice = record { number = 0; generation = 0; spent = m.spent } in record {
            choice = any;
            fresh = inr (λ other. all other ∙ sym (all any));
            answers = subst Answered (sym (all any)) answers;
          })
          | inr chosen ↦ record {
            choice = chosen.0;
            fresh = inl chosen.1;
            answers = subst Answered (sym chosen.2) answers;
          }
        ]

  pub made-replies : (old new : DraftValue) (x : Known) (result : Result Made NfsStatus) (shown : Wcc) →
      Knows old (Means old.ctx place.directory (Ok x)) → Does old new (IsMakeEnd old.ctx place asked there) result →
      Knows new (λ k. shown ≡ record { before = Some (weak_of x); after = attributes_at k.state x.number }) →
      MakesReply old new place asked there (record { directory = shown; result = result })
  made-replies old new x result shown named does shows = record {
    op = does.op;
    turns = does.turns;
    steps = λ s k w formed. (
      does.sound s k w formed,
      λ later reply_of. make-step old.ctx k.state (does.op k).state shown result
          (ending result (does.op k).state) (does.stays k)
          (shows s (does.op k) later
          ∙ ap (λ m. record { before = Some (weak_of x); after = attributes_at m x.number }) (does.stays k)
          ∙ sym ((named s k w).wcc_after (state_after k.state (ending result (does.op k).state))))
          (answer-ending result (does.op k).state) reply_of (does.ends s k w formed),
    );
  }

  pub refused-replies : (d : DraftValue) (e : NfsStatus) → Knows d (Means d.ctx place.directory (Err e)) →
      MakesReply d d place asked there
      (record { directory = record { before = None; after = None }; result = Err e })
  refused-replies d e refused = record {
    op = λ k. k;
    turns = turns-none d;
    steps = λ s k w formed. (
      w.sound,
      λ later reply_of. make-step d.ctx k.state k.state _ (Err e) (Err e) refl
          (sym ((refused s k w).wcc_after k.state)) refl reply_of
          (inl (λ choice. failed _ (refused s k w).refused)),
    );
  }

  -- a procedure of which this is the step keeps its promise
  pub replies-promised : (call : NfsCall) (reply_of : MadeReply → NfsReply) (old new : DraftValue)
      (reply : MadeReply) →
      ((m after : State) (answer : NfsReply) → MakeStep m old.ctx place asked (there m) reply_of answer [] after →
      NfsStep m old.ctx call answer [] after) → Begins (calls.Nfs call) old →
      Held new.view new.writes → Given new.view new.writes → MakesReply old new place asked there reply →
      IsPromised (done_value (calls.Nfs call) old.ctx old.view
      (record { writes = new.writes; messages = new.messages; reply = answers.Nfs (reply_of reply) }))
  replies-promised call reply_of old new reply step begins held given makes =
      promised old new makes.op begins.none begins.quiet makes.turns (calls.Nfs call) _ held given
      (λ s k w formed. (let x = makes.steps s k w formed in
      (x.0, λ later. step k.state (makes.op k).state _ (x.1 later reply_of))))
