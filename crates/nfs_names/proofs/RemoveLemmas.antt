-- What REMOVE and RMDIR do is an end of the machine's, and their answer is a step.
use Rattle.std.proofs.Common.{◌≡◌, ◌==◌, ℕ, Bool, length, List, [], ◌∷◌, Option, Some, None}
use Rattle.std.proofs.Common.{option_map, Result, Ok, Err, refl, sym, ◌∙◌, ap, subst}
use Rattle.std.specs.FinMap.{get}
use Rattle.std.specs.Prelude.{ok_or}
use Rattle.nfs_wire.specs.declared.attributes.Wcc.{Wcc}
use Rattle.nfs_wire.specs.declared.calls.DirOp.{DirOp}
use Rattle.nfs_wire.specs.declared.replies.RemovedReply.{RemovedReply}
use Rattle.nfs_wire.specs.declared.status.NfsStatus.{NfsStatus}
use Rattle.nfs_wire.specs.declared.status.NfsStatus.TheVariants as status
use Rattle.nfs_machine.proofs.ChecksPassedLemmas.{directory-empty, plain-empty}
use Rattle.nfs_machine.specs.Answers.{Ends, answer_of, state_after}
use Rattle.nfs_machine.specs.Attributes.{entries_of, names_of}
use Rattle.nfs_machine.specs.Checks.{DirectoryEntries, ◌>>=◌, entries_in, entry_of, holding, plain_name_checked}
use Rattle.nfs_machine.specs.Exports.{LivingExport}
use Rattle.nfs_machine.specs.NfsSteps.{NfsStep}
use Rattle.nfs_machine.specs.RemoveSteps.{empty_directory, losing_name, object_under, take_end, taken_reply, without}
use Rattle.nfs_machine.specs.Resolve.{Named, resolve}
use Rattle.nfs_machine.specs.Shown.{attributes_at, wcc, with_content, with_object}
use Rattle.nfs_machine.specs.State.{Content, Directory, Entry, Living, State}
use Rattle.nfs_machine.specs.Step.{Step}
use Rattle.nfs_machine.specs.Times.{time_of}
use Rattle.nfs_machine.specs.declared.calls.Reply.TheVariants as answers
use Rattle.nfs_machine.specs.declared.context.Ctx.{Ctx}
use Rattle.nfs_objects.proofs.KnowsLemmas.{failed, passed}
use Rattle.nfs_objects.proofs.PromiseLemmas.{answer-ending, promised-does, promised-unchanged}
use Rattle.nfs_objects.specs.Attempt.{HaltsFirst, first_wanted, first_wanted_with}
use Rattle.nfs_objects.specs.Begins.{Begins}
use Rattle.nfs_objects.specs.Calls.{handles_of}
use Rattle.nfs_objects.specs.Knows.{Does, Knows, Possible, Turns, ending}
use Rattle.nfs_objects.specs.Modes.{changing, modes_of}
use Rattle.nfs_objects.specs.Promise.{Given, Held, IsPromised}
use Rattle.nfs_objects.specs.Stands.{StoreMeaning}
use Rattle.nfs_objects.specs.Store.{Store}
use Rattle.nfs_objects.specs.Values.{DraftValue, ViewValue, done_value}
use Rattle.nfs_objects.specs.declared.address.Addr.{Addr}
use Rattle.nfs_objects.specs.declared.change.Missing.{Missing}
use Rattle.nfs_objects.proofs.UsageSumLemmas.{turned-fit}
use Rattle.nfs_inodes.proofs.NameLostLemmas.{lost-sound, lost-state}
use Rattle.nfs_inodes.proofs.StandsLemmas.{directory-listed, kind-is}
use Rattle.nfs_inodes.specs.Known.{ChecksDirectory, IsKnown, IsObject, Means, Names, content_at, entries_found, listed}
use Rattle.nfs_inodes.specs.Known.{object_at, target, weak_of}
use Rattle.nfs_inodes.specs.Removes.{name_lost}
use Rattle.nfs_inodes.specs.declared.found.Known.{Known}
use Rattle.nfs_inodes.specs.declared.kinds.KnownDirectory.{KnownDirectory as DirectoryKnown}
use Rattle.nfs_names.proofs.LookupLemmas.{lives-at}
use Rattle.nfs_names.specs.Checking.{ComesTo, names_checked}
use Rattle.nfs_names.specs.Removes.{IsTakable, IsTakenEnd, above, call_of, judged, reply_of}
use Rattle.nfs_names.specs.declared.remove.Taking.{Taking}
use Rattle.nfs_names.specs.declared.remove.Taking.TheVariants.{Remove, Rmdir}

-- ---- both procedures alike
pub alone : (taking : Taking) (place : DirOp) (d : DraftValue) → Begins (call_of taking place) d →
    d.modes ≡ changing
alone Remove place d begins = begins.modes
alone Rmdir place d begins = begins.modes

pub names-directory : (taking : Taking) (place : DirOp) → handles_of (call_of taking place) ≡ place.directory ∷ []
names-directory Remove place = refl
names-directory Rmdir place = refl

wants : (taking : Taking) (place : DirOp) (view : ViewValue) → first_wanted_with view (place.directory ∷ []) ≡
    first_wanted (call_of taking place) view
wants Remove place view = refl
wants Rmdir place view = refl

-- what is taken away contains no name
judged-empty : (taking : Taking) (c : Content) → judged taking c ≡ Ok tt → entries_of c ≡ []
judged-empty Remove c is = plain-empty c tt is
judged-empty Rmdir c is = directory-empty c tt is

-- ---- the checks, and what the name leads to
both-failed : {A B C : Type 0} (r : Result A NfsStatus) (f : A → Result B NfsStatus)
    (g : A → B → Result C NfsStatus) (e : NfsStatus) → (r >>= f) ≡ Err e
    → (r >>= λ x. f x >>= g x) ≡ Err e
both-failed (Ok x) f g e is = failed (g x) is
both-failed (Err y) f g e is = (let same : y ≡ e = cc in ap (λ z. Err z) same)

-- ---- whether what is known is a directory with no entry
module _ (d : DraftValue) (x : Known) (known : Knows d (λ k. IsKnown k.state x)) where
  abbrev Empty : Result (Unit {0}) NfsStatus → Type 0
  Empty r = Knows d (λ k. empty_directory (content_at k.state x.number) ≡ r)

  pub no-directory-judged : (e : NfsStatus) → ChecksDirectory {A = DirectoryKnown} x (Err e) → Empty (Err e)
  no-directory-judged e checks s k w = failed _ (checks (content_at k.state x.number) (kind-is k.state x (known s k w)))

  pub directory-judged : (directory : DirectoryKnown) → ChecksDirectory x (Ok directory) → (b : Bool) →
      Knows d (λ k. (length (entries_of (content_at k.state x.number)) == 0) ≡ b) →
      Empty (holding b status.NotEmpty)
  directory-judged directory checks b is s k w =
      passed _ (checks (content_at k.state x.number) (kind-is k.state x (known s k w)))
      (ap (λ b. holding b status.NotEmpty) (is s k w))

-- ---- what the name leads to, judged
module _ (taking : Taking) (d : DraftValue) (number : ℕ) (name : List ℕ) where
  abbrev entry : State → Option Entry
  entry m = entry_of (entries_of (content_at m number)) name

  abbrev numbered : Option Entry → Option ℕ
  numbered found = option_map (λ (e : Entry). e.number) found

  abbrev Judges : Result Known NfsStatus → Type 0
  Judges found = Knows d (λ k. IsTakable taking k.state number name found)

  under-none : (m : State) (found : Option Entry) → numbered found ≡ None → object_under m found ≡ None
  under-none m None is = refl
  under-none m (Some e) is = cc

  under-some : (m : State) (found : Option Entry) (n : ℕ) (o : Option Living) → numbered found ≡ Some n →
      get m.objects n ≡ o →
      object_under m found ≡ option_map (λ o. record { number = n; object = o }) o
  under-some m None n o is at = cc
  under-some m (Some e) n o is at =
      let same : e.number ≡ n = cc in
      ap (λ q. option_map (λ o. record { number = q; object = o }) (get m.objects q)) same
      ∙ ap (option_map (λ o. record { number = n; object = o })) at

  pub nothing-named : Knows d (λ k. numbered (entry k.state) ≡ None) → Judges (Err status.NoEntry)
  nothing-named none s k w = failed _ (ap (λ o. ok_or o status.NoEntry)
      (under-none k.state (entry k.state) (none s k w)))

  module _ (n : ℕ) (leads : Knows d (λ k. numbered (entry k.state) ≡ Some n)) where
    pub nothing-lives : Knows d (λ k. IsObject k.state n None) → Judges (Err status.NoEntry)
    nothing-lives none s k w = failed _ (ap (λ o. ok_or o status.NoEntry)
        (under-some k.state (entry k.state) n None (leads s k w) (none s k w)))

    module _ (x : Known) (there : Knows d (λ k. IsObject k.state n (Some x))) where
      leads-to : (s : Store) (k : StoreMeaning) → Possible d s k → object_under k.state (entry k.state) ≡ Some
          (target k.state x)
      leads-to s k w = under-some k.state (entry k.state) n (Some (object_at k.state x)) (leads s k w)
          (lives-at k.state n x (there s k w))
          ∙ ap (λ q. Some (record { number = q; object = object_at k.state x })) (sym (there s k w).0)

      pub judged-bad : (e : NfsStatus) → Knows d (λ k. judged taking (content_at k.state x.number) ≡ Err e) →
          Judges (Err e)
      judged-bad e is s k w = passed _ (ap (λ o. ok_or o status.NoEntry) (leads-to s k w)) (is s k w)

      pub judged-good : Knows d (λ k. judged taking (content_at k.state x.number) ≡ Ok tt) → Judges (Ok x)
      judged-good is s k w = record { known = (there s k w).1; named = leads-to s k w; passes = is s k w }

module _ (taking : Taking) (d : DraftValue) (place : DirOp) (x : Known)
    (names : Knows d (λ k. Names d.ctx place.directory k x))
    (exports : List LivingExport) (lists : Knows d (λ k. k.state.exports ≡ exports)) where
  abbrev TakenEnd : Type 0
  TakenEnd = Result (Unit {0} × State) NfsStatus

  -- the name and a link of what it leads to are gone
  abbrev gone : State → DirectoryEntries → Named → TakenEnd
  gone m entries o = Ok (
    tt,
    losing_name (with_object m x.number (with_content (object_at m x) (time_of d.ctx.moment)
        (Directory (without entries.list place.name) entries.last_cookie)))
        (names_of m o.number) (time_of d.ctx.moment) o.number o.object,
  )

  abbrev rest : State → DirectoryEntries → TakenEnd
  rest m entries = ok_or (object_under m (entry_of entries.list place.name)) status.NoEntry >>= λ o. judged taking
      o.object.content >>= λ _. gone m entries o

  comes : (checked : Result DirectoryKnown NfsStatus) →
      ComesTo (names_checked status.Invalid (above taking) exports d.ctx place.name) x checked →
      (s : Store) (k : StoreMeaning) → Possible d s k →
      take_end k.state d.ctx place (plain_name_checked status.Invalid (above taking)) (judged taking) ≡ entries_found
      (content_at k.state x.number) (rest k.state) checked
  comes checked passes s k w = passed _ (names s k w).names
      (ap (λ es. names_checked status.Invalid (above taking) es d.ctx place.name (object_at k.state x) (rest k.state))
      (lists s k w)
      ∙ passes (content_at k.state x.number) (rest k.state) (kind-is k.state x (names s k w).known))

  pub refused-end : (e : NfsStatus) →
      ComesTo {B = DirectoryKnown} (names_checked status.Invalid (above taking) exports d.ctx place.name) x (Err e) →
      (s : Store) (k : StoreMeaning) → Possible d s k → IsTakenEnd taking d.ctx place k.state (Err e)
  refused-end e refuses s k w = comes (Err e) refuses s k w

  module _ (directory : DirectoryKnown) (known : directory.known ≡ x)
      (passes : ComesTo (names_checked status.Invalid (above taking) exports d.ctx place.name) x (Ok directory)) where
    pub untaken-end : (e : NfsStatus) → Knows d (λ k. IsTakable taking k.state x.number place.name (Err e)) →
        (s : Store) (k : StoreMeaning) → Possible d s k → IsTakenEnd taking d.ctx place k.state (Err e)
    untaken-end e is s k w = comes (Ok directory) passes s k w
        ∙ both-failed (ok_or (object_under k.state (entry_of (entries_of (content_at k.state x.number)) place.name))
        status.NoEntry) (λ o. judged taking o.object.content)
        (λ o _. gone k.state (listed (content_at k.state x.number)) o) e (is s k w)

    module _ (y : Known) (takable : Knows d (λ k. IsTakable taking k.state x.number place.name (Ok y)))
        (new : DraftValue)
        (turns : Turns d new (name_lost (time_of d.ctx.moment) x.number place.name y)) where
      has-entries : (s : Store) (k : StoreMeaning) → Possible d s k → entries_in (content_at k.state x.number) ≡ Ok
          (listed (content_at k.state x.number))
      has-entries s k w = directory-listed (content_at k.state x.number)
          (kind-is k.state x (names s k w).known ∙ ap (λ (z : Known). z.attributes.kind) (sym known)
          ∙ directory.kind)

      pub taken-does : Does d new (IsTakenEnd taking d.ctx place) (Ok tt)
      taken-does = record {
        op = name_lost (time_of d.ctx.moment) x.number place.name y;
        turns = turns;
        sound = λ s k w formed.
            let t = takable s k w in
            lost-sound k x y (names s k w).known t.known (time_of d.ctx.moment) place.name
            (listed (content_at k.state x.number)) (has-entries s k w) t.named
            (judged-empty taking (content_at k.state y.number) t.passes) formed w.sound
            (turned-fit d new (name_lost (time_of d.ctx.moment) x.number place.name y) turns s k w);
        ends = λ s k w formed.
            let t = takable s k w in
            comes (Ok directory) passes s k w
            ∙ passed _ (ap (λ o. ok_or o status.NoEntry) t.named) (passed _ t.passes (ap (λ (m : State). Ok (tt, m))
            (sym (lost-state k x y (names s k w).known t.known (time_of d.ctx.moment) place.name
            (listed (content_at k.state x.number)) (has-entries s k w) t.named
            (judged-empty taking (content_at k.state y.number) t.passes) formed w.sound))));
        stays = λ k. refl;
      }

-- ---- the reply
abbrev removed : Wcc → Result (Unit {0}) NfsStatus → RemovedReply
removed shown result = record { directory = shown; result = result }

module _ (ctx : Ctx) (place : DirOp) (m after : State) (shown : Wcc) (result : Result (Unit {0}) NfsStatus)
    (end : Result (Unit {0} × State) NfsStatus)
    (is : after ≡ state_after m end) (shows : shown ≡ wcc (state_after m end) (resolve m ctx place.directory))
    (tells : answer_of end ≡ result) where
  abbrev AnsweredBy : Taking → Result (Unit {0} × State) NfsStatus → Type 0
  AnsweredBy taking to = Ends m (taken_reply m ctx place (reply_of taking)) to (reply_of taking (removed shown result))
      [] after

  answered : (taking : Taking) → AnsweredBy taking end
  answered taking = record {
    reply_is = ap (λ w. reply_of taking (removed w result)) shows
        ∙ ap (λ r. reply_of taking (removed (wcc (state_after m end) (resolve m ctx place.directory)) r))
        (sym tells);
    no_message = refl;
    state_is = is;
  }

  pub taken-step : (taking : Taking) → IsTakenEnd taking ctx place m end → Step m ctx (call_of taking place)
      (answers.Nfs (reply_of taking (removed shown result))) [] after
  unfolding NfsStep
  taken-step Remove ends = subst (AnsweredBy Remove) (sym ends) (answered Remove)
  taken-step Rmdir ends = subst (AnsweredBy Rmdir) (sym ends) (answered Rmdir)

module _ (taking : Taking) (old : DraftValue) (place : DirOp) (begins : Begins (call_of taking place) old)
    (new : DraftValue)
    (held : Held new.view new.writes) (given : Given new.view new.writes) where
  abbrev Replies : Wcc → Result (Unit {0}) NfsStatus → Type 0
  Replies shown result = IsPromised (done_value (call_of taking place) old.ctx old.view
      (record {
        writes = new.writes;
        messages = new.messages;
        reply = answers.Nfs (reply_of taking (removed shown result));
      }))

  pub taken-promised : (x : Known) (result : Result (Unit {0}) NfsStatus) (shown : Wcc) →
      Knows old (Means old.ctx place.directory (Ok x)) →
      Does old new (IsTakenEnd taking old.ctx place) result →
      Knows new (λ k. shown ≡ record { before = Some (weak_of x); after = attributes_at k.state x.number }) →
      Replies shown result
  taken-promised x result shown named does shows =
      promised-does old new begins.none begins.quiet (IsTakenEnd taking old.ctx place) result does
      (call_of taking place) _
      held given (λ s k after w later is stays ends.
      taken-step old.ctx place k.state after shown result (ending result (does.op k).state) stays
      (shows s (does.op k) later
      ∙ ap (λ m. record { before = Some (weak_of x); after = attributes_at m x.number }) (sym is ∙ stays)
      ∙ sym ((named s k w).wcc_after (state_after k.state (ending result (does.op k).state))))
      (answer-ending result (does.op k).state) taking ends)

module _ (taking : Taking) (d : DraftValue) (place : DirOp) (begins : Begins (call_of taking place) d)
    (held : Held d.view d.writes) (given : Given d.view d.writes) where
  pub refused-promised : (e : NfsStatus) → Knows d (Means d.ctx place.directory (Err e)) →
      Replies taking d place begins d held given (record { before = None; after = None }) (Err e)
  refused-promised e refused =
      promised-unchanged d begins.none begins.quiet (call_of taking place) _ held given (λ s k w formed.
      taken-step d.ctx place k.state k.state _ (Err e) (Err e) refl (sym ((refused s k w).wcc_after k.state)) refl
      taking (failed _ (refused s k w).refused))

-- ---- what is asked for first
module _ (taking : Taking) (place : DirOp) (d : DraftValue) (begins : Begins (call_of taking place) d)
    (handle : List ℕ) (is : handle ≡ place.directory) where
  first-asked : {A : Type 0} (r : Result A Missing)
      → HaltsFirst d.modes d.view (first_wanted_with d.view (handle ∷ [])) r →
      HaltsFirst (modes_of (call_of taking place)) d.view (first_wanted (call_of taking place) d.view) r
  first-asked r first =
      subst (λ modes. HaltsFirst modes d.view (first_wanted (call_of taking place) d.view) r) begins.modes
      (subst (λ wanted. HaltsFirst d.modes d.view wanted r)
      (ap (λ h. first_wanted_with d.view (h ∷ [])) is ∙ wants taking place d.view) first)

  pub first-halted : (A B : Type 0) (halt : Missing) →
      HaltsFirst {A = A} d.modes d.view (first_wanted_with d.view (handle ∷ [])) (Err halt) →
      HaltsFirst {A = B} (modes_of (call_of taking place)) d.view (first_wanted (call_of taking place) d.view)
      (Err halt)
  first-halted A B halt first = first-asked (Err halt) (by (first_wanted_with d.view (handle ∷ [])) first)
    where
      by : (w : Option Addr) → HaltsFirst {A = A} d.modes d.view w (Err halt)
          → HaltsFirst {A = B} d.modes d.view w (Err halt)
      by None first = tt
      by (Some a) first = first

  -- once it was read, any end will do
  pub first-read : {A B : Type 0} (x : A) (r : Result B Missing) →
      HaltsFirst d.modes d.view (first_wanted_with d.view (handle ∷ [])) (Ok x) →
      HaltsFirst (modes_of (call_of taking place)) d.view (first_wanted (call_of taking place) d.view) r
  first-read x r first = first-asked r (by (first_wanted_with d.view (handle ∷ [])) first)
    where
      by : (w : Option Addr) → HaltsFirst d.modes d.view w (Ok x) → HaltsFirst d.modes d.view w r
      by None read = tt
      by (Some a) read = absurd read
