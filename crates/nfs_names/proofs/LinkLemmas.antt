-- What LINK does is an end of the machine's, and its answer is a step.
use Rattle.std.proofs.Common.{◌≡◌, ◌==◌, ℕ, ◌+◌, ◌^◌, true, false, Bool, not, nat_lt, List, []}
use Rattle.std.proofs.Common.{Option, Some, None, Result, Ok, Err, refl, sym, ◌∙◌, ap, subst, option_map}
use Rattle.std.proofs.lemmas.Bool.{not-true}
use Rattle.std.specs.Cmp.{unsigned_Decides}
use Rattle.std.specs.Prelude.{is_none, is_some}
use Rattle.nfs_wire.specs.declared.attributes.Attributes.{Attributes}
use Rattle.nfs_wire.specs.declared.attributes.Wcc.{Wcc}
use Rattle.nfs_wire.specs.declared.calls.LinkArguments.{LinkArguments}
use Rattle.nfs_wire.specs.declared.calls.NfsCall.TheVariants as nfs
use Rattle.nfs_wire.specs.declared.replies.NfsReply.{NfsReply}
use Rattle.nfs_wire.specs.declared.replies.NfsReply.TheVariants as replies
use Rattle.nfs_wire.specs.declared.status.NfsStatus.{NfsStatus}
use Rattle.nfs_wire.specs.declared.status.NfsStatus.TheVariants as status
use Rattle.nfs_machine.proofs.ChecksPassedLemmas.{holds}
use Rattle.nfs_machine.specs.Answers.{Ends, answer_of, state_after}
use Rattle.nfs_machine.specs.Attributes.{entries_of, is_directory, links_of}
use Rattle.nfs_machine.specs.Checks.{DirectoryEntries, ◌>>=◌, entries_in, entry_of, holding, link_limit, object_of}
use Rattle.nfs_machine.specs.Exports.{LivingExport}
use Rattle.nfs_machine.specs.LinkSteps.{link_end}
use Rattle.nfs_machine.specs.Making.{with_entry}
use Rattle.nfs_machine.specs.NfsSteps.{NfsStep}
use Rattle.nfs_machine.specs.Resolve.{BadHandle, Named, Resolved, Stale, resolve}
use Rattle.nfs_machine.specs.Resolve as resolved
use Rattle.nfs_machine.specs.Shown.{after_first, attributes_at, shown, touched, wcc, with_content, with_object}
use Rattle.nfs_machine.specs.State.{Entry, State}
use Rattle.nfs_machine.specs.Times.{time_of}
use Rattle.nfs_machine.specs.declared.calls.Call.TheVariants as calls
use Rattle.nfs_machine.specs.declared.calls.Reply.TheVariants as answers
use Rattle.nfs_machine.specs.declared.context.Ctx.{Ctx}
use Rattle.nfs_objects.proofs.KnowsLemmas.{failed, passed}
use Rattle.nfs_objects.proofs.PromiseLemmas.{answer-ending, promised-does, promised-unchanged}
use Rattle.nfs_objects.specs.Begins.{Begins}
use Rattle.nfs_objects.specs.Knows.{Does, Knows, Possible, Turns, ending}
use Rattle.nfs_objects.specs.Promise.{Given, Held, IsPromised}
use Rattle.nfs_objects.specs.Sound.{Sound}
use Rattle.nfs_objects.specs.Stands.{StoreMeaning}
use Rattle.nfs_objects.specs.Store.{Store}
use Rattle.nfs_objects.specs.Values.{DraftValue, done_value}
use Rattle.nfs_inodes.proofs.NameGainedLemmas.{gained-sound, gained-state}
use Rattle.nfs_inodes.proofs.StandsLemmas.{directory-listed, kind-is}
use Rattle.nfs_inodes.specs.Known.{Means, Names, content_at, entries_found, last_cookie_of, listed, new_cookie}
use Rattle.nfs_inodes.specs.Known.{object_at, weak_of}
use Rattle.nfs_inodes.specs.Links.{link_gained}
use Rattle.nfs_inodes.specs.declared.found.Known.{Known}
use Rattle.nfs_inodes.specs.declared.kinds.KnownDirectory.{KnownDirectory}
use Rattle.nfs_names.proofs.MakeObjectLemmas.{a-cookie, no-cookie}
use Rattle.nfs_names.specs.Checking.{names_checked}
use Rattle.nfs_names.specs.Links.{IsLinkEnd, LinkComesTo, link_checked}

abbrev LinkEnd : Type 0
LinkEnd = Result (Unit {0} × State) NfsStatus

-- a check that passed in a chain that passed
bound-ok : {A B : Type 0} (r : Result A NfsStatus) (f : A → Result B NfsStatus) (y : B) → (r >>= f) ≡ Ok y →
    (x : A) × (r ≡ Ok x) × (f x ≡ Ok y)
bound-ok (Ok x) f y is = (x, refl, is)
bound-ok (Err e) f y is = cc

module _ (d : DraftValue) (a : LinkArguments) (file x : Known) (names : Knows d (λ k. Names d.ctx a.file k file))
    (above : Knows d (λ k. Names d.ctx a.place.directory k x)) (exports : List LivingExport)
    (lists : Knows d (λ k. k.state.exports ≡ exports)) where
  -- with one more name
  abbrev linked : State → DirectoryEntries → State
  linked m entries = with_object (with_object m x.number (with_content (object_at m x) (time_of d.ctx.moment)
      (with_entry entries.list entries.last_cookie a.place.name file.number))) file.number
      (touched (object_at m file) (time_of d.ctx.moment))

  abbrev room : State → DirectoryEntries → LinkEnd
  room m entries = holding (nat_lt (entries.last_cookie + 1) (2 ^ 64)) status.NoSpace >>= λ _. Ok
      (tt, linked m entries)

  abbrev count : State → DirectoryEntries → LinkEnd
  count m entries = holding (nat_lt (links_of m file.number (content_at m file.number)) link_limit)
      status.TooManyLinks >>= λ _. room m entries

  abbrev rest : State → DirectoryEntries → LinkEnd
  rest m entries = holding (is_none (entry_of entries.list a.place.name)) status.Exists >>= λ _. count m entries

  comes : (checked : Result KnownDirectory NfsStatus) → LinkComesTo exports d.ctx a.place.name file x checked →
      (s : Store) (k : StoreMeaning) → Possible d s k →
      link_end k.state d.ctx a ≡ entries_found (content_at k.state x.number) (rest k.state) checked
  comes checked passes s k w = passed _ (names s k w).names (passed _ (above s k w).names
      (ap (λ es. link_checked es d.ctx a.place.name (object_at k.state file) (object_at k.state x) (rest k.state))
      (lists s k w)
      ∙ passes (content_at k.state file.number) (content_at k.state x.number) (rest k.state)
      (kind-is k.state file (names s k w).known) (kind-is k.state x (above s k w).known)))

  pub refused-end : (e : NfsStatus) → LinkComesTo exports d.ctx a.place.name file x (Err e) →
      (s : Store) (k : StoreMeaning) → Possible d s k →
      IsLinkEnd d.ctx a k.state (Err e)
  refused-end e refuses s k w = comes (Err e) refuses s k w

  module _ (directory : KnownDirectory) (known : directory.known ≡ x)
      (passes : LinkComesTo exports d.ctx a.place.name file x (Ok directory)) where
    -- the checks tell that the file is of the directory's export, and is none
    abbrev of_export : Result (Unit {0}) NfsStatus
    of_export = holding (file.export == x.export) status.CrossDevice

    abbrev of_kind : State → Result (Unit {0}) NfsStatus
    of_kind m = holding (not (is_directory (content_at m file.number))) status.Invalid

    abbrev named : State → LinkEnd
    named m = names_checked status.Invalid status.Invalid exports d.ctx a.place.name (object_at m x)
        (λ _. Ok (tt, m))

    passing : (s : Store) (k : StoreMeaning) → Possible d s k →
        (of_export >>= λ _. of_kind k.state >>= λ _. named k.state) ≡ Ok (tt, k.state)
    passing s k w = passes (content_at k.state file.number) (content_at k.state x.number) (λ _. Ok (tt, k.state))
        (kind-is k.state file (names s k w).known) (kind-is k.state x (above s k w).known)

    export : (s : Store) (k : StoreMeaning) → Possible d s k → file.export ≡ x.export
    export s k w =
        let first = bound-ok of_export (λ _. of_kind k.state >>= λ _. named k.state) _ (passing s k w) in
        (unsigned_Decides file.export x.export).0 (holds (file.export == x.export) status.CrossDevice first.0 first.1)

    plain : (s : Store) (k : StoreMeaning) → Possible d s k → is_directory (content_at k.state file.number) ≡ false
    plain s k w =
        let first = bound-ok of_export (λ _. of_kind k.state >>= λ _. named k.state) _ (passing s k w) in
        let second = bound-ok (of_kind k.state) (λ _. named k.state) _ first.2 in
        not-true (is_directory (content_at k.state file.number))
        (holds (not (is_directory (content_at k.state file.number))) status.Invalid second.0 second.1)

    abbrev entry : StoreMeaning → Option Entry
    entry k = entry_of (entries_of (content_at k.state x.number)) a.place.name

    abbrev numbered : Option Entry → Option ℕ
    numbered found = option_map (λ (e : Entry). e.number) found

    some-none : (found : Option Entry) (number : Option ℕ) → numbered found ≡ number →
        true ≡ is_some number → is_none found ≡ false
    some-none None number is some = (let no : true ≡ false = some ∙ ap is_some (sym is) in cc)
    some-none (Some e) number is some = refl

    none-none : (found : Option Entry) (number : Option ℕ) → numbered found ≡ number →
        false ≡ is_some number → found ≡ None
    none-none None number is none = refl
    none-none (Some e) number is none = (let no : false ≡ true = none ∙ ap is_some (sym is) in cc)

    module _ (number : Option ℕ) (leads : Knows d (λ k. numbered (entry k) ≡ number)) where
      pub there-end : true ≡ is_some number → (s : Store) (k : StoreMeaning) → Possible d s k →
          IsLinkEnd d.ctx a k.state (Err status.Exists)
      there-end some s k w = comes (Ok directory) passes s k w
          ∙ failed _ (ap (λ b. holding b status.Exists) (some-none (entry k) number (leads s k w) some))

      module _ (free : false ≡ is_some number) where
        absent : (s : Store) (k : StoreMeaning) → Possible d s k → entry k ≡ None
        absent s k w = none-none (entry k) number (leads s k w) free

        counted : (s : Store) (k : StoreMeaning) → Possible d s k → link_end k.state d.ctx a ≡ count k.state
            (listed (content_at k.state x.number))
        counted s k w = comes (Ok directory) passes s k w
            ∙ passed _ (ap (λ f. holding (is_none f) status.Exists) (absent s k w)) refl

        limit : (s : Store) (k : StoreMeaning) → Possible d s k → (b : Bool) → nat_lt file.attributes.links link_limit ≡
            b →
            holding (nat_lt (links_of k.state file.number (content_at k.state file.number)) link_limit)
            status.TooManyLinks ≡ holding b status.TooManyLinks
        limit s k w b is = ap (λ b. holding b status.TooManyLinks)
            (ap (λ l. nat_lt l link_limit) (sym (ap (λ (z : Attributes). z.links) (names s k w).known.shows)) ∙ is)

        pub many-end : nat_lt file.attributes.links link_limit ≡ false → (s : Store) (k : StoreMeaning) →
            Possible d s k → IsLinkEnd d.ctx a k.state (Err status.TooManyLinks)
        many-end many s k w = counted s k w ∙ failed _ (limit s k w false many)

        module _ (few : nat_lt file.attributes.links link_limit ≡ true) where
          abbrev last : StoreMeaning → ℕ
          last k = last_cookie_of (content_at k.state x.number)

          roomy : (s : Store) (k : StoreMeaning) → Possible d s k → link_end k.state d.ctx a ≡ room k.state
              (listed (content_at k.state x.number))
          roomy s k w = counted s k w ∙ passed _ (limit s k w true few) refl

          pub full-end : Knows d (λ k. new_cookie (last k) ≡ None) → (s : Store) (k : StoreMeaning) → Possible d s k →
              IsLinkEnd d.ctx a k.state (Err status.NoSpace)
          full-end none s k w = roomy s k w ∙ failed _ (no-cookie (nat_lt (last k + 1) (2 ^ 64)) _ status.NoSpace
              (none s k w))

          module _ (cookie : ℕ) (next : Knows d (λ k. new_cookie (last k) ≡ Some cookie)) (new : DraftValue)
              (turns : Turns d new (link_gained (time_of d.ctx.moment) x.number x.attributes.links
              (record { name = a.place.name; number = file.number; cookie = cookie })
              (file.attributes.links + 1))) where
            free-cookie : (s : Store) (k : StoreMeaning) → Possible d s k →
                (holding (nat_lt (last k + 1) (2 ^ 64)) status.NoSpace ≡ Ok tt) × (last k + 1 ≡ cookie)
            free-cookie s k w = a-cookie (nat_lt (last k + 1) (2 ^ 64)) (last k + 1) cookie status.NoSpace (next s k w)

            has-entries : (s : Store) (k : StoreMeaning) → Possible d s k
                → entries_in (content_at k.state x.number) ≡ Ok
                (listed (content_at k.state x.number))
            has-entries s k w = directory-listed (content_at k.state x.number)
                (kind-is k.state x (above s k w).known ∙ ap (λ (z : Known). z.attributes.kind) (sym known)
                ∙ directory.kind)

            abbrev op : ℕ → StoreMeaning → StoreMeaning
            op cookie = link_gained (time_of d.ctx.moment) x.number x.attributes.links
                (record { name = a.place.name; number = file.number; cookie = cookie }) (file.attributes.links + 1)

            pub linked-does : Does d new (IsLinkEnd d.ctx a) (Ok tt)
            linked-does = record {
              op = op cookie;
              turns = turns;
              sound = λ s k w formed.
                  subst (λ c. Sound (op c k)) (free-cookie s k w).1
                  (gained-sound k x file (above s k w).known (names s k w).known (time_of d.ctx.moment) a.place.name
                  (listed (content_at k.state x.number)) (has-entries s k w)
                  (absent s k w) (plain s k w) (export s k w) formed w.sound);
              ends = λ s k w formed.
                  roomy s k w ∙ passed _ (free-cookie s k w).0 (ap (λ (m : State). Ok (tt, m))
                  (sym (gained-state k x file (above s k w).known (names s k w).known (time_of d.ctx.moment)
                  a.place.name (listed (content_at k.state x.number)) (has-entries s k w)
                  (absent s k w) (plain s k w) (file.attributes.links + 1))
                  ∙ ap (λ c. (op c k).state) (free-cookie s k w).1));
              stays = λ k. refl;
            }

-- ---- the reply
abbrev told : Option Attributes → Wcc → Result (Unit {0}) NfsStatus → NfsReply
told attributes directory result = replies.Link (record {
  attributes = attributes;
  directory = directory;
  result = result;
})

module _ (ctx : Ctx) (a : LinkArguments) (m after : State) (attributes : Option Attributes) (directory : Wcc)
    (result : Result (Unit {0}) NfsStatus) (end : LinkEnd)
    (is : after ≡ state_after m end) (shows : attributes ≡ shown (state_after m end) (resolve m ctx a.file))
    (wraps : directory ≡ wcc (state_after m end)
    (after_first (resolve m ctx a.file) (resolve m ctx a.place.directory))) (tells : answer_of end ≡ result) where
  abbrev Answered : LinkEnd → Type 0
  Answered to = Ends m (λ after result. told (shown after (resolve m ctx a.file))
      (wcc after (after_first (resolve m ctx a.file) (resolve m ctx a.place.directory))) result) to
      (told attributes directory result) [] after

  pub link-step : IsLinkEnd ctx a m end → NfsStep m ctx (nfs.Link a) (told attributes directory result) [] after
  unfolding NfsStep
  link-step ends = subst Answered (sym ends) (record {
    reply_is = ap (λ x. told x directory result) shows
        ∙ ap (λ w. told (shown (state_after m end) (resolve m ctx a.file)) w result) wraps
        ∙ ap (told (shown (state_after m end) (resolve m ctx a.file))
        (wcc (state_after m end) (after_first (resolve m ctx a.file) (resolve m ctx a.place.directory))))
        (sym tells);
    no_message = refl;
    state_is = is;
  })

-- a handle is looked at where the one before it names something
pub after-named : (first second : Resolved) (x : Named) → object_of first ≡ Ok x → after_first first second ≡
    second
after-named BadHandle second x is = cc
after-named Stale second x is = cc
after-named (resolved.Names number object) second x is = refl

pub after-refused : (first second : Resolved) (e : NfsStatus) → object_of first ≡ Err e →
    after_first first second ≡ BadHandle
after-refused BadHandle second e is = refl
after-refused Stale second e is = refl
after-refused (resolved.Names number object) second e is = cc

module _ (old : DraftValue) (a : LinkArguments) (begins : Begins (calls.Nfs (nfs.Link a)) old) (new : DraftValue)
    (held : Held new.view new.writes) (given : Given new.view new.writes) where
  abbrev Replies : Option Attributes → Wcc → Result (Unit {0}) NfsStatus → Type 0
  Replies attributes directory result = IsPromised (done_value (calls.Nfs (nfs.Link a)) old.ctx old.view
      (record { writes = new.writes; messages = new.messages; reply = answers.Nfs (told attributes directory result) }))

  pub linked-promised : (file x : Known) (result : Result (Unit {0}) NfsStatus) (attributes : Option Attributes)
      (directory : Wcc) →
      Knows old (λ k. Names old.ctx a.file k file) → Knows old (Means old.ctx a.place.directory (Ok x)) →
      Does old new (IsLinkEnd old.ctx a) result →
      Knows new (λ k. attributes_at k.state file.number ≡ attributes) →
      Knows new (λ k. directory ≡ record { before = Some (weak_of x); after = attributes_at k.state x.number }) →
      Replies attributes directory result
  linked-promised file x result attributes directory names above does shows wraps =
      promised-does old new begins.none begins.quiet (IsLinkEnd old.ctx a) result does (calls.Nfs (nfs.Link a)) _ held
      given (λ s k after w later is stays ends.
      let end : State = state_after k.state (ending result (does.op k).state) in
      link-step old.ctx a k.state after attributes directory result (ending result (does.op k).state) stays
      (sym (shows s (does.op k) later) ∙ ap (λ m. attributes_at m file.number) (sym is ∙ stays)
      ∙ sym ((names s k w).shows_after end))
      (wraps s (does.op k) later
      ∙ ap (λ m. record { before = Some (weak_of x); after = attributes_at m x.number }) (sym is ∙ stays)
      ∙ sym ((above s k w).wcc_after end)
      ∙ ap (wcc end) (sym (after-named (resolve k.state old.ctx a.file) (resolve k.state old.ctx a.place.directory) _
      (names s k w).names)))
      (answer-ending result (does.op k).state) ends)

module _ (d : DraftValue) (a : LinkArguments) (begins : Begins (calls.Nfs (nfs.Link a)) d) (held : Held d.view d.writes)
    (given : Given d.view d.writes) where
  -- the file's handle names nothing
  pub file-refused : (e : NfsStatus) → Knows d (Means d.ctx a.file (Err e)) → Replies d a begins d held given None
      (record { before = None; after = None }) (Err e)
  file-refused e refused =
      promised-unchanged d begins.none begins.quiet (calls.Nfs (nfs.Link a)) _ held given (λ s k w formed.
      link-step d.ctx a k.state k.state _ _ (Err e) (Err e) refl (sym ((refused s k w).shows_after k.state))
      (sym (ap (wcc k.state) (after-refused (resolve k.state d.ctx a.file) (resolve k.state d.ctx a.place.directory) e
      (refused s k w).refused)))
      refl (failed _ (refused s k w).refused))

  -- the directory's does
  pub directory-refused : (file : Known) (e : NfsStatus) → Knows d (λ k. Names d.ctx a.file k file) →
      Knows d (Means d.ctx a.place.directory (Err e)) →
      Replies d a begins d held given (Some file.attributes) (record { before = None; after = None }) (Err e)
  directory-refused file e names refused =
      promised-unchanged d begins.none begins.quiet (calls.Nfs (nfs.Link a)) _ held given (λ s k w formed.
      link-step d.ctx a k.state k.state _ _ (Err e) (Err e) refl (sym (names s k w).shows)
      (sym (ap (wcc k.state) (after-named (resolve k.state d.ctx a.file) (resolve k.state d.ctx a.place.directory) _
      (names s k w).names) ∙ (refused s k w).wcc_after k.state))
      refl (passed _ (names s k w).names (failed _ (refused s k w).refused)))
