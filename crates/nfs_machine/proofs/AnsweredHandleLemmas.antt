-- What the handles name that calls are answered with.
use Rattle.std.proofs.Common.{◌≡◌, ◌==◌, ℕ, ◌+◌, ◌<◌, ◌^◌, Bool, true, false}
use Rattle.std.proofs.Common.{◌&&◌, cond, List, [], ◌∷◌, ◌++◌}
use Rattle.std.proofs.Common.{Option, Some, None, Result, Ok, Err, IfOk, map, option_map, unwrap_or, nat_lt, nat_le}
use Rattle.std.proofs.Common.{inl, inr, refl, sym, ◌∙◌, ap, subst, find}
use Rattle.std.specs.Prelude.{IsSome, ok_or}
use Rattle.std.specs.Cmp.{unsigned_Decides}
use Rattle.std.specs.FinMap.{get}
use Rattle.std.specs.List.{AllByRecursion}
use Rattle.nfs_wire.specs.declared.calls.CreateHow.{CreateHow}
use Rattle.nfs_wire.specs.declared.calls.CreateHow.TheVariants.{Unchecked, Guarded, Exclusive}
use Rattle.nfs_wire.specs.declared.calls.NfsCall.TheVariants as calls
use Rattle.nfs_wire.specs.declared.calls.DirOp.{DirOp}
use Rattle.nfs_wire.specs.declared.replies.Found.{Found}
use Rattle.nfs_wire.specs.declared.replies.Made.{Made}
use Rattle.nfs_wire.specs.declared.status.NfsStatus.{NfsStatus}
use Rattle.nfs_wire.specs.declared.status.NfsStatus.TheVariants as status
use Rattle.side_wire.specs.declared.message.Message.{Message}
use Rattle.side_wire.specs.declared.mount.MountStatus.{MountStatus}
use Rattle.side_wire.specs.declared.mount.MountStatus.TheVariants as mount_status
use Rattle.nfs_machine.specs.Answers.{answer_of, state_after}
use Rattle.nfs_machine.specs.Attributes.{attributes_of, entries_of, is_directory, links_of}
use Rattle.nfs_machine.specs.Bytes.{same_bytes}
use Rattle.nfs_machine.specs.Checks.{◌>>=◌, holding, bytes_in, object_of, entries_in, plain_name_checked}
use Rattle.nfs_machine.specs.Checks.{changeable}
use Rattle.nfs_machine.specs.Checks.{permitted, entry_of, name_checked}
use Rattle.nfs_machine.specs.Data.{size_limit, resized}
use Rattle.nfs_machine.specs.Exports.{LivingExport, export_admits, export_at}
use Rattle.nfs_machine.specs.HandleLaws.{EntryIsTold, HandlesResolve, MadeIsTold, MntHandlesResolve, NamesDirectory}
use Rattle.nfs_machine.specs.HandleLaws.{IsTold, NfsHandlesResolve, Resolves}
use Rattle.nfs_machine.specs.Handles.{handle_of}
use Rattle.nfs_machine.specs.Laws.{HandlesAreRead, NumbersFit}
use Rattle.nfs_machine.specs.MakeSteps.{wanted_of, wanted_special}
use Rattle.nfs_machine.specs.Making.{Wanted, given_attributes, kind_checked, made, new_object, with_entry}
use Rattle.nfs_machine.specs.MountSteps.{MntAnswers, MountStep, Target, directory_at, is_mounted, newest, walk}
use Rattle.nfs_machine.specs.MountSteps.{with_mount}
use Rattle.nfs_machine.specs.NameSteps.{create_existing, create_over, leads_to, lookup_found, wanted_file}
use Rattle.nfs_machine.specs.NfsSteps.{NfsStep}
use Rattle.nfs_machine.specs.Pages.{DirectoryPage, all_entries, fits_full}
use Rattle.nfs_machine.specs.PageSteps.{IsParentOf, entries_left, full_entry}
use Rattle.nfs_machine.proofs.VisitLemmas.{ListsPage}
use Rattle.nfs_machine.specs.Permission.{ToChange, ToSearch, ToWrite}
use Rattle.nfs_machine.specs.Resolve.{Named, Resolved, BadHandle, Stale, Names, living_at, named, resolve}
use Rattle.nfs_machine.specs.Shown.{handle_at, replaced, with_content, with_object}
use Rattle.nfs_machine.specs.State.{Regular, Directory, Link, Entry, Living, State}
use Rattle.nfs_machine.specs.Times.{time_of}
use Rattle.nfs_machine.specs.WellFormed.{HasRoot, IsNumbered, IsParent, Leads, WellFormed}
use Rattle.nfs_machine.specs.declared.calls.Call.TheVariants as any_call
use Rattle.nfs_machine.specs.declared.calls.Reply.TheVariants as any_reply
use Rattle.nfs_machine.specs.declared.context.Ctx.{Ctx}
use Rattle.nfs_machine.proofs.ChoiceLemmas.{Fresh, End, Known, Chosen, EndsAs, make_plan, make_new, known, known-holds}
use Rattle.nfs_machine.proofs.ChoiceLemmas.{makes-as}
use Rattle.nfs_machine.specs.declared.handle.Handle.{Handle}
use Rattle.side_wire.specs.declared.mount.lists.MountBody.{MountBody}
use Rattle.nfs_machine.proofs.MapChangeLemmas.{all-filter, differs-insert, differs-there, find-all, itself}
use Rattle.nfs_machine.proofs.ExportedLemmas.{export-all, export-number}
use Rattle.nfs_machine.proofs.ChecksPassedLemmas.{chained-is, is-directory, resolved-lives, numbered}
use Rattle.nfs_machine.proofs.ProcedureFollowsLemmas.{of-ok}
use Rattle.nfs_machine.proofs.StepKeepsLemmas.{steps_keep_form}
use Rattle.nfs_machine.proofs.HandleFitsLemmas.{steps_keep_numbers}
use Rattle.nfs_machine.proofs.NamesCountedLemmas.{passing}
use Rattle.nfs_machine.proofs.PageLemmas.{PagesOf, readdirplus_page}
use Rattle.nfs_machine.proofs.AnsweredVisitLemmas.{lists}
use Rattle.nfs_wire.specs.declared.calls.NfsCall.{NfsCall}
use Rattle.nfs_wire.specs.declared.replies.NfsReply.{NfsReply}
use Rattle.nfs_machine.proofs.WellFormedLemmas.{all_map}

-- ---- what a handle says of the object that it names
resolved : (r : Resolved) (x : Named) → object_of r ≡ Ok x → r ≡ Names x.number x.object
resolved BadHandle x is = cc
resolved Stale x is = cc
resolved (Names number object) x is = (let same : numbered number object ≡ x = cc in
    ap (λ (y : Named). Names y.number y.object) same)

-- the export of the object that a handle names admits the caller
named-admits : (find : ℕ → Option Living) (exports : List LivingExport) (ctx : Ctx) (h : Option Handle)
    (number : ℕ)
    (o : Living) → named find exports ctx h ≡ Names number o →
    export_admits (export_at exports o.export) ctx.host ≡ true
named-admits find exports ctx None number o is = cc
named-admits find exports ctx (Some h) number o is = both (h.start == ctx.start)
    (export_admits (export_at exports h.export) ctx.host) refl is
  where
    living : export_admits (export_at exports h.export) ctx.host ≡ true → (x : Option Living) →
        living_at x h ≡ Names number o → export_admits (export_at exports o.export) ctx.host ≡ true
    living admitted None at = cc
    living admitted (Some object) at = elim (object.generation == h.generation) as
        (λ a. cond (a && (object.export == h.export)) (Names h.fileid object) Stale ≡ Names number o →
        export_admits (export_at exports o.export) ctx.host ≡ true) [
          | false ↦ λ t. cc
          | true ↦ elim (object.export == h.export) as
              (λ b. (object.export == h.export) ≡ b → cond b (Names h.fileid object) Stale ≡ Names number o →
              export_admits (export_at exports o.export) ctx.host ≡ true) [
                | false ↦ λ e t. cc
                | true ↦ λ e t. (let same : object ≡ o = cc in
                    ap (λ (x : Living). export_admits (export_at exports x.export) ctx.host) (sym same)
                    ∙ ap (λ k. export_admits (export_at exports k) ctx.host)
                    ((unsigned_Decides object.export h.export).0 e) ∙ admitted)
              ] refl
        ] at

    both : (a b : Bool) → export_admits (export_at exports h.export) ctx.host ≡ b →
        cond (a && b) (living_at (find h.fileid) h) Stale ≡ Names number o →
        export_admits (export_at exports o.export) ctx.host ≡ true
    both true true e t = living e (find h.fileid) t
    both true false e t = cc
    both false b e t = cc

-- ---- what lives in an export that admits the caller
record IsKnown (m : State) (ctx : Ctx) (number : ℕ) (o : Living) : Type 0 where
  lives : get m.objects number ≡ Some o
  admitted : export_admits (export_at m.exports o.export) ctx.host ≡ true

-- the number of a living export has 32 bits
export-fits : (m : State) → WellFormed m → (number : ℕ) (o : Living) → get m.objects number ≡ Some o →
    o.export < 2 ^ 32
export-fits m w number o lives = of (export_at m.exports o.export) refl (w.exported number o lives)
  where
    of : (e : Option LivingExport) → export_at m.exports o.export ≡ e → IsSome e → o.export < 2 ^ 32
    of None is some = cc
    of (Some e) is some = subst (λ k. k < 2 ^ 32) (export-number m.exports o.export e is)
        (export-all (IsNumbered m.last_export) m.exports o.export e w.exports.numbered is).1

module _ (read : HandlesAreRead) (m : State) (ctx : Ctx) (w : WellFormed m) (fit : NumbersFit m)
    (start : ctx.start < 2 ^ 64) where
  -- its handle names it
  names-known : (number : ℕ) (o : Living) → IsKnown m ctx number o → resolve m ctx (handle_at ctx number o) ≡
      Names number o
  names-known number o known =
      let h : Handle = record { export = o.export; start = ctx.start; fileid = number; generation = o.generation } in
      let fits = fit number o.generation (record { object = o; lives = known.lives; generation_is = refl }) in
      ap (named (get m.objects) m.exports ctx) (read h (record {
        export = export-fits m w number o known.lives;
        start = start;
        fileid = fits.0;
        generation = fits.1;
      }))
      ∙ ap (λ a. cond (a && export_admits (export_at m.exports o.export) ctx.host)
      (living_at (get m.objects number) h) Stale) (itself ctx.start)
      ∙ ap (λ b. cond b (living_at (get m.objects number) h) Stale) known.admitted
      ∙ ap (λ x. living_at x h) known.lives
      ∙ ap (λ a. cond (a && (o.export == o.export)) (Names number o) Stale) (itself o.generation)
      ∙ ap (λ b. cond b (Names number o) Stale) (itself o.export)

  resolves-known : (number : ℕ) (o : Living) → IsKnown m ctx number o →
      Resolves m ctx (handle_at ctx number o) (Some (attributes_of m number o))
  resolves-known number o known = record {
    number = number;
    object = o;
    is_named = names-known number o known;
    are_shown = refl;
  }

-- ---- what the entries of a directory lead to
module _ (m : State) (w : WellFormed m) where
  -- something of this export
  abbrev InExport : ℕ → ℕ → Type 0
  InExport export number = (o : Living) × (get m.objects number ≡ Some o) × (o.export ≡ export)

  parent-export : (number parent : ℕ) (d : Living) → get m.objects number ≡ Some d →
      IsParent m number parent →
      InExport d.export parent
  parent-export number parent d at p = (
    p.directory,
    p.lives,
    elim p.named_in [
      | inl root ↦
          let both : Some p.directory ≡ Some d = sym p.lives ∙ ap (get m.objects) root.0 ∙ at in
          let same : p.directory ≡ d = cc in ap (λ (x : Living). x.export) same
      | inr some ↦
          let e = passing (Leads m p.directory) (λ (x : Entry). x.number == number) (entries_of p.directory.content)
          (w.names parent p.directory p.lives).leads some in
          let both : Some (e.1).object ≡ Some d = sym (e.1).lives ∙ ap (get m.objects)
          ((unsigned_Decides e.0.number number).0 e.2) ∙ at in
          let same : (e.1).object ≡ d = cc in
          sym (e.1).export ∙ ap (λ (x : Living). x.export) same
    ],
  )

  entries-export : (number parent : ℕ) (d : Living) (entries : List Entry) (last : ℕ) →
      get m.objects number ≡ Some d → d.content ≡ Directory entries last → IsParent m number parent →
      AllByRecursion (λ (e : Entry). InExport d.export e.number) (all_entries number parent entries)
  entries-export number parent d entries last at content p = (
    (d, at, refl),
    (
      parent-export number parent d at p,
      all_map (Leads m d) (λ (e : Entry). InExport d.export e.number) (λ e l. (l.object, l.lives, l.export)) entries
          (subst (AllByRecursion (Leads m d)) (ap entries_of content) (w.names number d at).leads),
    ),
  )

-- the first of a list
all-front : (P : Entry → Type 0) (front rest : List Entry) → AllByRecursion P (front ++ rest) →
    AllByRecursion P front
all-front P [] rest all = tt
all-front P (e ∷ front) rest all = (all.0, all-front P front rest all.1)

module _ (m : State) (ctx : Ctx) (w : WellFormed m) (directory : Named) where
  known-there : (admitted : export_admits (export_at m.exports directory.object.export) ctx.host ≡ true) (number : ℕ)
      (o : Living) → get m.objects number ≡ Some o → o.export ≡ directory.object.export → IsKnown m ctx number o
  known-there admitted number o at same = record {
    lives = at;
    admitted = ap (λ k. export_admits (export_at m.exports k) ctx.host) same ∙ admitted;
  }

module _ (read : HandlesAreRead) (m : State) (ctx : Ctx) (w : WellFormed m) (fit : NumbersFit m)
    (start : ctx.start < 2 ^ 64) where
  -- ---- LOOKUP
  lookup-resolves : (place : DirOp) (parent : ℕ) → IsParentOf m ctx place.directory parent →
      IfOk (lookup_found m ctx place parent) (λ found. Resolves m ctx found.object found.attributes)
  lookup-resolves place parent is_parent =
      let P = λ (found : Found). Resolves m ctx found.object found.attributes in
      chained-is P (object_of (resolve m ctx place.directory)) _ (λ directory at.
      chained-is P (entries_in directory.object.content) _ (λ entries is.
      chained-is P (name_checked place.name) _ (λ x1 e1.
      chained-is P (permitted ctx directory.object ToSearch) _ (λ x2 e2.
      chained-is P (leads_to directory.number parent entries.list place.name) _ (λ number leads.
      chained-is P (ok_or (get m.objects number) status.NoEntry) _ (λ o there.
      let names = resolved (resolve m ctx place.directory) directory at in
      let content = is-directory directory.object.content entries is in
      let lives = resolved-lives m ctx place.directory directory at in
      let inside = entries-export m w directory.number parent directory.object entries.list entries.last_cookie lives
      content
      (is_parent directory.number directory.object names (ap is_directory content)) in
      let known = led (all_entries directory.number parent entries.list) place.name directory.object.export inside
      number leads in
      let own = exists (get m.objects number) o there in
      let both : Some known.0 ≡ Some o = sym known.1 ∙ own in
      let same : known.0 ≡ o = cc in
      resolves-known read m ctx w fit start number o
      (known-there m ctx w directory
      (named-admits (get m.objects) m.exports ctx (handle_of place.directory) directory.number directory.object names)
      number o own (ap (λ (x : Living). x.export) (sym same) ∙ known.2))))))))
    where
      exists : (x : Option Living) (o : Living) → ok_or x status.NoEntry ≡ Ok o → x ≡ Some o
      exists None o is = cc
      exists (Some y) o is = (let same : y ≡ o = cc in ap (λ (z : Living). Some z) same)

      led : (entries : List Entry) (name : List ℕ) (export : ℕ) →
          AllByRecursion (λ (e : Entry). InExport m w export e.number) entries → (number : ℕ) →
          ok_or (option_map (λ (e : Entry). e.number) (entry_of entries name)) status.NoEntry ≡ Ok number →
          InExport m w export number
      led entries name export all number is = at (entry_of entries name) refl is
        where
          at : (e : Option Entry) → entry_of entries name ≡ e →
              ok_or (option_map (λ (e : Entry). e.number) e) status.NoEntry ≡ Ok number →
              InExport m w export number
          at None found t = cc
          at (Some e) found t = (let same : e.number ≡ number = cc in subst (InExport m w export) same
              (find-all (λ (e : Entry). InExport m w export e.number)
              (λ (x : Entry). same_bytes x.name name) entries e
              all found))

  -- ---- READDIRPLUS
  listed-resolves : (directory : List ℕ) (cookie : ℕ) (fits : List Entry → Bool) (page : DirectoryPage) →
      ListsPage m ctx directory cookie fits page
      → AllByRecursion (EntryIsTold m ctx) (map (full_entry m ctx) page.entries)
  listed-resolves directory cookie fits page lists =
      let lives = resolved-lives m ctx directory (numbered lists.number lists.object) (ap object_of lists.is_named) in
      let all = entries-export m w lists.number lists.parent lists.object lists.entries lists.last lives
      lists.is_directory lists.is_parent in
      let left = all-filter (λ (e : Entry). InExport m w lists.object.export e.number)
      (λ (e : Entry). nat_lt cookie e.cookie) (all_entries lists.number lists.parent lists.entries) all in
      let split = (lists.visit).1.0 in
      told page.entries (all-front (λ (e : Entry). InExport m w lists.object.export e.number) page.entries
      (lists.visit).0
      (subst (AllByRecursion (λ (e : Entry). InExport m w lists.object.export e.number)) split left))
    where
      one : (e : Entry) → InExport m w lists.object.export e.number → EntryIsTold m ctx (full_entry m ctx e)
      one e (o, at, same) = subst
          (λ (x : Option Living). IsTold m ctx (option_map (handle_at ctx e.number) x)
          (option_map (attributes_of m e.number) x)) (sym at)
          (resolves-known read m ctx w fit start e.number o
          (known-there m ctx w (numbered lists.number lists.object)
          (named-admits (get m.objects) m.exports ctx (handle_of directory) lists.number lists.object lists.is_named)
          e.number o at same))

      told : (es : List Entry) → AllByRecursion (λ (e : Entry). InExport m w lists.object.export e.number) es →
          AllByRecursion (EntryIsTold m ctx) (map (full_entry m ctx) es)
      told [] all = tt
      told (e ∷ es) all = (one e all.0, told es all.1)

-- ---- what is made, or is there
module _ (m : State) (ctx : Ctx) where
  -- the answer tells of something known
  abbrev KnownMade : State → Made → Type 0
  KnownMade new answer = (number : ℕ) × (o : Living) × IsKnown new ctx number o ×
      (answer ≡ made new ctx number o)

  abbrev EndKnown : End m → Type 0
  EndKnown (Known answer new) = KnownMade new answer
  EndKnown (Chosen makes shows) = (fresh : Fresh m) → KnownMade (makes fresh.choice).1 (makes fresh.choice).0

  module _ (directory : Named)
      (admitted : export_admits (export_at m.exports directory.object.export) ctx.host ≡ true) where
    new-known : (name : List ℕ) (wanted : Wanted) (entries : List Entry) (last : ℕ) →
        IfOk (make_new m ctx name wanted directory.number directory.object entries last) EndKnown
    new-known name wanted entries last =
        chained-is EndKnown (kind_checked ctx (links_of m directory.number directory.object.content) wanted.content) _
        (λ x0 e0.
        chained-is EndKnown (given_attributes ctx wanted.attributes) _ (λ x1 e1.
        chained-is EndKnown (holding (nat_lt (last + 1) (2 ^ 64)) status.NoSpace) _ (λ x2 e2 fresh.
        let o = new_object ctx directory.object.export fresh.generation wanted in
        let wider = with_content directory.object (time_of ctx.moment) (with_entry entries last name fresh.number) in (
          fresh.number,
          o,
          record {
            lives = differs-there (with_object m directory.number wider).objects
                (with_object (with_object m directory.number wider) fresh.number o).objects fresh.number (Some o)
                (differs-insert (with_object m directory.number wider).objects fresh.number o);
            admitted = admitted;
          },
          refl,
        ))))

    -- the file keeps its export
    over-export : (how : CreateHow) (o : Living) (r : Result (List ℕ) NfsStatus) →
        IfOk (create_over ctx how o r) (λ after. (unwrap_or after o).export ≡ o.export)
    over-export how o (Err e) = tt
    over-export (Guarded a) o (Ok bytes) = tt
    over-export (Exclusive verifier) o (Ok bytes) =
        elim (elim o.verifier as (λ (_ : Option (List ℕ)). Bool) [
          | None ↦ false
          | Some kept ↦ same_bytes kept verifier.bytes
        ]) as (λ b. IfOk (cond b (Ok None) (Err status.Exists)) (λ after. (unwrap_or after o).export ≡ o.export)) [
          | true ↦ refl
          | false ↦ tt
        ]
    over-export (Unchecked a) o (Ok bytes) = sized a.size
      where
        sized : (size : Option ℕ) → IfOk (elim size as (λ (_ : Option ℕ). Result (Option Living) NfsStatus) [
          | None ↦ Ok None
          | Some size ↦ permitted ctx o ToWrite >>= λ _. holding (nat_le size size_limit) status.FileTooBig >>= λ _.
              Ok (Some (with_content o (time_of ctx.moment) (Regular (resized bytes size))))
        ]) (λ after. (unwrap_or after o).export ≡ o.export)
        sized None = refl
        sized (Some size) =
            let P : Option Living → Type 0 = λ (after : Option Living). (unwrap_or after o).export ≡ o.export in
            chained-is P (permitted ctx o ToWrite) _ (λ x1 e1.
            chained-is P (holding (nat_le size size_limit) status.FileTooBig) _ (λ x2 e2. refl))

    there-after : (number : ℕ) (o : Living) (after : Option Living) → get m.objects number ≡ Some o →
        get (replaced m number after).objects number ≡ Some (unwrap_or after o)
    there-after number o None at = at
    there-after number o (Some x) at = differs-there m.objects (with_object m number x).objects number (Some x)
        (differs-insert m.objects number x)

    after-exports : (number : ℕ) (after : Option Living) → (replaced m number after).exports ≡ m.exports
    after-exports number None = refl
    after-exports number (Some x) = refl

    existing-known : (how : CreateHow) (number : ℕ) (o : Living) → get m.objects number ≡ Some o →
        o.export ≡ directory.object.export → IfOk (create_existing m ctx how number (Some o)) (λ e. KnownMade e.1 e.0)
    existing-known how number o at same =
        chained-is (λ (e : Made × State). KnownMade e.1 e.0) (create_over ctx how o (bytes_in o.content)) _
        (λ after is. (
          number,
          unwrap_or after o,
          record {
            lives = there-after number o after at;
            admitted = ap (λ (es : List LivingExport). export_admits
                (export_at es (unwrap_or after o).export) ctx.host)
                (after-exports number after)
                ∙ ap (λ k. export_admits (export_at m.exports k) ctx.host)
                (of-ok (λ after. (unwrap_or after o).export ≡ o.export) (create_over ctx how o (bytes_in o.content))
                after is (over-export how o (bytes_in o.content)) ∙ same)
                ∙ admitted;
          },
          refl,
        ))

  -- what is there under the name is in the export
  make-known : WellFormed m → (place : DirOp) (wanted : Result Wanted NfsStatus)
      (there : ℕ → Option Living → Result (Made × State) NfsStatus)
      → ((directory : Named) → export_admits (export_at m.exports directory.object.export) ctx.host ≡ true →
      (number : ℕ) (o : Living) → get m.objects number ≡ Some o → o.export ≡ directory.object.export →
      IfOk (there number (Some o)) (λ e. KnownMade e.1 e.0))
      → IfOk (make_plan m ctx place wanted there) EndKnown
  make-known w place wanted there found =
      chained-is EndKnown (object_of (resolve m ctx place.directory)) _ (λ directory at.
      chained-is EndKnown (entries_in directory.object.content) _ (λ entries is.
      chained-is EndKnown (plain_name_checked status.Exists status.Exists place.name) _ (λ x1 e1.
      chained-is EndKnown wanted _ (λ what e2.
      chained-is EndKnown (changeable m.exports directory.object) _ (λ x3 e3.
      chained-is EndKnown (permitted ctx directory.object ToChange) _ (λ x4 e4.
      under directory (named-admits (get m.objects) m.exports ctx (handle_of place.directory) directory.number
      directory.object
      (resolved (resolve m ctx place.directory) directory at)) what entries.list entries.last_cookie
      (subst (AllByRecursion (Leads m directory.object))
      (ap entries_of (is-directory directory.object.content entries is))
      (w.names directory.number directory.object (resolved-lives m ctx place.directory directory at)).leads)
      (entry_of entries.list place.name) refl))))))
    where
      under : (directory : Named) →
          export_admits (export_at m.exports directory.object.export) ctx.host ≡ true →
          (what : Wanted) (entries : List Entry) (last : ℕ) → AllByRecursion (Leads m directory.object) entries →
          (e : Option Entry) → entry_of entries place.name ≡ e →
          IfOk (elim e as (λ (_ : Option Entry). Result (End m) NfsStatus) [
            | Some e ↦ known (there e.number (get m.objects e.number))
            | None ↦ make_new m ctx place.name what directory.number directory.object entries last
          ]) EndKnown
      under directory admitted what entries last leads None is = new-known directory admitted place.name what entries
          last
      under directory admitted what entries last leads (Some e) is =
          let l = find-all (Leads m directory.object) (λ (x : Entry). same_bytes x.name place.name) entries e
          leads is in
          subst (λ x. IfOk (known (there e.number x)) EndKnown) (sym l.lives)
          (known-holds EndKnown (there e.number (Some l.object))
          (found directory admitted e.number l.object l.lives l.export))

  ends-known : (r : Result (End m) NfsStatus) (end : Result (Made × State) NfsStatus) → EndsAs m r end →
      IfOk r EndKnown → IfOk end (λ e. KnownMade e.1 e.0)
  ends-known (Ok (Known answer new)) end is known = subst
      (λ (r : Result (Made × State) NfsStatus). IfOk r (λ e. KnownMade e.1 e.0)) (sym is) known
  ends-known (Ok (Chosen makes shows)) end (fresh, is) known = subst
      (λ (r : Result (Made × State) NfsStatus). IfOk r (λ e. KnownMade e.1 e.0)) (sym is) (known fresh)
  ends-known (Err e) end is known = subst
      (λ (r : Result (Made × State) NfsStatus). IfOk r (λ e. KnownMade e.1 e.0)) (sym is) tt

-- a known object is told of in its answer
told-known : (read : HandlesAreRead) (old : State) (ctx : Ctx) (end : Result (Made × State) NfsStatus) →
    IfOk end (λ e. KnownMade old ctx e.1 e.0) → WellFormed (state_after old end) →
    NumbersFit (state_after old end) →
    ctx.start < 2 ^ 64 → IfOk (answer_of end) (MadeIsTold (state_after old end) ctx)
told-known read old ctx (Ok (answer, new)) (number, o, known, is) w fit start = subst (MadeIsTold new ctx) (sym is)
    (resolves-known read new ctx w fit start number o known)
told-known read old ctx (Err e) known w fit start = tt

-- ---- MNT
of-mount : {A B : Type 0} (P : B → Type 0) (r : Result A MountStatus) (f : A → Result B MountStatus) →
    ((x : A) → r ≡ Ok x → IfOk (f x) P) → IfOk (r >>= f) P
of-mount P (Ok x) f holds = holds x refl
of-mount P (Err e) f holds = tt

directory-of : (living : Option Living) (d : Living) → directory_at living ≡ Ok d →
    (living ≡ Some d) × (is_directory d.content ≡ true)
directory-of None d is = cc
directory-of (Some o) d is = elim (is_directory o.content) as (λ b. is_directory o.content ≡ b →
    cond b (Ok o) (Err mount_status.NotDirectory) ≡ Ok d → (Some o ≡ Some d) × (is_directory d.content ≡ true)) [
      | true ↦ λ kind t.
          let same : o ≡ d = cc in
          subst (λ (x : Living). (Some o ≡ Some x) × (is_directory x.content ≡ true)) same (refl, kind)
      | false ↦ λ kind t. cc
    ] refl is

module _ (m : State) (w : WellFormed m) (export : ℕ) where
  -- a living directory of the export
  abbrev Reached : Named → Type 0
  Reached found = (get m.objects found.number ≡ Some found.object) × (is_directory found.object.content ≡ true) ×
      (found.object.export ≡ export)

  walk-reaches : (number : ℕ) (names : List (List ℕ)) → InExport m w export number →
      IfOk (walk (get m.objects) number names) Reached
  unfolding walk
  walk-reaches number [] (o, at, inside) =
      of-mount Reached (directory_at (get m.objects number)) _ (λ d is.
      let e = directory-of (get m.objects number) d is in
      let both : Some o ≡ Some d = sym at ∙ e.0 in
      let same : o ≡ d = cc in
      (e.0, e.1, ap (λ (x : Living). x.export) (sym same) ∙ inside))
  walk-reaches number (name ∷ names) (o, at, inside) =
      of-mount Reached (directory_at (get m.objects number)) _ (λ d is.
      of-mount Reached (ok_or (entry_of (entries_of d.content) name) mount_status.NoEntry) _ (λ x found.
      let e = directory-of (get m.objects number) d is in
      let both : Some o ≡ Some d = sym at ∙ e.0 in
      let same : o ≡ d = cc in
      let l = find-all (Leads m d) (λ (y : Entry). same_bytes y.name name) (entries_of d.content) x
      (w.names number d e.0).leads
      (there (entry_of (entries_of d.content) name) x found) in
      walk-reaches x.number names
      (l.object, l.lives, l.export ∙ ap (λ (y : Living). y.export) (sym same) ∙ inside)))
    where
      there : (e : Option Entry) (x : Entry) → ok_or e mount_status.NoEntry ≡ Ok x → e ≡ Some x
      there None x is = cc
      there (Some y) x is = (let same : y ≡ x = cc in ap (λ (z : Entry). Some z) same)

module _ (read : HandlesAreRead) (old : State) (ctx : Ctx) (w : WellFormed old) (fit : NumbersFit old)
    (start : ctx.start < 2 ^ 64) where
  target-known : (path : List ℕ) (found : Named) → Target old ctx path (Ok found) →
      IsKnown old ctx found.number found.object × (is_directory found.object.content ≡ true)
  target-known path found (fault, number, rest, chosen, is) =
      let e = chosen.matches.export in
      let root = export-all (HasRoot old) old.exports number e w.exports.rooted chosen.matches.stands in
      let own : e.number ≡ number = export-number old.exports number e chosen.matches.stands in
      let reached = subst (λ (r : Result Named MountStatus). IfOk r (Reached old w e.number)) (sym is)
      (walk-reaches old w e.number e.root rest (root.root, root.lives, root.own)) in (
        record {
          lives = reached.0;
          admitted = ap (λ k. export_admits (export_at old.exports k) ctx.host) (reached.2 ∙ own)
              ∙ ap (λ x. export_admits x ctx.host) chosen.matches.stands ∙ chosen.matches.admitted;
        },
        reached.1,
      )

  mounted-resolves : (x : MountBody) (number : ℕ) (o : Living) → IsKnown old ctx number o →
      resolve (with_mount old x) ctx (handle_at ctx number o) ≡ Names number o
  mounted-resolves x number o known =
      elim (is_mounted old.mounts x) as
      (λ b. resolve (cond b old (record old { mounts = newest (old.mounts ++ x ∷ []) }))
      ctx (handle_at ctx number o) ≡ Names number o) [
        | true ↦ names-known read old ctx w fit start number o known
        | false ↦ names-known read old ctx w fit start number o known
      ]

pub mnt_handles_resolve : HandlesAreRead → MntHandlesResolve
unfolding MountStep
mnt_handles_resolve read old ctx path handle messages new w fit start (result, told, none, answers) =
    let same : result ≡ Ok handle = cc in
    of (subst (λ r. MntAnswers old ctx path r new) same answers)
  where
    of : MntAnswers old ctx path (Ok handle) new → NamesDirectory new ctx handle
    of (found, target, is, after) =
        let known = target-known read old ctx w fit start path found target in
        record {
          number = found.number;
          object = found.object;
          is_named = ap (λ h. resolve new ctx h) is
              ∙ ap (λ m. resolve m ctx (handle_at ctx found.number found.object)) after
              ∙ mounted-resolves read old ctx w fit start (record { hostname = ctx.host; directory = path })
              found.number
              found.object known.0;
          directory = known.1;
        }

-- ---- all calls of NFS
-- where a call makes what is wanted, or answers what is there
module _ (read : HandlesAreRead) (old : State) (ctx : Ctx) (place : DirOp) (w : WellFormed old)
    (start : ctx.start < 2 ^ 64) where
  answered-known : (wanted : Result Wanted NfsStatus)
      (there : ℕ → Option Living → Result (Made × State) NfsStatus)
      → ((directory : Named) →
      export_admits (export_at old.exports directory.object.export) ctx.host ≡ true →
      (number : ℕ) (o : Living) → get old.objects number ≡ Some o → o.export ≡ directory.object.export →
      IfOk (there number (Some o)) (λ e. KnownMade old ctx e.1 e.0))
      → (end : Result (Made × State) NfsStatus) (new : State) →
      EndsAs old (make_plan old ctx place wanted there) end →
      new ≡ state_after old end → WellFormed new → NumbersFit new → IfOk (answer_of end) (MadeIsTold new ctx)
  answered-known wanted there found end new ends is formed fit =
      subst (λ m. IfOk (answer_of end) (MadeIsTold m ctx)) (sym is)
      (told-known read old ctx end
      (ends-known old ctx (make_plan old ctx place wanted there) end ends
      (make-known old ctx w place wanted there found)) (subst WellFormed is formed) (subst NumbersFit is fit) start)

  -- what is there is answered by no status but EXIST
  none-there : (directory : Named) →
      export_admits (export_at old.exports directory.object.export) ctx.host ≡ true →
      (number : ℕ) (o : Living) → get old.objects number ≡ Some o → o.export ≡ directory.object.export →
      IfOk {T = Made × State} (Err status.Exists) (λ e. KnownMade old ctx e.1 e.0)
  none-there directory admitted number o at same = tt

-- the handles of any call of NFS, where the state after it is well-formed
handles-resolve : HandlesAreRead → (old : State) (ctx : Ctx) (call : NfsCall) (reply : NfsReply)
    (messages : List Message) (new : State) → WellFormed old → NumbersFit old → ctx.start < 2 ^ 64 →
    WellFormed new →
    NumbersFit new → NfsStep old ctx call reply messages new → HandlesResolve new ctx reply
unfolding NfsStep
handles-resolve read old ctx calls.Null reply messages new w fit start formed fits step = subst
    (HandlesResolve new ctx) (sym step.reply_is) tt
handles-resolve read old ctx (calls.Getattr object) reply messages new w fit start formed fits step = subst
    (HandlesResolve new ctx) (sym step.reply_is) tt
handles-resolve read old ctx (calls.Setattr a) reply messages new w fit start formed fits step = subst
    (HandlesResolve new ctx) (sym step.reply_is) tt
handles-resolve read old ctx (calls.Access a) reply messages new w fit start formed fits step = subst
    (HandlesResolve new ctx) (sym step.reply_is) tt
handles-resolve read old ctx (calls.Readlink object) reply messages new w fit start formed fits step = subst
    (HandlesResolve new ctx) (sym step.reply_is) tt
handles-resolve read old ctx (calls.Read a) reply messages new w fit start formed fits step = subst
    (HandlesResolve new ctx) (sym step.reply_is) tt
handles-resolve read old ctx (calls.Write a) reply messages new w fit start formed fits step = subst
    (HandlesResolve new ctx) (sym step.reply_is) tt
handles-resolve read old ctx (calls.Remove place) reply messages new w fit start formed fits step = subst
    (HandlesResolve new ctx) (sym step.reply_is) tt
handles-resolve read old ctx (calls.Rmdir place) reply messages new w fit start formed fits step = subst
    (HandlesResolve new ctx) (sym step.reply_is) tt
handles-resolve read old ctx (calls.Rename a) reply messages new w fit start formed fits step = subst
    (HandlesResolve new ctx) (sym step.answers.reply_is) tt
handles-resolve read old ctx (calls.Link a) reply messages new w fit start formed fits step = subst
    (HandlesResolve new ctx) (sym step.reply_is) tt
handles-resolve read old ctx (calls.Readdir a) reply messages new w fit start formed fits step = subst
    (HandlesResolve new ctx) (sym step.answers.reply_is) tt
handles-resolve read old ctx (calls.Fsstat object) reply messages new w fit start formed fits step = subst
    (HandlesResolve new ctx) (sym step.reply_is) tt
handles-resolve read old ctx (calls.Fsinfo object) reply messages new w fit start formed fits step = subst
    (HandlesResolve new ctx) (sym step.reply_is) tt
handles-resolve read old ctx (calls.Pathconf object) reply messages new w fit start formed fits step = subst
    (HandlesResolve new ctx) (sym step.reply_is) tt
handles-resolve read old ctx (calls.Commit a) reply messages new w fit start formed fits step = subst
    (HandlesResolve new ctx) (sym step.reply_is) tt
handles-resolve read old ctx (calls.Lookup place) reply messages new w fit start formed fits step = subst
    (HandlesResolve new ctx) (sym step.2.reply_is)
    (subst (λ m. IfOk (lookup_found old ctx place step.0) (λ found. Resolves m ctx found.object found.attributes))
    (sym step.2.state_is) (lookup-resolves read old ctx w fit start place step.0 step.1))
handles-resolve read old ctx (calls.Create a) reply messages new w fit start formed fits step =
    let s = makes-as step in subst
    (HandlesResolve new ctx) (sym s.answers.reply_is)
    (answered-known read old ctx a.place w start (Ok (wanted_file a.how)) (create_existing old ctx a.how)
    (λ directory admitted number o at same. existing-known old ctx directory admitted a.how number o at same)
    s.end new s.ends s.answers.state_is formed fits)
handles-resolve read old ctx (calls.Mkdir a) reply messages new w fit start formed fits step =
    let s = makes-as step in subst
    (HandlesResolve new ctx) (sym s.answers.reply_is)
    (answered-known read old ctx a.place w start (Ok (wanted_of 493 (Directory [] 2) a.attributes))
    (λ number object. Err status.Exists) (none-there read old ctx a.place w start) s.end new s.ends
    s.answers.state_is formed fits)
handles-resolve read old ctx (calls.Symlink a) reply messages new w fit start formed fits step =
    let s = makes-as step in subst
    (HandlesResolve new ctx) (sym s.answers.reply_is)
    (answered-known read old ctx a.place w start (Ok (wanted_of 511 (Link a.text) a.attributes))
    (λ number object. Err status.Exists) (none-there read old ctx a.place w start) s.end new s.ends
    s.answers.state_is formed fits)
handles-resolve read old ctx (calls.Mknod a) reply messages new w fit start formed fits step =
    let s = makes-as step in subst
    (HandlesResolve new ctx) (sym s.answers.reply_is)
    (answered-known read old ctx a.place w start (wanted_special a.what)
    (λ number object. Err status.Exists) (none-there read old ctx a.place w start) s.end new s.ends
    s.answers.state_is formed fits)
handles-resolve read old ctx (calls.Readdirplus a) reply messages new w fit start formed fits step = subst
    (HandlesResolve new ctx) (sym step.answers.reply_is)
    (subst (λ m. IfOk (readdirplus_page old ctx step.page)
    (λ page. AllByRecursion (EntryIsTold m ctx) page.entries))
    (sym step.answers.state_is) (listed step.page step.is_page))
  where
    listed : (page : Result DirectoryPage NfsStatus) → PagesOf (fits_full a.directory_count a.most)
        (entries_left old ctx a.directory a.cookie a.verifier step.parent) page →
        IfOk (readdirplus_page old ctx page) (λ page. AllByRecursion (EntryIsTold old ctx) page.entries)
    listed (Ok p) is = listed-resolves read old ctx w fit start a.directory a.cookie
        (fits_full a.directory_count a.most) p
        (lists old ctx w a.directory a.cookie a.verifier step.parent step.is_parent
        (fits_full a.directory_count a.most) p is)
    listed (Err e) is = tt

pub nfs_handles_resolve : HandlesAreRead → NfsHandlesResolve
nfs_handles_resolve read old ctx call reply messages new w fit start step =
    handles-resolve read old ctx call reply messages new w fit start
    (steps_keep_form old ctx (any_call.Nfs call) (any_reply.Nfs reply) messages new step w)
    (steps_keep_numbers old ctx (any_call.Nfs call) (any_reply.Nfs reply) messages new step fit) step
