-- The pages of a reading are visits of one directory, so the reading is whole.
use Rattle.std.proofs.Common.{◌≡◌, ◌==◌, ℕ, Bool, true, List, [], ◌∷◌, ◌++◌, map, Option, Some}
use Rattle.std.proofs.Common.{Result, Ok, Err, codes, false, refl, sym, ◌∙◌, ap, subst, arith}
use Rattle.std.proofs.lemmas.Bool.{ne_eqb}
use Rattle.std.proofs.lemmas.List.Elements.{Contains-append_right}
use Rattle.std.specs.Cmp.Lexicographic.{bytes_decides}
use Rattle.std.specs.FinMap.{get}
use Rattle.std.specs.List.{AllByRecursion, Contains, count_by}
use Rattle.nfs_wire.specs.declared.calls.NfsCall.{NfsCall}
use Rattle.nfs_wire.specs.declared.calls.NfsCall.TheVariants as nfs
use Rattle.nfs_wire.specs.declared.calls.ReaddirArguments.{ReaddirArguments}
use Rattle.nfs_wire.specs.declared.calls.ReaddirplusArguments.{ReaddirplusArguments}
use Rattle.nfs_wire.specs.declared.entries.FullEntry.{FullEntry}
use Rattle.nfs_wire.specs.declared.replies.NfsReply.{NfsReply}
use Rattle.nfs_wire.specs.declared.status.NfsStatus.{NfsStatus}
use Rattle.side_wire.specs.declared.message.Message.{Message}
use Rattle.nfs_machine.proofs.NameStaysLemmas.{EntryAt, IsOnly, all-map, count-same, entered, first-of, found-above}
use Rattle.nfs_machine.proofs.NameStaysLemmas.{found-in, found-name, kept-over, only, shown-all}
use Rattle.nfs_machine.proofs.PageByPageLemmas.{whole}
use Rattle.nfs_machine.proofs.ResolveLemmas.{resolved-lives, resolved-number}
use Rattle.nfs_machine.proofs.StepKeepsLemmas.{steps_keep_form}
use Rattle.nfs_machine.proofs.AnsweredVisitLemmas.{lists}
use Rattle.nfs_machine.specs.Attributes.{entries_of}
use Rattle.nfs_machine.specs.Bytes.{same_bytes}
use Rattle.nfs_machine.specs.Checks.{entry_of}
use Rattle.nfs_machine.specs.Handles.{handle_of}
use Rattle.nfs_machine.specs.NfsSteps.{NfsStep}
use Rattle.nfs_machine.specs.Pages.{DirectoryPage, all_entries, fits, fits_full}
use Rattle.nfs_machine.proofs.PageLemmas.{PagesOf, readdir_page, readdirplus_page}
use Rattle.nfs_machine.specs.PageSteps.{IsParentOf, entries_left, full_entry, page_entry}
use Rattle.nfs_machine.specs.Paging.{Rises, next_cookie}
use Rattle.nfs_machine.proofs.VisitLemmas.{InOrder, ListsPage, ReadsOn, IsAtEach, Visit, shown_by}
use Rattle.nfs_machine.specs.Readings.{AnswersPage, Between, Has, ReadsAll, ReadsPage, ReadingsAreWhole, StaysThrough}
use Rattle.nfs_machine.specs.Readings.{Throughout, Turn, all_shown, entry_shown, full_shown, lists_from, named_in}
use Rattle.nfs_machine.specs.Readings.{names_shown, nfs_lists_from, nfs_page_shown, page_shown, steps_of}
use Rattle.nfs_machine.specs.Chains.{Chain, Transition}
use Rattle.nfs_machine.specs.Step.{Step}
use Rattle.nfs_machine.specs.declared.calls.Call.{Call}
use Rattle.nfs_machine.specs.declared.calls.Call.TheVariants as calls
use Rattle.nfs_machine.specs.declared.calls.Reply.{Reply}
use Rattle.nfs_machine.specs.declared.calls.Reply.TheVariants as replies
use Rattle.nfs_machine.specs.State.{Entry, Living, State}
use Rattle.nfs_machine.specs.WellFormed.{NamesOnce, WellFormed}
use Rattle.nfs_machine.specs.declared.context.Ctx.{Ctx}
use Rattle.nfs_machine.specs.declared.handle.Handle.{Handle}

-- an entry is read off its page
names-back : (es : List Entry) → map entry_shown (map page_entry es) ≡ es
names-back [] = refl
names-back (e ∷ es) = ap (λ xs. e ∷ xs) (names-back es)

full-back : (m : State) (ctx : Ctx) (es : List Entry)
    → map (λ (full : FullEntry). entry_shown full.entry) (map (full_entry m ctx) es) ≡ es
full-back m ctx [] = refl
full-back m ctx (e ∷ es) = ap (λ xs. e ∷ xs) (full-back m ctx es)

parts : (a b : List ℕ) (c d : ℕ) → ◌≡◌ {A = Option (List ℕ × ℕ)} (Some (a, c)) (Some (b, d)) → (a ≡ b) × (c ≡ d)
parts a b c d e = let pair : ◌≡◌ {A = List ℕ × ℕ} (a, c) (b, d) = cc in
    (ap (λ (p : List ℕ × ℕ). p.0) pair, ap (λ (p : List ℕ × ℕ). p.1) pair)

-- a page that was shown
pub record Listed (m : State) (ctx : Ctx) (directory : List ℕ) (cookie : ℕ) (page : DirectoryPage) : Type 0 where
  pub fit : List Entry → Bool
  pub is : ListsPage m ctx directory cookie fit page

module _ (m : State) (ctx : Ctx) (w : WellFormed m) (shown : DirectoryPage) where
  of-names : (a : ReaddirArguments) (parent : ℕ) → IsParentOf m ctx a.directory parent
      → (page : Result DirectoryPage NfsStatus)
      → PagesOf (fits a.count) (entries_left m ctx a.directory a.cookie a.verifier parent) page
      → names_shown (readdir_page ctx page) ≡ Some shown → Listed m ctx a.directory a.cookie shown
  of-names a parent is_parent (Ok p) is shows =
      let back : Some p ≡ Some shown = ap (λ es. Some (record p { entries = es })) (sym (names-back p.entries))
      ∙ shows in
      let same : p ≡ shown = cc in
      subst (Listed m ctx a.directory a.cookie) same
      (record {
        fit = fits a.count;
        is = lists m ctx w a.directory a.cookie a.verifier parent is_parent
            (fits a.count) p is;
      })
  of-names a parent is_parent (Err e) is shows = cc

  of-full : (a : ReaddirplusArguments) (parent : ℕ) → IsParentOf m ctx a.directory parent
      → (page : Result DirectoryPage NfsStatus)
      → PagesOf (fits_full a.directory_count a.most) (entries_left m ctx a.directory a.cookie a.verifier parent) page
      → full_shown (readdirplus_page m ctx page) ≡ Some shown
      → Listed m ctx a.directory a.cookie shown
  of-full a parent is_parent (Ok p) is shows =
      let back : Some p ≡ Some shown = ap (λ es. Some (record p { entries = es })) (sym (full-back m ctx p.entries))
      ∙ shows in
      let same : p ≡ shown = cc in
      subst (Listed m ctx a.directory a.cookie) same
      (record {
        fit = fits_full a.directory_count a.most;
        is = lists m ctx w a.directory a.cookie a.verifier parent
            is_parent (fits_full a.directory_count a.most) p is;
      })
  of-full a parent is_parent (Err e) is shows = cc

  of-step : (call : NfsCall) (reply : NfsReply) (messages : List Message) (new : State) (directory : List ℕ)
      (cookie : ℕ) → NfsStep m ctx call reply messages new
      → nfs_lists_from call ≡ Some (directory, cookie) → nfs_page_shown reply ≡ Some shown →
      Listed m ctx directory cookie shown
  unfolding NfsStep
  of-step (nfs.Readdir a) reply messages new directory cookie step from shows =
      let shows' = ap nfs_page_shown (sym step.answers.reply_is) ∙ shows in
      let same = parts a.directory directory a.cookie cookie from in
      subst (λ x. Listed m ctx x cookie shown) same.0 (subst (λ x. Listed m ctx a.directory x shown) same.1
      (of-names a step.parent step.is_parent step.page step.is_page shows'))
  of-step (nfs.Readdirplus a) reply messages new directory cookie step from shows =
      let shows' = ap nfs_page_shown (sym step.answers.reply_is) ∙ shows in
      let same = parts a.directory directory a.cookie cookie from in
      subst (λ x. Listed m ctx x cookie shown) same.0 (subst (λ x. Listed m ctx a.directory x shown) same.1
      (of-full a step.parent step.is_parent step.page step.is_page shows'))
  of-step call reply messages new directory cookie step from shows = cc

-- what a step shows
step-lists : (old : State) (t : Transition) (mid : State) (directory : List ℕ) (cookie : ℕ) (page : List Entry)
    (eof : Bool)
    → Step old t.ctx t.call t.reply t.messages mid → AnswersPage t directory cookie page eof → WellFormed old
    → Listed old t.ctx directory cookie (record { entries = page; eof = eof })
step-lists old t mid directory cookie page eof step answers w = by t.call t.reply step answers.from answers.shows
  where
    by : (call : Call) (reply : Reply) → Step old t.ctx call reply t.messages mid →
        lists_from call ≡ Some (directory, cookie) → page_shown reply ≡ Some (record { entries = page; eof = eof }) →
        Listed old t.ctx directory cookie (record { entries = page; eof = eof })
    by (calls.Nfs call) (replies.Nfs reply) step from shows =
        of-step old t.ctx w (record { entries = page; eof = eof }) call reply t.messages mid directory cookie step
        from shows
    by (calls.Nfs call) (replies.Mount reply) step from shows = absurd step
    by (calls.Nfs call) (replies.Nlm reply) step from shows = absurd step
    by (calls.Mount call) reply step from shows = cc
    by (calls.Nlm call) reply step from shows = cc
    by (calls.Replace exports) reply step from shows = cc
    by (calls.Nfs call) replies.Replaced step from shows = absurd step

-- a name but "." and "..", and the entry that it has in the directory of a handle
pub record IsName (directory : List ℕ) (h : Handle) (name : List ℕ) (target : ℕ) (e : Entry) : Type 0 where
  pub handle : handle_of directory ≡ Some h
  pub no_self : same_bytes (codes ".") name ≡ false
  pub not_above : same_bytes (codes "..") name ≡ false
  pub leads : e.number ≡ target

-- the entry is there, and no other has the name
abbrev pub HasAlone : List ℕ → Entry → Visit → Type 0
HasAlone name e v = Contains v.entries e × AllByRecursion (IsOnly name e) v.entries

-- the visits of a reading
pub record Visits (directory : List ℕ) (cookie : ℕ) (old : State) (turns : List Turn) (new : State)
    (chain : Chain old (steps_of turns) new) : Type 0 where
  pub visits : List Visit
  pub order : InOrder visits
  pub on : ReadsOn cookie visits
  pub shown : shown_by visits ≡ all_shown turns
  pub stays : (e : Entry) → StaysThrough directory e old turns new chain → IsAtEach visits e
  pub named : (h : Handle) (name : List ℕ) (target : ℕ) (e : Entry) → IsName directory h name target e →
      EntryAt old h.fileid name e
      → Throughout (λ m. named_in m h.fileid name ≡ Some target) old (steps_of turns) new chain →
      AllByRecursion (HasAlone name e) visits

abbrev visit-of : (m : State) (ctx : Ctx) (directory : List ℕ) (cookie : ℕ) (page : DirectoryPage)
    → Listed m ctx directory cookie page → Visit
visit-of m ctx directory cookie page l = record {
  entries = all_entries l.is.number l.is.parent l.is.entries;
  fit = l.fit;
  page = page.entries;
  eof = page.eof;
}

has-it : (m : State) (ctx : Ctx) (directory : List ℕ) (cookie : ℕ) (page : DirectoryPage)
    (l : Listed m ctx directory cookie page) (e : Entry) → Has m ctx directory e
    → Contains (all_entries l.is.number l.is.parent l.is.entries) e
has-it m ctx directory cookie page l e has = has l.is.number l.is.object l.is.entries l.is.last l.is.parent
    l.is.is_named l.is.is_directory l.is.is_parent

alone : (m : State) (ctx : Ctx) (directory : List ℕ) (cookie : ℕ) (page : DirectoryPage)
    (l : Listed m ctx directory cookie page) (h : Handle) (name : List ℕ) (target : ℕ) (e : Entry) → WellFormed m
    → IsName directory h name target e → EntryAt m h.fileid name e
    → HasAlone name e (visit-of m ctx directory cookie page l)
alone m ctx directory cookie page l h name target e formed is at =
    let lives : get m.objects l.is.number ≡ Some l.is.object = resolved-lives m ctx directory l.is.number l.is.object
    l.is.is_named in
    let number : l.is.number ≡ h.fileid = resolved-number m ctx directory h l.is.number l.is.object is.handle
    l.is.is_named in
    let there : Some at.object ≡ Some l.is.object = sym at.lives ∙ ap (get m.objects) (sym number) ∙ lives in
    let same : at.object ≡ l.is.object = cc in
    let content : entries_of at.object.content ≡ l.is.entries = ap (λ (o : Living). entries_of o.content) same
    ∙ ap entries_of l.is.is_directory in
    let found : entry_of l.is.entries name ≡ Some e = ap (λ es. entry_of es name) (sym content) ∙ at.found in
    let once : NamesOnce l.is.entries = subst NamesOnce (ap entries_of l.is.is_directory)
    (formed.names l.is.number l.is.object lives).once in
    let rises : Rises 2 l.is.entries = l.is.in_order.1.1 in
    let above = found-above 2 l.is.entries name e rises found in (
      Contains-append_right (record { name = codes "."; number = l.is.number; cookie = 1 } ∷ record
          { name = codes ".."; number = l.is.parent; cookie = 2 } ∷ []) l.is.entries e
          (found-in l.is.entries name e found),
      (
        is.no_self ∙ sym (ne_eqb 1 e.cookie (λ one. omega (arith, above, one))),
        (
          is.not_above ∙ sym (ne_eqb 2 e.cookie (λ two. omega (arith, above, two))),
          only 2 l.is.entries name e rises
              once found,
        ),
      ),
    )

visits-of : (directory : List ℕ) (cookie : ℕ) (old : State) (turns : List Turn) (new : State) → WellFormed old →
    (chain : Chain old (steps_of turns) new) → ReadsAll directory cookie turns →
    Visits directory cookie old turns new chain
visits-of directory cookie old [] new formed chain reads = absurd reads
visits-of directory cookie old (Between t ∷ turns) new formed (mid, step, rest) reads =
    let then = steps_keep_form old t.ctx t.call t.reply t.messages mid step formed in
    let more = visits-of directory cookie mid turns new then rest reads in
    record {
      visits = more.visits;
      order = more.order;
      on = more.on;
      shown = more.shown;
      stays = more.stays;
      named = λ h name target e is at through. more.named h name target e is
          (kept-over h.fileid name target e is.leads old t mid step (steps_of turns) new rest through.1 at) through.1;
    }
visits-of directory cookie old (ReadsPage t page ∷ []) new formed (mid, step, rest) reads =
    let l = step-lists old t mid directory cookie page true step reads formed in
    record {
      visits = visit-of old t.ctx directory cookie (record { entries = page; eof = true }) l ∷ [];
      order = (l.is.in_order, tt);
      on = (l.is.visit, refl);
      shown = refl;
      stays = λ e has. (has-it old t.ctx directory cookie (record { entries = page; eof = true }) l e has.0, tt);
      named = λ h name target e is at through.
          (alone old t.ctx directory cookie (record { entries = page; eof = true }) l h name target e formed is at, tt);
    }
visits-of directory cookie old (ReadsPage t page ∷ turn ∷ turns) new formed (mid, step, rest) (answers, reads) =
    let then = steps_keep_form old t.ctx t.call t.reply t.messages mid step formed in
    let l = step-lists old t mid directory cookie page false step answers formed in
    let more = visits-of directory (next_cookie cookie page) mid (turn ∷ turns) new then rest reads in
    joined l more.visits more.order more.on more.shown more.stays more.named
  where
    joined : (l : Listed old t.ctx directory cookie (record { entries = page; eof = false })) → (visits : List Visit)
        → InOrder visits →
        ReadsOn (next_cookie cookie page) visits → shown_by visits ≡ all_shown (turn ∷ turns)
        → ((e : Entry) → StaysThrough directory e mid (turn ∷ turns) new rest → IsAtEach visits e)
        → ((h : Handle) (name : List ℕ) (target : ℕ) (e : Entry) → IsName directory h name target e →
        EntryAt mid h.fileid name e
        → Throughout (λ m. named_in m h.fileid name ≡ Some target) mid (steps_of (turn ∷ turns)) new rest →
        AllByRecursion (HasAlone name e) visits)
        → Visits directory cookie old (ReadsPage t page ∷ turn ∷ turns) new (mid, step, rest)
    joined l [] order on shown stays named = absurd on
    joined l (v ∷ visits) order on shown stays named = record {
      visits = visit-of old t.ctx directory cookie (record { entries = page; eof = false }) l ∷ v ∷ visits;
      order = (l.is.in_order, order);
      on = (l.is.visit, refl, on);
      shown = ap (λ es. page ++ es) shown;
      stays = λ e has. (
        has-it old t.ctx directory cookie (record { entries = page; eof = false }) l e has.0,
        stays e
            has.1,
      );
      named = λ h name target e is at through. (
        alone old t.ctx directory cookie (record { entries = page; eof = false }) l h name target e formed is at,
        named h name target e is
            (kept-over h.fileid name target e is.leads old t mid step (steps_of (turn ∷ turns)) new rest through.1 at)
            through.1,
      );
    }

pub readings-whole : ReadingsAreWhole
readings-whole directory old turns new formed chain reads =
    let v = visits-of directory 0 old turns new formed chain reads in
    let all = whole v.visits v.order v.on in
    record {
      rises = subst (Rises 0) v.shown all.rises;
      shows = λ e stays. subst (λ es. Contains es e) v.shown (all.shows e (v.stays e stays));
      once = λ e stays. subst (λ es. count_by (λ (x : Entry). x.cookie == e.cookie) es ≡ 1) v.shown
          (all.once e (v.stays e stays));
      names = λ h name target handle no_self not_above through.
          let e = entered old h.fileid name target
          (first-of h.fileid name target old (steps_of turns) new chain through) in
          let alone = v.named h name target e.entry
          (record { handle = handle; no_self = no_self; not_above = not_above; leads = e.leads }) e.at through in
          let stays : IsAtEach v.visits e.entry = all-map (HasAlone name e.entry)
          (λ (x : Visit). Contains x.entries e.entry) (λ x has. has.0) v.visits alone in
          let only = shown-all (IsOnly name e.entry) 0 v.visits v.on (all-map (HasAlone name e.entry)
          (λ (x : Visit). AllByRecursion (IsOnly name e.entry) x.entries) (λ x has. has.1) v.visits alone) in
          record {
            entry = e.entry;
            shows = subst (λ es. Contains es e.entry) v.shown (all.shows e.entry stays);
            named = (bytes_decides e.entry.name name).0
                (found-name (entries_of e.at.object.content) name e.entry e.at.found);
            leads = e.leads;
            once = subst (λ es. count_by (λ (x : Entry). same_bytes x.name name) es ≡ 1) v.shown
                (count-same (λ (x : Entry). same_bytes x.name name) (λ (x : Entry). x.cookie == e.entry.cookie)
                (shown_by v.visits) only ∙ all.once e.entry stays);
          };
    }
