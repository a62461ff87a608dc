-- A directory read page by page, among steps of any calls (RFC 1813, 3.3.16 and 3.3.17).
use Rattle.std.specs.Prelude.{◌≡◌, ℕ, Bool, true, false, List, [], ◌∷◌, ◌++◌, map, Option, Some}
use Rattle.std.specs.Prelude.{None, option_map, Result, Ok, Err, count_by, codes, ◌==◌}
use Rattle.std.specs.FinMap.{get}
use Rattle.std.specs.List.{Contains}
use Rattle.nfs_wire.specs.declared.calls.NfsCall.{NfsCall}
use Rattle.nfs_wire.specs.declared.calls.NfsCall.TheVariants as nfs
use Rattle.nfs_wire.specs.declared.entries.FullEntry.{FullEntry}
use Rattle.nfs_wire.specs.declared.entries.PageEntry.{PageEntry}
use Rattle.nfs_wire.specs.declared.replies.NfsReply.{NfsReply}
use Rattle.nfs_wire.specs.declared.replies.NfsReply.TheVariants as nfs_replies
use Rattle.nfs_wire.specs.declared.replies.Page.{Page}
use Rattle.nfs_wire.specs.declared.replies.PagePlus.{PagePlus}
use Rattle.nfs_wire.specs.declared.status.NfsStatus.{NfsStatus}
use Rattle.nfs_machine.specs.Attributes.{entries_of}
use Rattle.nfs_machine.specs.Bytes.{same_bytes}
use Rattle.nfs_machine.specs.Chains.{Chain, Transition}
use Rattle.nfs_machine.specs.Checks.{entry_of}
use Rattle.nfs_machine.specs.Handles.{handle_of}
use Rattle.nfs_machine.specs.Pages.{DirectoryPage, all_entries}
use Rattle.nfs_machine.specs.Paging.{Rises, next_cookie}
use Rattle.nfs_machine.specs.Resolve.{Names, resolve}
use Rattle.nfs_machine.specs.State.{Directory, Entry, Living, State}
use Rattle.nfs_machine.specs.WellFormed.{IsParent, WellFormed}
use Rattle.nfs_machine.specs.declared.calls.Call.{Call}
use Rattle.nfs_machine.specs.declared.calls.Call.TheVariants as calls
use Rattle.nfs_machine.specs.declared.calls.Reply.{Reply}
use Rattle.nfs_machine.specs.declared.calls.Reply.TheVariants as replies
use Rattle.nfs_machine.specs.declared.context.Ctx.{Ctx}
use Rattle.nfs_machine.specs.declared.handle.Handle.{Handle}

-- the directory that a call lists, by its handle, and the cookie that it goes on from
abbrev pub nfs_lists_from : NfsCall → Option (List ℕ × ℕ)
nfs_lists_from (nfs.Readdir a) = Some (a.directory, a.cookie)
nfs_lists_from (nfs.Readdirplus a) = Some (a.directory, a.cookie)
nfs_lists_from call = None

abbrev pub lists_from : Call → Option (List ℕ × ℕ)
lists_from (calls.Nfs call) = nfs_lists_from call
lists_from call = None

-- the entries that a reply shows, and its eof
abbrev pub entry_shown : PageEntry → Entry
entry_shown e = record { name = e.name; number = e.fileid; cookie = e.cookie }

abbrev pub names_shown : Result Page NfsStatus → Option DirectoryPage
names_shown (Ok page) = Some (record { entries = map entry_shown page.entries; eof = page.eof })
names_shown (Err e) = None

abbrev pub full_shown : Result PagePlus NfsStatus → Option DirectoryPage
full_shown (Ok page) = Some
    (record { entries = map (λ (full : FullEntry). entry_shown full.entry) page.entries; eof = page.eof })
full_shown (Err e) = None

abbrev pub nfs_page_shown : NfsReply → Option DirectoryPage
nfs_page_shown (nfs_replies.Readdir r) = names_shown r.result
nfs_page_shown (nfs_replies.Readdirplus r) = full_shown r.result
nfs_page_shown reply = None

abbrev pub page_shown : Reply → Option DirectoryPage
page_shown (replies.Nfs reply) = nfs_page_shown reply
page_shown reply = None

-- A step while a directory is read: one of the reading's pages, with the entries that it shows, or another. Other
-- readings may go on at the same time, of this directory too.
pub data Turn : Type 0 where
  ReadsPage : (step : Transition) (page : List Entry) → Turn
  Between : (step : Transition) → Turn

abbrev pub step_of : Turn → Transition
step_of (ReadsPage step page) = step
step_of (Between step) = step

abbrev pub steps_of : List Turn → List Transition
steps_of turns = map step_of turns

-- the call goes on from this cookie, and is answered by this page
pub record AnswersPage (step : Transition) (directory : List ℕ) (cookie : ℕ) (page : List Entry) (eof : Bool) :
    Type 0 where
  pub from : lists_from step.call ≡ Some (directory, cookie)
  pub shows : page_shown step.reply ≡ Some (record { entries = page; eof = eof })

-- the pages of one reading, each going on from the last cookie of the one before: the last step is the page that says
-- that the directory ends
abbrev pub ReadsAll : (directory : List ℕ) → (cookie : ℕ) → List Turn → Type 0
ReadsAll directory cookie [] = ⊥
ReadsAll directory cookie (Between step ∷ turns) = ReadsAll directory cookie turns
ReadsAll directory cookie (ReadsPage step page ∷ []) = AnswersPage step directory cookie page true
ReadsAll directory cookie (ReadsPage step page ∷ turn ∷ turns) = AnswersPage step directory cookie page false ×
    ReadsAll directory (next_cookie cookie page) (turn ∷ turns)

abbrev pub all_shown : List Turn → List Entry
all_shown [] = []
all_shown (Between step ∷ turns) = all_shown turns
all_shown (ReadsPage step page ∷ turns) = page ++ all_shown turns

-- the directory that a handle names has the entry, or it is "." or ".."
abbrev pub Has : State → Ctx → List ℕ → Entry → Type 0
Has m ctx directory e =
    (number : ℕ) (object : Living) (entries : List Entry) (last parent : ℕ) →
    resolve m ctx directory ≡ Names number object → object.content ≡ Directory entries last →
    IsParent m number parent
    → Contains (all_entries number parent entries) e

-- it has it at each page
abbrev pub StaysThrough : (directory : List ℕ) (e : Entry) (old : State) (turns : List Turn) (new : State) →
    Chain old (steps_of turns) new → Type 0
StaysThrough directory e old [] new chain = Unit {0}
StaysThrough directory e old (Between step ∷ turns) new (mid, first, rest) =
    StaysThrough directory e mid turns new rest
StaysThrough directory e old (ReadsPage step page ∷ turns) new (mid, first, rest) =
    Has old step.ctx directory e × StaysThrough directory e mid turns new rest

-- the object that a name of a directory leads to
abbrev pub named_in : State → (directory : ℕ) → (name : List ℕ) → Option ℕ
named_in m directory name = elim (get m.objects directory) [
  | None ↦ None
  | Some o ↦ option_map (λ (e : Entry). e.number) (entry_of (entries_of o.content) name)
]

-- in each state of a chain, the first and the last among them
abbrev pub Throughout : (State → Type 0) → (old : State) (steps : List Transition) (new : State) →
    Chain old steps new → Type 0
Throughout P old [] new chain = P old
Throughout P old (t ∷ steps) new (mid, first, rest) = P old × Throughout P mid steps new rest

-- the name is shown once, as that of this object
pub record ShowsName (shown : List Entry) (name : List ℕ) (target : ℕ) : Type 0 where
  pub entry : Entry
  pub shows : Contains shown entry
  pub named : entry.name ≡ name
  pub leads : entry.number ≡ target
  pub once : count_by (λ (x : Entry). same_bytes x.name name) shown ≡ 1

pub record ShowsWhole (directory : List ℕ) (old : State) (turns : List Turn) (new : State)
    (chain : Chain old (steps_of turns) new) : Type 0 where
  pub rises : Rises 0 (all_shown turns)
  pub shows : (e : Entry) → StaysThrough directory e old turns new chain → Contains (all_shown turns) e
  pub once : (e : Entry) → StaysThrough directory e old turns new chain →
      count_by (λ (x : Entry). x.cookie == e.cookie) (all_shown turns) ≡ 1
  -- a name that leads to one object all the time, whatever its cookies; "." and ".." are above
  pub names : (h : Handle) (name : List ℕ) (target : ℕ) → handle_of directory ≡ Some h →
      same_bytes (codes ".") name ≡ false → same_bytes (codes "..") name ≡ false
      → Throughout (λ m. named_in m h.fileid name ≡ Some target) old (steps_of turns) new chain →
      ShowsName (all_shown turns) name target

-- A directory that is read in pages from cookie 0 to its end, among any steps from a well-formed state on, shows no
-- cookie twice, and each entry and each name that stayed once.
abbrev pub ReadingsAreWhole : Type 0
ReadingsAreWhole = (directory : List ℕ) (old : State) (turns : List Turn) (new : State) → WellFormed old →
    (chain : Chain old (steps_of turns) new) → ReadsAll directory 0 turns → ShowsWhole directory old turns new chain
