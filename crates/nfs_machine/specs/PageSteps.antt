-- The step of the procedures that list directories, READDIR and READDIRPLUS (RFC 1813, 3.3.16 and 3.3.17).
use Rattle.std.specs.Prelude.{◌≡◌, ℕ, Bool, true, ◌||◌, List, Option, Result, Ok, Err, option_map, map}
use Rattle.std.specs.Prelude.{◌==◌}
use Rattle.std.specs.FinMap.{get}
use Rattle.nfs_wire.specs.declared.attributes.Attributes.{Attributes}
use Rattle.nfs_wire.specs.declared.calls.ReaddirArguments.{ReaddirArguments}
use Rattle.nfs_wire.specs.declared.calls.ReaddirplusArguments.{ReaddirplusArguments}
use Rattle.nfs_wire.specs.declared.calls.Verifier.{Verifier}
use Rattle.nfs_wire.specs.declared.entries.FullEntry.{FullEntry}
use Rattle.nfs_wire.specs.declared.entries.PageEntry.{PageEntry}
use Rattle.nfs_wire.specs.declared.replies.NfsReply.{NfsReply}
use Rattle.nfs_wire.specs.declared.replies.NfsReply.TheVariants as replies
use Rattle.nfs_wire.specs.declared.status.NfsStatus.{NfsStatus}
use Rattle.nfs_wire.specs.declared.status.NfsStatus.TheVariants as status
use Rattle.side_wire.specs.declared.message.Message.{Message}
use Rattle.nfs_machine.specs.Answers.{Answers}
use Rattle.nfs_machine.specs.Attributes.{is_directory}
use Rattle.nfs_machine.specs.Bytes.{same_bytes}
use Rattle.nfs_machine.specs.Checks.{◌>>=◌, holding, object_of, entries_in, permitted}
use Rattle.nfs_machine.specs.DataSteps.{verifier_of}
use Rattle.nfs_machine.specs.Pages.{DirectoryPage, Pages, all_entries, behind, fits, fits_full}
use Rattle.nfs_machine.specs.Permission.{ToList}
use Rattle.nfs_machine.specs.Resolve.{Names, resolve}
use Rattle.nfs_machine.specs.Shown.{attributes_at, handle_at, shown}
use Rattle.nfs_machine.specs.State.{Entry, Living, State}
use Rattle.nfs_machine.specs.WellFormed.{IsParent}
use Rattle.nfs_machine.specs.declared.context.Ctx.{Ctx}

-- the entries that are left of a directory with this parent
abbrev pub entries_left : State → Ctx → (directory : List ℕ) → (cookie : ℕ) → Verifier →
    (parent : ℕ) → Result (List Entry) NfsStatus
entries_left m ctx directory cookie verifier parent = do
  d ← object_of (resolve m ctx directory)
  entries ← entries_in d.object.content
  _ ← permitted ctx d.object ToList
  -- the cookies of this server are good while it runs: each but 0 with the verifier that it gives
  _ ← holding ((cookie == 0) || same_bytes verifier.bytes (verifier_of ctx).bytes) status.BadCookie
  Ok (behind cookie (all_entries d.number parent entries.list))

-- where the handle names a directory, it is named in this one
abbrev pub IsParentOf : State → Ctx → (directory : List ℕ) → (parent : ℕ) → Type 0
IsParentOf m ctx directory parent = (number : ℕ) (d : Living) → resolve m ctx directory ≡ Names number d →
    is_directory d.content ≡ true → IsParent m number parent

-- a call that is answered by a page of a directory: the entries behind a cookie, as many as fit
pub record PageStep (old : State) (ctx : Ctx) (directory : List ℕ) (cookie : ℕ) (verifier : Verifier)
    (fit : List Entry → Bool)
    (reply_of : Option Attributes → Result DirectoryPage NfsStatus → NfsReply) (reply : NfsReply)
    (messages : List Message) (new : State) : Type 0 where
  pub parent : ℕ
  pub is_parent : IsParentOf old ctx directory parent
  pub page : Result DirectoryPage NfsStatus
  -- of the entries that are left
  pub is_page : elim (entries_left old ctx directory cookie verifier parent) as (λ left. Type 0) [
    | Ok entries ↦ Pages fit entries page
    | Err e ↦ page ≡ Err e
  ]
  pub answers : Answers (reply_of (shown old (resolve old ctx directory)) page) old reply messages new

-- an entry as READDIR lists it, 3.3.16
abbrev pub page_entry : Entry → PageEntry
page_entry e = record { fileid = e.number; name = e.name; cookie = e.cookie }

-- an entry as READDIRPLUS lists it, 3.3.17: with attributes and handle of what each name leads to
abbrev pub full_entry : State → Ctx → Entry → FullEntry
full_entry m ctx e = record {
  entry = page_entry e;
  attributes = attributes_at m e.number;
  object = option_map (handle_at ctx e.number) (get m.objects e.number);
}

abbrev pub ReaddirStep : State → Ctx → ReaddirArguments → NfsReply → List Message → State → Type 0
ReaddirStep old ctx a = PageStep old ctx a.directory a.cookie a.verifier (fits a.count) (λ attributes page.
    replies.Readdir (record {
      attributes = attributes;
      result = page >>= λ p. Ok
          (record { verifier = verifier_of ctx; entries = map page_entry p.entries; eof = p.eof });
    }))

abbrev pub ReaddirplusStep : State → Ctx → ReaddirplusArguments → NfsReply → List Message → State → Type 0
ReaddirplusStep old ctx a = PageStep old ctx a.directory a.cookie a.verifier
    (fits_full a.directory_count a.most) (λ attributes page.
    replies.Readdirplus (record {
      attributes = attributes;
      result = page >>= λ p. Ok
          (record { verifier = verifier_of ctx; entries = map (full_entry old ctx) p.entries; eof = p.eof });
    }))
