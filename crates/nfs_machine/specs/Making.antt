-- How a call makes a new object under a new name (RFC 1813, 3.3.8 to 3.3.11).
use Rattle.std.specs.Prelude.{not, length, ◌≡◌, ℕ, ◌+◌, ◌<◌, ◌^◌, ◌%◌, true, false, ◌&&◌}
use Rattle.std.specs.Prelude.{◌||◌, Bool, List, [], ◌∷◌, ◌++◌, Option, Some, None, unwrap_or, Result}
use Rattle.std.specs.Prelude.{Ok, nat_le, nat_lt, ◌==◌, ◌⊎◌}
use Rattle.std.specs.FinMap.{get}
use Rattle.std.specs.List.{list_any}
use Rattle.nfs_wire.specs.declared.attributes.SetAttributes.{SetAttributes}
use Rattle.nfs_wire.specs.declared.calls.DirOp.{DirOp}
use Rattle.nfs_wire.specs.declared.replies.Made.{Made}
use Rattle.nfs_wire.specs.declared.replies.MadeReply.{MadeReply}
use Rattle.nfs_wire.specs.declared.replies.NfsReply.{NfsReply}
use Rattle.nfs_wire.specs.declared.status.NfsStatus.{NfsStatus}
use Rattle.nfs_wire.specs.declared.status.NfsStatus.TheVariants as status
use Rattle.side_wire.specs.declared.message.Message.{Message}
use Rattle.nfs_machine.specs.Answers.{Ends}
use Rattle.nfs_machine.specs.Attributes.{attributes_of, links_of}
use Rattle.nfs_machine.specs.Checks.{◌>>=◌, holding, object_of, entries_in, plain_name_checked, changeable}
use Rattle.nfs_machine.specs.Checks.{permitted, entry_of, link_limit, text_limit}
use Rattle.nfs_machine.specs.Data.{size_limit}
use Rattle.nfs_machine.specs.Permission.{ToChange, is_member, mode_limit}
use Rattle.nfs_machine.specs.Resolve.{resolve}
use Rattle.nfs_machine.specs.Shown.{wcc, handle_at, with_content, with_object}
use Rattle.nfs_machine.specs.State.{Content, Directory, Link, BlockDevice, CharacterDevice, Entry, Living, State}
use Rattle.nfs_machine.specs.Times.{is_time, time_set, time_of}
use Rattle.nfs_machine.specs.declared.context.Ctx.{Ctx}

-- what the machine chooses for a new object, and what is spent from then on
pub record Choice : Type 0 where
  pub number : ℕ
  pub generation : ℕ
  pub spent : ℕ → ℕ → Bool

-- The number is that of no living object, and the generation was never given with it. From then on it is spent, beside
-- all that was.
pub record IsFresh (m : State) (choice : Choice) : Type 0 where
  pub number_fits : choice.number < 2 ^ 64
  pub generation_fits : choice.generation < 2 ^ 64
  pub free : get m.objects choice.number ≡ None
  pub never_given : m.spent choice.number choice.generation ≡ false
  pub given : choice.spent choice.number choice.generation ≡ true
  pub kept : (n g : ℕ) → m.spent n g ≡ true → choice.spent n g ≡ true

-- the attributes that a new object is given, judged (2.5: sattr3)
abbrev pub given_attributes : Ctx → SetAttributes → Result (Unit {0}) NfsStatus
given_attributes ctx a = do
  _ ← holding (is_time a.accessed && is_time a.modified) status.Invalid
  _ ← holding (nat_le (unwrap_or a.size 0) size_limit) status.FileTooBig
  -- uid 0 gives an object to anybody, others to themselves and their groups
  holding ((ctx.ids.uid == 0) ||
      ((unwrap_or a.uid ctx.ids.uid == ctx.ids.uid) && is_member ctx.ids (unwrap_or a.gid ctx.ids.gid)))
      status.Permission

-- what a new object is to be: its mode where none is given, its content, the attributes that are given, and the
-- verifier that it keeps
abbrev pub Wanted : Type 0
Wanted = record { mode : ℕ; content : Content; attributes : SetAttributes; verifier : Option (List ℕ) }

-- a new object: what is given, and else the caller's ids, the mode of its kind and the call's moment
abbrev pub new_object : Ctx → (export generation : ℕ) → Wanted → Living
new_object ctx export generation wanted = record {
  export = export;
  generation = generation;
  content = wanted.content;
  mode = unwrap_or wanted.attributes.mode wanted.mode % mode_limit;
  uid = unwrap_or wanted.attributes.uid ctx.ids.uid;
  gid = unwrap_or wanted.attributes.gid ctx.ids.gid;
  accessed = time_set (time_of ctx.moment) (time_of ctx.moment) wanted.attributes.accessed;
  modified = time_set (time_of ctx.moment) (time_of ctx.moment) wanted.attributes.modified;
  changed = time_of ctx.moment;
  verifier = wanted.verifier;
}

-- a directory with one more name; its cookie is one above the greatest that was ever used (3.3.16)
abbrev pub with_entry : List Entry → ℕ → List ℕ → ℕ → Content
with_entry entries last_cookie name number = Directory
    (entries ++ record { name = name; number = number; cookie = last_cookie + 1 } ∷ []) (last_cookie + 1)

-- what a call that makes an object answers: its handle and its attributes
abbrev pub made : State → Ctx → ℕ → Living → Made
made m ctx number o = record { object = Some (handle_at ctx number o); attributes = Some (attributes_of m number o) }

-- what is judged of an object of each kind: a directory brings one link to its parent, which has so many; the text of
-- a link is neither empty nor holds a NUL, and is within its bound; uid 0 alone makes devices (3.3.9 to 3.3.11)
abbrev pub kind_checked : Ctx → (links : ℕ) → Content → Result (Unit {0}) NfsStatus
kind_checked ctx links (Directory entries last_cookie) = holding (nat_lt links link_limit) status.TooManyLinks
kind_checked ctx links (Link text) = do
  _ ← holding (nat_le 1 (length text) && not (list_any (λ b. b == 0) text)) status.Invalid
  holding (nat_le (length text) text_limit) status.NameTooLong
kind_checked ctx links (BlockDevice device) = holding (ctx.ids.uid == 0) status.Permission
kind_checked ctx links (CharacterDevice device) = holding (ctx.ids.uid == 0) status.Permission
kind_checked ctx links content = Ok tt

-- what a call comes to that makes what is asked for under a name, with a number and a generation for it; where the name
-- is there, what the procedure makes of the object that it leads to
abbrev pub make_end : State → Ctx → Choice → DirOp → (asked : Result Wanted NfsStatus) →
    (there : ℕ → Option Living → Result (Made × State) NfsStatus) → Result (Made × State) NfsStatus
make_end old ctx choice place asked there = do
  directory ← object_of (resolve old ctx place.directory)
  entries ← entries_in directory.object.content
  _ ← plain_name_checked status.Exists status.Exists place.name
  wanted ← asked
  _ ← changeable old.exports directory.object
  _ ← permitted ctx directory.object ToChange
  elim (entry_of entries.list place.name) [
    | Some e ↦ there e.number (get old.objects e.number)
    | None ↦ do
      _ ← kind_checked ctx (links_of old directory.number directory.object.content) wanted.content
      _ ← given_attributes ctx wanted.attributes
      -- the directory has a cookie left for the name
      _ ← holding (nat_lt (entries.last_cookie + 1) (2 ^ 64)) status.NoSpace
      let o = new_object ctx directory.object.export choice.generation wanted
      let wider = with_content directory.object (time_of ctx.moment)
          (with_entry entries.list entries.last_cookie place.name choice.number)
      let new = record (with_object (with_object old directory.number wider) choice.number o) { spent = choice.spent }
      Ok (made new ctx choice.number o, new)
  ]

-- the step of such a call: its directory is shown before and after
pub record MakeStep (old : State) (ctx : Ctx) (place : DirOp) (asked : Result Wanted NfsStatus)
    (there : ℕ → Option Living → Result (Made × State) NfsStatus)
    (reply_of : MadeReply → NfsReply) (reply : NfsReply) (messages : List Message) (new : State) : Type 0 where
  pub choice : Choice
  -- it is fresh, unless nothing of it shows: where the call is refused, or the name was there
  pub fresh : IsFresh old choice ⊎ ((other : Choice) →
      make_end old ctx other place asked there ≡ make_end old ctx choice place asked there)
  pub answers : Ends old
      (λ after result. reply_of (record { directory = wcc after (resolve old ctx place.directory); result = result }))
      (make_end old ctx choice place asked there) reply messages new
