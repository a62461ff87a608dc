-- The steps of REMOVE and RMDIR (RFC 1813, 3.3.12 and 3.3.13), and what becomes of an object that loses a name.
use Rattle.std.specs.Prelude.{ℕ, not, List, length, Result, Ok, ok_or, filter, nat_le, if◌then◌else◌}
use Rattle.std.specs.Prelude.{◌==◌, Option, None, Some, option_map}
use Rattle.std.specs.FinMap.{get, remove}
use Rattle.nfs_wire.specs.declared.attributes.Time.{Time}
use Rattle.nfs_wire.specs.declared.calls.DirOp.{DirOp}
use Rattle.nfs_wire.specs.declared.replies.NfsReply.{NfsReply}
use Rattle.nfs_wire.specs.declared.replies.NfsReply.TheVariants as replies
use Rattle.nfs_wire.specs.declared.replies.RemovedReply.{RemovedReply}
use Rattle.nfs_wire.specs.declared.status.NfsStatus.{NfsStatus}
use Rattle.nfs_wire.specs.declared.status.NfsStatus.TheVariants as status
use Rattle.side_wire.specs.declared.message.Message.{Message}
use Rattle.nfs_machine.specs.Answers.{Ends}
use Rattle.nfs_machine.specs.Attributes.{is_directory, names_of}
use Rattle.nfs_machine.specs.Bytes.{same_bytes}
use Rattle.nfs_machine.specs.Checks.{◌>>=◌, holding, object_of, entries_in, changeable, permitted, entry_of}
use Rattle.nfs_machine.specs.Checks.{plain_name_checked}
use Rattle.nfs_machine.specs.FileLists.{grants_but}
use Rattle.nfs_machine.specs.Permission.{ToChange}
use Rattle.nfs_machine.specs.Resolve.{Named, resolve}
use Rattle.nfs_machine.specs.Shown.{wcc, touched, with_content, with_object}
use Rattle.nfs_machine.specs.State.{Content, Directory, Entry, Living, PendingGrant, State}
use Rattle.nfs_machine.specs.Times.{time_of}
use Rattle.nfs_machine.specs.declared.context.Ctx.{Ctx}

-- what an entry leads to
abbrev pub object_under : State → Option Entry → Option Named
object_under m entry = elim entry [
  | None ↦ None
  | Some e ↦ option_map (λ o. record { number = e.number; object = o }) (get m.objects e.number)
]

-- the entries without a name
abbrev pub without : List Entry → List ℕ → List Entry
without entries name = filter (λ (e : Entry). not (same_bytes e.name name)) entries

-- the state without an object: its locks, shares, waiting requests and pending grants go with it
abbrev pub without_object : State → ℕ → State
without_object m number = record m {
  objects = remove m.objects number;
  locks = remove m.locks number;
  shares = remove m.shares number;
  waiting = remove m.waiting number;
  granted = grants_but (λ (g : PendingGrant). g.file == number) m.granted;
}

-- an object of so many names loses one: it goes with its last, and else its ctime changes
abbrev pub losing_name : State → (names : ℕ) → Time → ℕ → Living → State
losing_name m names now number o = if nat_le names 1 then without_object m number else with_object m number
    (touched o now)

-- what a call comes to that takes a name away, where the name and the object that it leads to are judged so
abbrev pub take_end : State → Ctx → DirOp → (judged_name : List ℕ → Result (Unit {0}) NfsStatus) →
    (judged_content : Content → Result (Unit {0}) NfsStatus) → Result (Unit {0} × State) NfsStatus
take_end old ctx place judged_name judged_content = do
  directory ← object_of (resolve old ctx place.directory)
  entries ← entries_in directory.object.content
  _ ← judged_name place.name
  _ ← changeable old.exports directory.object
  _ ← permitted ctx directory.object ToChange
  object ← ok_or (object_under old (entry_of entries.list place.name)) status.NoEntry
  _ ← judged_content object.object.content
  let left = with_object old directory.number
      (with_content directory.object (time_of ctx.moment)
      (Directory (without entries.list place.name) entries.last_cookie))
  Ok (tt, losing_name left (names_of old object.number) (time_of ctx.moment) object.number object.object)

-- its directory is shown before and after
abbrev pub taken_reply : State → Ctx → DirOp → (reply_of : RemovedReply → NfsReply) → (after : State) →
    Result (Unit {0}) NfsStatus → NfsReply
taken_reply old ctx place reply_of after result =
    reply_of (record { directory = wcc after (resolve old ctx place.directory); result = result })

-- REMOVE, 3.3.12: of any object but a directory; "." and ".." can't be taken away
abbrev pub not_directory : Content → Result (Unit {0}) NfsStatus
not_directory content = holding (not (is_directory content)) status.IsDirectory

abbrev pub remove_end : State → Ctx → DirOp → Result (Unit {0} × State) NfsStatus
remove_end old ctx place = take_end old ctx place (plain_name_checked status.Invalid status.Invalid) not_directory

abbrev pub RemoveStep : State → Ctx → DirOp → NfsReply → List Message → State → Type 0
RemoveStep old ctx place = Ends old (taken_reply old ctx place replies.Remove) (remove_end old ctx place)

-- RMDIR, 3.3.13: of a directory with no entry; "." can't be taken away, and ".." is there always
abbrev pub empty_directory : Content → Result (Unit {0}) NfsStatus
empty_directory content = entries_in content >>= λ entries. holding (length entries.list == 0) status.NotEmpty

abbrev pub rmdir_end : State → Ctx → DirOp → Result (Unit {0} × State) NfsStatus
rmdir_end old ctx place = take_end old ctx place (plain_name_checked status.Invalid status.Exists) empty_directory

abbrev pub RmdirStep : State → Ctx → DirOp → NfsReply → List Message → State → Type 0
RmdirStep old ctx place = Ends old (taken_reply old ctx place replies.Rmdir) (rmdir_end old ctx place)
