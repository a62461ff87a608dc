-- The step of LINK (RFC 1813, 3.3.15): one name more for an object that is no directory.
use Rattle.std.specs.Prelude.{List, ◌+◌, ◌^◌, not, Result, Ok, nat_lt, ◌==◌, is_none}
use Rattle.nfs_wire.specs.declared.calls.LinkArguments.{LinkArguments}
use Rattle.nfs_wire.specs.declared.replies.NfsReply.{NfsReply}
use Rattle.nfs_wire.specs.declared.replies.NfsReply.TheVariants as replies
use Rattle.nfs_wire.specs.declared.status.NfsStatus.{NfsStatus}
use Rattle.nfs_wire.specs.declared.status.NfsStatus.TheVariants as status
use Rattle.side_wire.specs.declared.message.Message.{Message}
use Rattle.nfs_machine.specs.Answers.{Ends}
use Rattle.nfs_machine.specs.Attributes.{is_directory, links_of}
use Rattle.nfs_machine.specs.Checks.{◌>>=◌, holding, object_of, entries_in, plain_name_checked, changeable}
use Rattle.nfs_machine.specs.Checks.{permitted, link_limit, entry_of}
use Rattle.nfs_machine.specs.Making.{with_entry}
use Rattle.nfs_machine.specs.Permission.{ToChange}
use Rattle.nfs_machine.specs.Resolve.{resolve}
use Rattle.nfs_machine.specs.Shown.{after_first, shown, touched, wcc, with_content, with_object}
use Rattle.nfs_machine.specs.State.{State}
use Rattle.nfs_machine.specs.Times.{time_of}
use Rattle.nfs_machine.specs.declared.context.Ctx.{Ctx}

-- LINK, 3.3.15: both handles are of one export; the file's ctime changes with the directory
abbrev pub link_end : State → Ctx → LinkArguments → Result (Unit {0} × State) NfsStatus
link_end old ctx a = do
  file ← object_of (resolve old ctx a.file)
  directory ← object_of (resolve old ctx a.place.directory)
  _ ← holding (file.object.export == directory.object.export) status.CrossDevice
  _ ← holding (not (is_directory file.object.content)) status.Invalid
  entries ← entries_in directory.object.content
  _ ← plain_name_checked status.Invalid status.Invalid a.place.name
  _ ← changeable old.exports directory.object
  _ ← permitted ctx directory.object ToChange
  _ ← holding (is_none (entry_of entries.list a.place.name)) status.Exists
  _ ← holding (nat_lt (links_of old file.number file.object.content) link_limit) status.TooManyLinks
  _ ← holding (nat_lt (entries.last_cookie + 1) (2 ^ 64)) status.NoSpace
  let now = time_of ctx.moment
  let wider = with_content directory.object now
      (with_entry entries.list entries.last_cookie a.place.name file.number)
  Ok (tt, with_object (with_object old directory.number wider) file.number (touched file.object now))

-- the attributes of the file and its new directory are shown
abbrev pub LinkStep : State → Ctx → LinkArguments → NfsReply → List Message → State → Type 0
LinkStep old ctx a = Ends old
    (λ after result. replies.Link
    (record {
      attributes = shown after (resolve old ctx a.file);
      directory = wcc after (after_first (resolve old ctx a.file) (resolve old ctx a.place.directory));
      result = result;
    }))
    (link_end old ctx a)
