-- The steps of GETATTR, SETATTR and ACCESS (RFC 1813, 3.3.1, 3.3.2 and 3.3.4).
use Rattle.std.specs.Prelude.{ℕ, ◌+◌, ◌/◌, ◌%◌, Bool, not, ◌&&◌, ◌||◌, List, Some, None}
use Rattle.std.specs.Prelude.{is_some, is_none, option_map, unwrap_or, Result, Ok, nat_le, if◌then◌else◌}
use Rattle.std.specs.Prelude.{◌==◌}
use Rattle.nfs_wire.specs.declared.calls.AccessArguments.{AccessArguments}
use Rattle.nfs_wire.specs.declared.calls.SetattrArguments.{SetattrArguments}
use Rattle.nfs_wire.specs.declared.replies.NfsReply.{NfsReply}
use Rattle.nfs_wire.specs.declared.replies.NfsReply.TheVariants as replies
use Rattle.nfs_wire.specs.declared.status.NfsStatus.{NfsStatus}
use Rattle.nfs_wire.specs.declared.status.NfsStatus.TheVariants as status
use Rattle.side_wire.specs.declared.message.Message.{Message}
use Rattle.nfs_machine.specs.Answers.{Answers, Ends, TellsOfObject}
use Rattle.nfs_machine.specs.Attributes.{attributes_of, is_directory}
use Rattle.nfs_machine.specs.Checks.{◌>>=◌, holding, object_of, bytes_in, changeable, is_writable}
use Rattle.nfs_machine.specs.Data.{size_limit, resized}
use Rattle.nfs_machine.specs.Exports.{LivingExport}
use Rattle.nfs_machine.specs.Permission.{ToWrite, ToSearch, ToList, ToChange, class_bits, is_member, may}
use Rattle.nfs_machine.specs.Permission.{mode_limit, reads, runs}
use Rattle.nfs_machine.specs.Resolve.{resolve}
use Rattle.nfs_machine.specs.Shown.{wcc, with_object}
use Rattle.nfs_machine.specs.State.{Regular, Living, State}
use Rattle.nfs_machine.specs.Times.{is_client_time, is_server_time, is_time, time_set, time_of, touch}
use Rattle.nfs_machine.specs.declared.context.Ctx.{Ctx}

-- GETATTR, 3.3.1
abbrev pub GetattrStep : State → Ctx → (object : List ℕ) → NfsReply → List Message → State → Type 0
GetattrStep old ctx object = Answers
    (replies.Getattr (object_of (resolve old ctx object) >>= λ o. Ok (attributes_of old o.number o.object))) old

-- SETATTR, 3.3.2: the object after it. The time of change is always new, the time of modification with it where a
-- size is given; an exclusive CREATE does not find the object again (3.3.8).
abbrev pub set_object : List LivingExport → Ctx → Living → SetattrArguments → Result Living NfsStatus
set_object exports ctx o a =
    let set = a.attributes in let guard = unwrap_or a.guard o.changed in
    let uid = unwrap_or set.uid o.uid in let gid = unwrap_or set.gid o.gid in
    let superuser = ctx.ids.uid == 0 in let owner = ctx.ids.uid == o.uid in do
      _ ← changeable exports o
      -- the object was not changed since the caller saw it changed (sattrguard3)
      _ ← holding ((guard.seconds == o.changed.seconds) && (guard.nanoseconds == o.changed.nanoseconds))
          status.NotSynchronized
      _ ← holding (is_time set.accessed && is_time set.modified) status.Invalid
      -- a size is set of regular files alone
      content ← elim set.size [
        | None ↦ Ok o.content
        | Some size ↦ bytes_in o.content >>= λ bytes. Ok (Regular (resized bytes size))
      ]
      _ ← holding (nat_le (unwrap_or set.size 0) size_limit) status.FileTooBig
      -- its owner and uid 0 alone set the mode, and times that the caller gives
      _ ← holding (superuser || owner || not
          (is_some set.mode || is_client_time set.accessed || is_client_time set.modified)) status.Permission
      -- uid 0 gives it to anybody; its owner may name itself
      _ ← holding (superuser || is_none set.uid || (owner && (uid == o.uid))) status.Permission
      -- uid 0 gives it to any group; its owner to one of its own groups, or leaves it to the one that it has
      _ ← holding (superuser || is_none set.gid || (owner && ((gid == o.gid) || is_member ctx.ids gid)))
          status.Permission
      -- who may write sets the size, and times that the server gives
      _ ← holding (not (is_some set.size || is_server_time set.accessed || is_server_time set.modified) || may ctx.ids
          o ToWrite) status.Access
      Ok (record o {
        content = content;
        mode = unwrap_or (option_map (λ mode. mode % mode_limit) set.mode) o.mode;
        uid = uid;
        gid = gid;
        accessed = time_set o.accessed (time_of ctx.moment) set.accessed;
        modified = time_set (if is_some set.size then touch o.changed (time_of ctx.moment) else o.modified)
            (time_of ctx.moment) set.modified;
        changed = touch o.changed (time_of ctx.moment);
        verifier = None;
      })

abbrev pub setattr_end : State → Ctx → SetattrArguments → Result (Unit {0} × State) NfsStatus
setattr_end old ctx a = do
  o ← object_of (resolve old ctx a.object)
  after ← set_object old.exports ctx o.object a
  Ok (tt, with_object old o.number after)

abbrev pub SetattrStep : State → Ctx → SetattrArguments → NfsReply → List Message → State → Type 0
SetattrStep old ctx a = Ends old
    (λ after result. replies.Setattr (record { wcc = wcc after (resolve old ctx a.object); result = result }))
    (setattr_end old ctx a)

-- ACCESS, 3.3.4: the rights that are asked and granted, READ 1, LOOKUP 2, MODIFY 4, EXTEND 8, DELETE 16 and EXECUTE
-- 32; where the export is read only, none to change anything. READ of what is no directory is always its owner's, and
-- uid 0 executes what any class may.
abbrev pub granted : List LivingExport → Ctx → Living → (asked : ℕ) → ℕ
granted exports ctx o asked =
    let bit : ℕ → Bool → ℕ = λ number holds. if (asked / number % 2 == 1) && holds then number else 0 in
    let changes = is_writable exports o && may ctx.ids o (if is_directory o.content then ToChange else ToWrite) in
    let executes = if ctx.ids.uid == 0 then runs (o.mode / 64) || runs (o.mode / 8) || runs o.mode else runs
    (class_bits ctx.ids o) in
    if is_directory o.content then bit 1 (may ctx.ids o ToList) + bit 2 (may ctx.ids o ToSearch) + bit 4 changes +
    bit 8 changes + bit 16 changes
    else bit 1 ((ctx.ids.uid == 0) || (ctx.ids.uid == o.uid) || reads (class_bits ctx.ids o)) + bit 4 changes +
    bit 8 changes + bit 32 executes

abbrev pub AccessStep : State → Ctx → AccessArguments → NfsReply → List Message → State → Type 0
AccessStep old ctx a = TellsOfObject old ctx a.object
    (λ attributes result. replies.Access (record { attributes = attributes; result = result }))
    (λ o. Ok (granted old.exports ctx o.object a.rights))
