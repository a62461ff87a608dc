-- Which statuses no call is answered with (RFC 1813, 2.6 and 5.1.5). Those that tell of want of memory are among them,
-- so a refusal for want of memory is no step.
use Rattle.std.specs.Prelude.{◌≡◌, Bool, true, false, List, Option, Some, None, Result, Ok, Err, IfSome}
use Rattle.nfs_wire.specs.declared.calls.NfsCall.{NfsCall}
use Rattle.nfs_wire.specs.declared.replies.NfsReply.{NfsReply}
use Rattle.nfs_wire.specs.declared.replies.NfsReply.TheVariants as replies
use Rattle.nfs_wire.specs.declared.status.NfsStatus.{NfsStatus}
use Rattle.nfs_wire.specs.declared.status.NfsStatus.TheVariants as status
use Rattle.side_wire.specs.declared.message.Message.{Message}
use Rattle.side_wire.specs.declared.mount.MountCall.{MountCall}
use Rattle.side_wire.specs.declared.mount.MountReply.{MountReply}
use Rattle.side_wire.specs.declared.mount.MountReply.TheVariants as mount_replies
use Rattle.side_wire.specs.declared.mount.MountStatus.{MountStatus}
use Rattle.side_wire.specs.declared.mount.MountStatus.TheVariants as mount_status
use Rattle.nfs_machine.specs.MountSteps.{MountStep}
use Rattle.nfs_machine.specs.NfsSteps.{NfsStep}
use Rattle.nfs_machine.specs.State.{State}
use Rattle.nfs_machine.specs.declared.context.Ctx.{Ctx}

-- NFS3ERR_JUKEBOX and NFS3ERR_SERVERFAULT, which tell of want of memory or of a failure; NFS3ERR_IO, NFS3ERR_NXIO and
-- NFS3ERR_NODEV, of devices; NFS3ERR_DQUOT and NFS3ERR_REMOTE, since there are no quotas and no files of other servers;
-- and NFS3ERR_NOTSUPP, since each procedure is supported
abbrev pub is_never_answered : NfsStatus → Bool
is_never_answered s = elim s [
  | status.Jukebox ↦ true
  | status.ServerFault ↦ true
  | status.Io ↦ true
  | status.NoDevice ↦ true
  | status.UnsupportedDevice ↦ true
  | status.Quota ↦ true
  | status.Remote ↦ true
  | status.NotSupported ↦ true
  | _ ↦ false
]

-- the status of a result that is refused
abbrev pub failure_of : {A E : Type 0} → Result A E → Option E
failure_of result = elim result [ Ok x ↦ None | Err e ↦ Some e ]

-- the status of a reply other than NFS3_OK
abbrev pub failure_in : NfsReply → Option NfsStatus
failure_in replies.Null = None
failure_in (replies.Getattr result) = failure_of result
failure_in (replies.Setattr r) = failure_of r.result
failure_in (replies.Lookup r) = failure_of r.result
failure_in (replies.Access r) = failure_of r.result
failure_in (replies.Readlink r) = failure_of r.result
failure_in (replies.Read r) = failure_of r.result
failure_in (replies.Write r) = failure_of r.result
failure_in (replies.Create r) = failure_of r.result
failure_in (replies.Mkdir r) = failure_of r.result
failure_in (replies.Symlink r) = failure_of r.result
failure_in (replies.Mknod r) = failure_of r.result
failure_in (replies.Remove r) = failure_of r.result
failure_in (replies.Rmdir r) = failure_of r.result
failure_in (replies.Rename r) = failure_of r.result
failure_in (replies.Link r) = failure_of r.result
failure_in (replies.Readdir r) = failure_of r.result
failure_in (replies.Readdirplus r) = failure_of r.result
failure_in (replies.Fsstat r) = failure_of r.result
failure_in (replies.Fsinfo r) = failure_of r.result
failure_in (replies.Pathconf r) = failure_of r.result
failure_in (replies.Commit r) = failure_of r.result

-- no call of NFS is answered with one of these, in any state
abbrev pub NfsNeverAnswers : Type 0
NfsNeverAnswers = (old : State) (ctx : Ctx) (call : NfsCall) (reply : NfsReply) (messages : List Message) (new : State)
    → NfsStep old ctx call reply messages new → IfSome (failure_in reply) (λ s. is_never_answered s ≡ false)

-- MNT3ERR_SERVERFAULT, which tells of want of memory; MNT3ERR_PERM, MNT3ERR_IO and MNT3ERR_NOTSUPP
abbrev pub mount_never_answers : MountStatus → Bool
mount_never_answers s = elim s [
  | mount_status.ServerFault ↦ true
  | mount_status.Permission ↦ true
  | mount_status.Io ↦ true
  | mount_status.NotSupported ↦ true
  | _ ↦ false
]

-- the status of a reply of MOUNT other than MNT3_OK; MNT alone answers one
abbrev pub mount_failure_in : MountReply → Option MountStatus
mount_failure_in (mount_replies.Mnt result) = failure_of result
mount_failure_in reply = None

-- no call of MOUNT is answered with one of these, in any state
abbrev pub MountNeverAnswers : Type 0
MountNeverAnswers = (old : State) (ctx : Ctx) (call : MountCall) (reply : MountReply) (messages : List Message)
    (new : State)
    → MountStep old ctx call reply messages new →
    IfSome (mount_failure_in reply) (λ s. mount_never_answers s ≡ false)
