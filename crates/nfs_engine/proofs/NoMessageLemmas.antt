-- Calls of NFS and of MOUNT put no message, and what replaces the exports puts none.
use Rattle.std.proofs.Common.{◌≡◌, List, []}
use Rattle.side_wire.specs.declared.message.Message.{Message}
use Rattle.side_wire.specs.declared.mount.MountCall.{MountCall}
use Rattle.side_wire.specs.declared.mount.MountCall.TheVariants as mount
use Rattle.side_wire.specs.declared.mount.MountReply.{MountReply}
use Rattle.nfs_wire.specs.declared.calls.NfsCall.{NfsCall}
use Rattle.nfs_wire.specs.declared.calls.NfsCall.TheVariants as nfs
use Rattle.nfs_wire.specs.declared.replies.NfsReply.{NfsReply}
use Rattle.nfs_machine.specs.Exports.{ExportValue}
use Rattle.nfs_machine.specs.MountSteps.{MountStep}
use Rattle.nfs_machine.specs.NfsSteps.{NfsStep}
use Rattle.nfs_machine.specs.Replacing.{ReplaceStep}
use Rattle.nfs_machine.specs.State.{State}
use Rattle.nfs_machine.specs.declared.context.Ctx.{Ctx}

pub nfs-quiet : (old : State) (ctx : Ctx) (call : NfsCall) (reply : NfsReply) (messages : List Message) (new : State) →
    NfsStep old ctx call reply messages new → messages ≡ []
unfolding NfsStep
nfs-quiet old ctx nfs.Null reply messages new step = step.no_message
nfs-quiet old ctx (nfs.Getattr a) reply messages new step = step.no_message
nfs-quiet old ctx (nfs.Setattr a) reply messages new step = step.no_message
nfs-quiet old ctx (nfs.Lookup a) reply messages new step = step.2.no_message
nfs-quiet old ctx (nfs.Access a) reply messages new step = step.no_message
nfs-quiet old ctx (nfs.Readlink a) reply messages new step = step.no_message
nfs-quiet old ctx (nfs.Read a) reply messages new step = step.no_message
nfs-quiet old ctx (nfs.Write a) reply messages new step = step.no_message
nfs-quiet old ctx (nfs.Create a) reply messages new step = step.answers.no_message
nfs-quiet old ctx (nfs.Mkdir a) reply messages new step = step.answers.no_message
nfs-quiet old ctx (nfs.Symlink a) reply messages new step = step.answers.no_message
nfs-quiet old ctx (nfs.Mknod a) reply messages new step = step.answers.no_message
nfs-quiet old ctx (nfs.Remove a) reply messages new step = step.no_message
nfs-quiet old ctx (nfs.Rmdir a) reply messages new step = step.no_message
nfs-quiet old ctx (nfs.Rename a) reply messages new step = step.answers.no_message
nfs-quiet old ctx (nfs.Link a) reply messages new step = step.no_message
nfs-quiet old ctx (nfs.Readdir a) reply messages new step = step.answers.no_message
nfs-quiet old ctx (nfs.Readdirplus a) reply messages new step = step.answers.no_message
nfs-quiet old ctx (nfs.Fsstat a) reply messages new step = step.no_message
nfs-quiet old ctx (nfs.Fsinfo a) reply messages new step = step.no_message
nfs-quiet old ctx (nfs.Pathconf a) reply messages new step = step.no_message
nfs-quiet old ctx (nfs.Commit a) reply messages new step = step.no_message

pub mount-quiet : (old : State) (ctx : Ctx) (call : MountCall) (reply : MountReply) (messages : List Message)
    (new : State) → MountStep old ctx call reply messages new → messages ≡ []
unfolding MountStep
mount-quiet old ctx mount.Null reply messages new step = step.no_message
mount-quiet old ctx (mount.Mnt path) reply messages new step = step.2
mount-quiet old ctx mount.Dump reply messages new step = step.no_message
mount-quiet old ctx (mount.Unmount path) reply messages new step = step.no_message
mount-quiet old ctx mount.UnmountAll reply messages new step = step.no_message
mount-quiet old ctx mount.Export reply messages new step = step.no_message

pub replace-quiet : (old : State) (ctx : Ctx) (exports : List ExportValue) (messages : List Message) (new : State) →
    ReplaceStep old ctx exports messages new → messages ≡ []
unfolding ReplaceStep
replace-quiet old ctx exports messages new (faultless, none, step) = none
