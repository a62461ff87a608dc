-- How many bytes replies of MOUNT have (RFC 1813, appendix I, 5.2).
use Rattle.std.specs.Prelude.{ℕ, ◌+◌, ◌*◌, ◌≤◌, List, length, sum_by}
use Rattle.side_wire.specs.Mount.{mount_result_bytes}
use Rattle.side_wire.specs.declared.message.Message.{Message}
use Rattle.side_wire.specs.declared.mount.MountCall.{MountCall}
use Rattle.side_wire.specs.declared.mount.MountReply.{MountReply}
use Rattle.side_wire.specs.declared.mount.MountReply.TheVariants as replies
use Rattle.side_wire.specs.declared.mount.lists.ExportNode.{ExportNode}
use Rattle.nfs_machine.specs.MountSteps.{MountStep}
use Rattle.nfs_machine.specs.SideLaws.{ExportsFit, MountsFit}
use Rattle.nfs_machine.specs.State.{State}
use Rattle.nfs_machine.specs.declared.context.Ctx.{Ctx}

-- in a list, a host that mounted a path: a flag (4), a name of a host (260) and a path (1028)
abbrev pub mounted_bytes : ℕ
mounted_bytes = 1292

-- an export: a flag (4), a path (1028), each host with a flag (264), and the end of the hosts (4)
abbrev pub exported_bytes : ExportNode → ℕ
exported_bytes e = 1036 + 264 * length e.groups

-- the most that a result has: of MNT a status (4), a handle of 32 bytes with its length (36), and one flavor with their
-- count (8); of DUMP and EXPORT a list and its end (4). What the others answer has none
abbrev pub most_bytes : MountReply → ℕ
most_bytes (replies.Mnt result) = 48
most_bytes (replies.Dump mounts) = mounted_bytes * length mounts + 4
most_bytes (replies.Export exports) = sum_by exported_bytes exports + 4
most_bytes reply = 0

-- A reply of MOUNT has no more, where what is mounted and exported is within the bounds of the program.
abbrev pub MountRepliesAreBounded : Type 0
MountRepliesAreBounded = (old : State) (ctx : Ctx) (call : MountCall) (reply : MountReply) (messages : List Message)
    (new : State)
    → MountsFit old → ExportsFit old.exports → MountStep old ctx call reply messages new →
    length (mount_result_bytes reply) ≤ most_bytes reply
