-- Answers are short: each part of a result has a bound.
use Rattle.std.proofs.Common.{◌≡◌, ℕ, ◌<◌, ◌≤◌, List, ◌++◌, length, length-append, Err, ap, arith}
use Rattle.std.specs.Int.{w32, to_be_bytes}
use Rattle.nfs_xdr.specs.Writing.{appended, with_word, with_hyper, with_padded, with_arm}
use Rattle.nfs_rpc.specs.Messages.{reply_of}
use Rattle.nfs_rpc.specs.declared.faults.ReplyHead.TheVariants.{Success}
use Rattle.side_wire.specs.Mount.{mount_result_bytes}
use Rattle.side_wire.specs.declared.mount.MountReply.TheVariants as mount
use Rattle.side_wire.specs.declared.mount.MountStatus.{MountStatus}
use Rattle.side_wire.specs.declared.mount.MountStatus.TheVariants as mount_status
use Rattle.nfs_machine.specs.declared.calls.Reply.{Reply}
use Rattle.nfs_machine.specs.declared.calls.Reply.TheVariants as replies
use Rattle.nfs_engine.specs.Forms.{HasForm}
use Rattle.nfs_machine.specs.RpcReplies.{results_of}

pub mount_refused_size : (s : MountStatus) → length (mount_result_bytes (mount.Mnt (Err s))) ≤ 1000
unfolding appended with_word with_hyper with_padded with_arm
mount_refused_size mount_status.Permission = omega arith
mount_refused_size _ = omega arith

pub results_size : (reply : Reply) → HasForm reply → length (results_of reply) ≤ 100000000
results_size (replies.Nfs reply) form = omega (arith, form.short)
results_size (replies.Mount reply) form = form.1
results_size (replies.Nlm reply) form = omega (arith, form.1)
results_size replies.Replaced form = omega arith

pub answer_size : (start header whole : List ℕ) (xid : ℕ) (reply : Reply) → HasForm reply → start ≡ to_be_bytes w32 0
    → header ≡ start ++ reply_of xid Success → whole ≡ header ++ results_of reply
    → length whole < 2147483652
answer_size start header whole xid reply form s h w =
    omega (
      arith,
      results_size reply form,
      ap length s,
      simp length-append at (ap length h),
      simp length-append at
          (ap length w),
    )
