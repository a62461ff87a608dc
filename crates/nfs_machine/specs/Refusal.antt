-- What a call is answered that cannot be executed for want of memory; it changes nothing (RFC 1813, 2.6:
-- NFS3ERR_JUKEBOX; 5.1.5: MNT3ERR_SERVERFAULT; 6.1.4: NLM4_DENIED_NOLOCKS; RFC 5531, 9: SYSTEM_ERR).
use Rattle.std.specs.Prelude.{ℕ, List, Err, Option, Some, None}
use Rattle.nfs_wire.specs.declared.attributes.Wcc.{Wcc}
use Rattle.nfs_wire.specs.declared.calls.NfsCall.{NfsCall}
use Rattle.nfs_wire.specs.declared.calls.NfsCall.TheVariants as nfs
use Rattle.nfs_wire.specs.declared.replies.NfsReply.{NfsReply}
use Rattle.nfs_wire.specs.declared.replies.NfsReply.TheVariants as nfs_replies
use Rattle.nfs_wire.specs.declared.status.NfsStatus.TheVariants as nfs_status
use Rattle.side_wire.specs.declared.mount.MountCall.TheVariants as mount
use Rattle.side_wire.specs.declared.mount.MountReply.TheVariants as mount_replies
use Rattle.side_wire.specs.declared.mount.MountStatus.TheVariants as mount_status
use Rattle.side_wire.specs.declared.nlm.NlmCall.{NlmCall}
use Rattle.side_wire.specs.declared.nlm.NlmCall.TheVariants as nlm
use Rattle.side_wire.specs.declared.nlm.NlmReply.{NlmReply}
use Rattle.side_wire.specs.declared.nlm.NlmReply.TheVariants as nlm_replies
use Rattle.side_wire.specs.declared.nlm.NlmResult.{NlmResult}
use Rattle.side_wire.specs.declared.nlm.NlmStatus.TheVariants as nlm_status
use Rattle.side_wire.specs.declared.nlm.TestStatus.TheVariants as test_status
use Rattle.nfs_machine.specs.declared.calls.Call.{Call}
use Rattle.nfs_machine.specs.declared.calls.Call.TheVariants as calls
use Rattle.nfs_machine.specs.declared.calls.Refusal.{Refusal}
use Rattle.nfs_machine.specs.declared.calls.Refusal.TheVariants as refusals
use Rattle.nfs_machine.specs.declared.calls.Reply.TheVariants as replies

-- nothing is shown of an object
abbrev pub no_wcc : Wcc
no_wcc = record { before = None; after = None }

abbrev pub nfs_refusal : NfsCall → Option NfsReply
nfs_refusal nfs.Null = None
nfs_refusal (nfs.Getattr object) = Some (nfs_replies.Getattr (Err nfs_status.Jukebox))
nfs_refusal (nfs.Setattr a) = Some (nfs_replies.Setattr (record { wcc = no_wcc; result = Err nfs_status.Jukebox }))
nfs_refusal (nfs.Lookup place) = Some
    (nfs_replies.Lookup (record { directory = None; result = Err nfs_status.Jukebox }))
nfs_refusal (nfs.Access a) = Some (nfs_replies.Access (record { attributes = None; result = Err nfs_status.Jukebox }))
nfs_refusal (nfs.Readlink object) = Some
    (nfs_replies.Readlink (record { attributes = None; result = Err nfs_status.Jukebox }))
nfs_refusal (nfs.Read a) = Some (nfs_replies.Read (record { attributes = None; result = Err nfs_status.Jukebox }))
nfs_refusal (nfs.Write a) = Some (nfs_replies.Write (record { wcc = no_wcc; result = Err nfs_status.Jukebox }))
nfs_refusal (nfs.Create a) = Some (nfs_replies.Create (record { directory = no_wcc; result = Err nfs_status.Jukebox }))
nfs_refusal (nfs.Mkdir a) = Some (nfs_replies.Mkdir (record { directory = no_wcc; result = Err nfs_status.Jukebox }))
nfs_refusal (nfs.Symlink a) = Some
    (nfs_replies.Symlink (record { directory = no_wcc; result = Err nfs_status.Jukebox }))
nfs_refusal (nfs.Mknod a) = Some (nfs_replies.Mknod (record { directory = no_wcc; result = Err nfs_status.Jukebox }))
nfs_refusal (nfs.Remove place) = Some
    (nfs_replies.Remove (record { directory = no_wcc; result = Err nfs_status.Jukebox }))
nfs_refusal (nfs.Rmdir place) = Some
    (nfs_replies.Rmdir (record { directory = no_wcc; result = Err nfs_status.Jukebox }))
nfs_refusal (nfs.Rename a) = Some
    (nfs_replies.Rename (record { from = no_wcc; to = no_wcc; result = Err nfs_status.Jukebox }))
nfs_refusal (nfs.Link a) = Some
    (nfs_replies.Link (record { attributes = None; directory = no_wcc; result = Err nfs_status.Jukebox }))
nfs_refusal (nfs.Readdir a) = Some (nfs_replies.Readdir (record { attributes = None; result = Err nfs_status.Jukebox }))
nfs_refusal (nfs.Readdirplus a) = Some
    (nfs_replies.Readdirplus (record { attributes = None; result = Err nfs_status.Jukebox }))
nfs_refusal (nfs.Fsstat object) = Some
    (nfs_replies.Fsstat (record { attributes = None; result = Err nfs_status.Jukebox }))
nfs_refusal (nfs.Fsinfo object) = Some
    (nfs_replies.Fsinfo (record { attributes = None; result = Err nfs_status.Jukebox }))
nfs_refusal (nfs.Pathconf object) = Some
    (nfs_replies.Pathconf (record { attributes = None; result = Err nfs_status.Jukebox }))
nfs_refusal (nfs.Commit a) = Some (nfs_replies.Commit (record { wcc = no_wcc; result = Err nfs_status.Jukebox }))

-- NLM4_DENIED_NOLOCKS (RFC 1813, 6.1.4), with the call's cookie
abbrev pub no_locks : List ℕ → NlmResult
no_locks cookie = record { cookie = cookie; status = nlm_status.DeniedNoLocks }

abbrev pub nlm_refusal : NlmCall → Option NlmReply
nlm_refusal (nlm.Test a) = Some (nlm_replies.Test (record { cookie = a.cookie; status = test_status.DeniedNoLocks }))
nlm_refusal (nlm.Lock a) = Some (nlm_replies.Lock (no_locks a.cookie))
nlm_refusal (nlm.Cancel a) = Some (nlm_replies.Cancel (no_locks a.cookie))
nlm_refusal (nlm.Unlock a) = Some (nlm_replies.Unlock (no_locks a.cookie))
nlm_refusal (nlm.Granted a) = Some (nlm_replies.Granted (no_locks a.cookie))
nlm_refusal (nlm.Share a) = Some (nlm_replies.Share (no_locks a.cookie))
nlm_refusal (nlm.Unshare a) = Some (nlm_replies.Unshare (no_locks a.cookie))
nlm_refusal (nlm.NmLock a) = Some (nlm_replies.NmLock (no_locks a.cookie))
nlm_refusal call = None

-- by a status, where the procedure has one
unfoldable pub refusal_of : Call → Refusal
refusal_of (calls.Nfs call) = elim (nfs_refusal call) [
  | None ↦ refusals.SystemError
  | Some r ↦ refusals.Reply (replies.Nfs r)
]
refusal_of (calls.Mount (mount.Mnt path)) = refusals.Reply
    (replies.Mount (mount_replies.Mnt (Err mount_status.ServerFault)))
refusal_of (calls.Mount call) = refusals.SystemError
refusal_of (calls.Nlm call) = elim (nlm_refusal call) [
  | None ↦ refusals.SystemError
  | Some r ↦ refusals.Reply (replies.Nlm r)
]
refusal_of (calls.Replace exports) = refusals.Silent
