-- When two locks, shares, requests, files or buckets are the same: tests by parts, as `==` makes them.
use Rattle.std.specs.Prelude.{Bool, true, false, ◌==◌, ◌&&◌}
use Rattle.std.specs.Bool.{beq}
use Rattle.std.specs.Cmp.Lexicographic.{pointwise}
use Rattle.std.specs.Ordering.{int_eq}
use Rattle.side_wire.specs.declared.message.NlmLock.{NlmLock}
use Rattle.side_wire.specs.declared.nlm.ShareAccess.{ShareAccess}
use Rattle.side_wire.specs.declared.nlm.ShareAccess.TheVariants as access
use Rattle.side_wire.specs.declared.nlm.ShareMode.{ShareMode}
use Rattle.side_wire.specs.declared.nlm.ShareMode.TheVariants as mode
use Rattle.nfs_machine.specs.Bytes.{same_bytes}
use Rattle.nfs_machine.specs.Locks.{same_owner, same_sharer}
use Rattle.nfs_machine.specs.State.{Lock, Request, Share}
use Rattle.nlm_ranges.specs.Buckets.{BucketValue, LockedValue}
use Rattle.nlm_ranges.specs.Files.{FileValue}

abbrev pub same_lock : Lock → Lock → Bool
same_lock a b =
    a.first == b.first && (a.last == b.last && (beq a.exclusive b.exclusive && same_owner a.owner b.owner))

abbrev pub same_mode : ShareMode → ShareMode → Bool
same_mode mode.DenyNone mode.DenyNone = true
same_mode mode.DenyRead mode.DenyRead = true
same_mode mode.DenyWrite mode.DenyWrite = true
same_mode mode.DenyReadWrite mode.DenyReadWrite = true
same_mode a b = false

abbrev pub same_access : ShareAccess → ShareAccess → Bool
same_access access.Neither access.Neither = true
same_access access.Read access.Read = true
same_access access.Write access.Write = true
same_access access.ReadWrite access.ReadWrite = true
same_access a b = false

abbrev pub same_share : Share → Share → Bool
same_share a b = same_mode a.mode b.mode && (same_access a.access b.access && same_sharer a b)

-- the same lock is asked for, by the same owner and of the same handle
abbrev pub equal_locks : NlmLock → NlmLock → Bool
equal_locks a b =
    int_eq a.process b.process && (a.offset == b.offset && (a.length == b.length &&
    (same_bytes a.caller_name b.caller_name && (same_bytes a.file b.file && same_bytes a.owner b.owner))))

abbrev pub equal_requests : Request → Request → Bool
equal_requests a b =
    a.number == b.number && (beq a.exclusive b.exclusive && (beq a.by_message b.by_message &&
    (same_bytes a.host b.host && equal_locks a.asked b.asked)))

abbrev pub same_file : FileValue → FileValue → Bool
same_file a b =
    pointwise same_lock a.held.locks b.held.locks && (pointwise same_share a.held.shares b.held.shares &&
    (pointwise equal_requests a.held.waiting b.held.waiting && pointwise equal_requests a.pending b.pending))

abbrev pub same_locked : LockedValue → LockedValue → Bool
same_locked a b = a.number == b.number && (a.export == b.export && same_file a.file b.file)

abbrev pub same_bucket : BucketValue → BucketValue → Bool
same_bucket a b = a.given == b.given && pointwise same_locked a.files b.files
