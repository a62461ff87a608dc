-- Locks and shares worked through by hand (RFC 1813, appendix II), and lists of MOUNT (appendix I, 5.2.2 to 5.2.5).
use Rattle.std.specs.Prelude.{◌≡◌, ℕ, ◌-◌, ◌^◌, Bool, true, false, List, [], ◌∷◌, Err, codes}
use Rattle.std.specs.Prelude.{◌≤◌, length, pos, None, Some}
use Rattle.std.specs.FinMap.{FinMap, get}
use Rattle.std.specs.List.{list_any}
use Rattle.std.specs.Ordering.{nat_cmp}
use Rattle.side_wire.specs.declared.message.Callback.TheVariants as callbacks
use Rattle.side_wire.specs.declared.message.NlmLock.{NlmLock}
use Rattle.side_wire.specs.declared.mount.MountStatus.TheVariants as mount_status
use Rattle.side_wire.specs.declared.nlm.LockHolder.{LockHolder}
use Rattle.side_wire.specs.declared.nlm.ShareAccess.{ShareAccess}
use Rattle.side_wire.specs.declared.nlm.ShareAccess.TheVariants as access
use Rattle.side_wire.specs.declared.nlm.ShareMode.{ShareMode}
use Rattle.side_wire.specs.declared.nlm.ShareMode.TheVariants as mode
use Rattle.side_wire.specs.declared.nlm.TestArguments.{TestArguments}
use Rattle.side_wire.specs.declared.nlm.TestStatus.TheVariants as tested
use Rattle.nfs_machine.specs.Grants.{grant_cookie, grant_message}
use Rattle.nfs_machine.specs.FileLists.{all_but, of_file, with_list}
use Rattle.nfs_machine.specs.LockSteps.{Tests, is_grant_number, length_shown, share_of}
use Rattle.nfs_machine.specs.Locks.{HasModes, denies, fits_offsets, modes_conflict, modes_with, range_of, same_sharer}
use Rattle.nfs_machine.specs.Locks.{shares_conflict, Mode}
use Rattle.nfs_machine.specs.MountSteps.{MountStep, newest, walk, with_mount}
use Rattle.nfs_machine.specs.State.{Lock, Owner, Request, Share, State, Range}
use Rattle.machine_examples.specs.Worked.{called_by, find, two_exports}
use Rattle.nfs_machine.specs.declared.context.Limits.{Limits}
use Rattle.nfs_machine.specs.declared.moment.Moment.{Moment}
use Rattle.side_wire.specs.declared.mount.MountCall.TheVariants as mount
use Rattle.side_wire.specs.declared.mount.MountReply.TheVariants as mount_replies
use Rattle.side_wire.specs.declared.mount.lists.MountBody.{MountBody}

-- the modes of an owner at an offset
abbrev pub Unlocked : Mode
Unlocked = None

abbrev pub Shared : Mode
Shared = Some false

abbrev pub Exclusive : Mode
Exclusive = Some true

-- the owners A and B
abbrev pub a : Owner
a = record { caller_name = codes "c1"; owner = 1 ∷ []; process = pos 1 }

abbrev pub b : Owner
b = record { caller_name = codes "c2"; owner = 2 ∷ []; process = pos 2 }

-- a lock as a caller names it, and the range that it is
abbrev pub asked : Owner → ℕ → ℕ → NlmLock
asked o offset length = record
    { caller_name = o.caller_name; file = []; owner = o.owner; process = o.process; offset = offset; length = length }

abbrev pub range_at : Owner → ℕ → ℕ → Range
range_at o offset length = range_of (asked o offset length)

abbrev pub lock : Owner → ℕ → ℕ → Bool → Lock
lock o first last exclusive = record
    { range = record { owner = o; first = first; last = last }; exclusive = exclusive }

-- A has 0 to 99 exclusively
abbrev pub whole : List Lock
whole = lock a 0 99 true ∷ []

-- and gave back 20 bytes from 40 on
abbrev pub split : List Lock
split = lock a 0 39 true ∷ lock a 60 99 true ∷ []

-- and has the rest of the file from 200 on
abbrev pub to_the_end : List Lock
to_the_end = lock a 200 (2 ^ 64 - 1) true ∷ split

abbrev pub holder : ℕ → ℕ → LockHolder
holder offset length = record { exclusive = true; process = pos 1; owner = 1 ∷ []; offset = offset; length = length }

pub record WorkedRanges : Type 0 where
  pub end_of_100 : (range_of (asked a 0 100)).last ≡ 99
  pub to_end : (range_of (asked a 200 0)).last ≡ 2 ^ 64 - 1
  pub last_byte : fits_offsets (asked a (2 ^ 64 - 1) 1) ≡ true
  pub above : fits_offsets (asked a (2 ^ 64 - 1) 2) ≡ false
  pub all_but_one : fits_offsets (asked a 1 (2 ^ 64 - 1)) ≡ true
  pub shown : length_shown 60 99 ≡ 40
  pub shown_to_end : length_shown 200 (2 ^ 64 - 1) ≡ 0
  -- LOCK of 0 to 99
  pub locked : HasModes whole (modes_with [] (range_at a 0 100) Exclusive)
  -- UNLOCK of 20 bytes from 40 on
  pub at_39 : modes_with whole (range_at a 40 20) Unlocked a 39 ≡ Exclusive
  pub at_40 : modes_with whole (range_at a 40 20) Unlocked a 40 ≡ Unlocked
  pub at_59 : modes_with whole (range_at a 40 20) Unlocked a 59 ≡ Unlocked
  pub at_60 : modes_with whole (range_at a 40 20) Unlocked a 60 ≡ Exclusive
  pub at_100 : modes_with whole (range_at a 40 20) Unlocked a 100 ≡ Unlocked
  pub of_other : modes_with whole (range_at a 40 20) Unlocked b 30 ≡ Unlocked
  -- an owner is a caller, an owner within it and a process
  pub of_other_process : modes_with whole (range_at a 40 20) Unlocked (record a { process = pos 2 }) 30 ≡ Unlocked
  pub of_other_owner : modes_with whole (range_at a 40 20) Unlocked (record a { owner = 2 ∷ [] }) 30 ≡ Unlocked
  pub of_other_caller : modes_with whole (range_at a 40 20) Unlocked
      (record a { caller_name = codes "c2" }) 30 ≡ Unlocked
  -- what a file has is its own, and no empty list stands
  pub of_file_5 : (locks : FinMap nat_cmp (List Lock)) → of_file (with_list locks 5 whole) 5 ≡ whole
  pub of_other_file : (locks : FinMap nat_cmp (List Lock)) → of_file (with_list locks 5 whole) 6 ≡ of_file locks 6
  pub of_no_lock : (locks : FinMap nat_cmp (List Lock)) → get (with_list locks 5 []) 5 ≡ None
  -- a shared lock of 10 bytes from 50 on inside the exclusive one
  pub shared_at_55 : modes_with whole (range_at a 50 10) Shared a 55 ≡ Shared
  pub exclusive_at_45 : modes_with whole (range_at a 50 10) Shared a 45 ≡ Exclusive
  pub shared_beside_shared : modes_conflict Shared Shared ≡ false
  pub shared_beside_exclusive : modes_conflict Shared Exclusive ≡ true

-- exclusive TESTs
pub record WorkedTests : Type 0 where
  pub at_30 : Tests split (range_at b 30 1) Exclusive (tested.Denied (holder 0 40))
  pub part_of_it : Tests split (range_at b 30 1) Exclusive (tested.Denied (holder 30 5))
  pub at_50 : Tests split (range_at b 50 1) Exclusive tested.Granted
  pub at_99 : Tests split (range_at b 99 1) Exclusive (tested.Denied (holder 60 40))
  pub at_the_end : Tests to_the_end (range_at b (2 ^ 64 - 1) 1) Exclusive (tested.Denied (holder 200 0))
  -- A's own locks don't stand in its way
  pub own : Tests split (range_at a 0 0) Exclusive tested.Granted

abbrev pub share : Owner → ShareMode → ShareAccess → Share
share o denied taken = share_of
    (record { caller_name = o.caller_name; file = []; owner = o.owner; mode = denied; access = taken })

-- A denies writing and reads
abbrev pub reading : Share
reading = share a mode.DenyWrite access.Read

-- B reads beside it
abbrev pub reading_too : Share
reading_too = share b mode.DenyNone access.Read

pub record WorkedShares : Type 0 where
  pub writing_is_denied : list_any (shares_conflict (share b mode.DenyNone access.Write)) (reading ∷ []) ≡ true
  pub reading_is_not : list_any (shares_conflict reading_too) (reading ∷ []) ≡ false
  pub denying_readers : list_any (shares_conflict (share a mode.DenyRead access.Read))
      (reading ∷ reading_too ∷ []) ≡ true
  -- access that a mode denies, and access that it does not
  pub both : denies mode.DenyReadWrite access.Write ≡ true
  pub one_of_two : denies mode.DenyRead access.ReadWrite ≡ true
  pub the_other : denies mode.DenyRead access.Write ≡ false
  pub neither : denies mode.DenyReadWrite access.Neither ≡ false
  pub unshare_of_none : all_but
      (same_sharer (share (record a { caller_name = codes "c3" }) mode.DenyNone access.Neither))
      (reading ∷ reading_too ∷ []) ≡ reading ∷ reading_too ∷ []
  -- an owner of shares is a caller and an owner within it
  pub of_other_owner : same_sharer reading (share (record a { owner = 2 ∷ [] }) mode.DenyWrite access.Read) ≡ false
  pub of_any_process : same_sharer reading (share (record a { process = pos 2 }) mode.DenyNone access.Write) ≡ true
  pub unshare : all_but (same_sharer reading) (reading ∷ reading_too ∷ []) ≡ reading_too ∷ []

-- B asked for bytes 30 to 39 from the host h2, exclusively
abbrev pub granted_request : Bool → Request
granted_request by_message = record
    { number = 69; host = codes "h2"; exclusive = true; asked = asked b 30 10; by_message = by_message }

abbrev pub grant_arguments : TestArguments
grant_arguments = record {
  cookie = 0 ∷ 0 ∷ 0 ∷ 0 ∷ 0 ∷ 0 ∷ 0 ∷ 69 ∷ [];
  exclusive = true;
  lock = record { caller_name = codes "c2"; file = []; owner = 2 ∷ []; process = pos 2; offset = 30; length = 10 };
}

-- numbers of grants, the cookies that they are, and the messages
pub record WorkedGrants : Type 0 where
  pub same_remainder : is_grant_number 5 69 ≡ true
  pub other_remainder : is_grant_number 5 70 ≡ false
  pub own_number : is_grant_number 5 5 ≡ true
  pub too_great : is_grant_number 0 (2 ^ 64) ≡ false
  pub cookie : grant_cookie 69 ≡ 0 ∷ 0 ∷ 0 ∷ 0 ∷ 0 ∷ 0 ∷ 0 ∷ 69 ∷ []
  -- the message goes to the host that asked, and repeats what it asked for
  pub told : grant_message
      (granted_request false) ≡ record { host = codes "h2"; call = callbacks.Granted grant_arguments }
  pub told_by_message : grant_message
      (granted_request true) ≡ record { host = codes "h2"; call = callbacks.GrantedMsg grant_arguments }

abbrev pub mounted : List ℕ → List ℕ → MountBody
mounted host path = record { hostname = host; directory = path }

abbrev pub three_mounts : List MountBody
three_mounts = mounted (codes "h1") (codes "/a") ∷ mounted (codes "h2") (codes "/a") ∷
    mounted (codes "h1") (codes "//a/") ∷ []

-- of exports `/a` for `*` and `/a/b` for 10.0.0.2
-- which mounts are kept
pub record WorkedNewest : Type 0 where
  -- of 65,537 mounts the first goes, and of fewer none
  pub full : (first : MountBody) (mounts : List MountBody) → length mounts ≡ 65536 →
      newest (first ∷ mounts) ≡ mounts
  pub fits : (mounts : List MountBody) → length mounts ≤ 65536 → newest mounts ≡ mounts

pub record WorkedMounts : Type 0 where
  -- MNT adds a path of a host once
  pub dump : (m : State)
      → (with_mount (with_mount
      (with_mount (with_mount (record m { mounts = [] }) (mounted (codes "h1") (codes "/a")))
      (mounted (codes "h2") (codes "/a"))) (mounted (codes "h1") (codes "/a")))
      (mounted (codes "h1") (codes "//a/"))).mounts
      ≡ record { hostname = codes "h1"; directory = codes "/a" } ∷
      record { hostname = codes "h2"; directory = codes "/a" } ∷
      record { hostname = codes "h1"; directory = codes "//a/" } ∷ []
  pub dumps : (m : State) (moment : Moment) (limits : Limits)
      → MountStep (record m { mounts = three_mounts }) (called_by (codes "h2") 7 moment limits) mount.Dump
      (mount_replies.Dump three_mounts) [] (record m { mounts = three_mounts })
  -- UMNT compares the path as it was sent
  pub umnt : (m : State) (moment : Moment) (limits : Limits)
      → MountStep (record m { mounts = three_mounts }) (called_by (codes "h1") 7 moment limits)
      (mount.Unmount (codes "/a")) mount_replies.Unmount []
      (record m { mounts = mounted (codes "h2") (codes "/a") ∷ mounted (codes "h1") (codes "//a/") ∷ [] })
  pub umnt_of_none : (m : State) (moment : Moment) (limits : Limits)
      → MountStep (record m { mounts = three_mounts }) (called_by (codes "h2") 7 moment limits)
      (mount.Unmount (codes "//a/")) mount_replies.Unmount [] (record m { mounts = three_mounts })
  pub umntall : (m : State) (moment : Moment) (limits : Limits)
      → MountStep (record m { mounts = three_mounts })
      (called_by (codes "h1") 7 moment limits) mount.UnmountAll mount_replies.UnmountAll []
      (record m { mounts = mounted (codes "h2") (codes "/a") ∷ [] })
  pub export : (m : State) (moment : Moment) (limits : Limits)
      → MountStep (record m { exports = two_exports }) (called_by (codes "h1") 7 moment limits) mount.Export
      (mount_replies.Export
      (record { directory = codes "/a"; groups = [] } ∷
      record { directory = codes "/a/b"; groups = codes "10.0.0.2" ∷ [] } ∷ [])) []
      (record m { exports = two_exports })
  -- by another host than 10.0.0.2 it is what `b` is below the first (WorkedWalks)
  pub nothing_there : walk find 1 (codes "b" ∷ []) ≡ Err mount_status.NoEntry
