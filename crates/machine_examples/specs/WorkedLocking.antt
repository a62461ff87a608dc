-- Whole steps of MOUNT and NLM worked through by hand (RFC 1813, appendices I and II), from the state in which the
-- file "x" was made and written.
use Rattle.std.specs.Prelude.{◌≡◌, ◌-◌, ◌^◌, Bool, true, false, ℕ, ◌||◌, [], ◌∷◌, take, Ok}
use Rattle.std.specs.Prelude.{Err, codes, map, pos, ◌==◌}
use Rattle.std.specs.FinMap.{empty}
use Rattle.side_wire.specs.declared.message.NlmLock.{NlmLock}
use Rattle.side_wire.specs.declared.mount.MountCall.TheVariants as mount
use Rattle.side_wire.specs.declared.mount.MountReply.TheVariants as mount_replies
use Rattle.side_wire.specs.declared.mount.MountStatus.TheVariants as mount_status
use Rattle.side_wire.specs.declared.nlm.LockArguments.{LockArguments}
use Rattle.side_wire.specs.declared.nlm.NlmCall.TheVariants as nlm
use Rattle.side_wire.specs.declared.nlm.NlmReply.TheVariants as nlm_replies
use Rattle.side_wire.specs.declared.nlm.NlmStatus.TheVariants as status
use Rattle.side_wire.specs.declared.message.Callback.TheVariants as callbacks
use Rattle.side_wire.specs.declared.nlm.CancelArguments.{CancelArguments}
use Rattle.side_wire.specs.declared.nlm.ShareAccess.{ShareAccess}
use Rattle.side_wire.specs.declared.nlm.ShareAccess.TheVariants as access
use Rattle.side_wire.specs.declared.nlm.ShareArguments.{ShareArguments}
use Rattle.side_wire.specs.declared.nlm.ShareMode.{ShareMode}
use Rattle.side_wire.specs.declared.nlm.ShareMode.TheVariants as mode
use Rattle.side_wire.specs.declared.nlm.TestArguments.{TestArguments}
use Rattle.side_wire.specs.declared.nlm.TestStatus.TheVariants as tested
use Rattle.side_wire.specs.declared.nlm.UnlockArguments.{UnlockArguments}
use Rattle.nfs_machine.specs.Handles.{handle_bytes}
use Rattle.nfs_machine.specs.FileLists.{with_list}
use Rattle.nfs_machine.specs.LockSteps.{NotRegular, RangeTooBig, ReadOnly, StaleHandle, lock_checked}
use Rattle.nfs_machine.specs.LockSteps.{nlm_status_of, test_status_of}
use Rattle.nfs_machine.specs.MountSteps.{MountStep}
use Rattle.nfs_machine.specs.NlmSteps.{NlmStep, result_with}
use Rattle.nfs_machine.specs.State.{Owner, Request, State}
use Rattle.machine_examples.specs.Worked.{root_bytes}
use Rattle.machine_examples.specs.WorkedLocks.{a, asked, b, holder, mounted, reading, reading_too, split, whole}
use Rattle.machine_examples.specs.WorkedRun.{nobody, read_only, with_hi, x_bytes}

-- a lock of the file
abbrev pub on_x : Owner → ℕ → ℕ → NlmLock
on_x o offset length = record (asked o offset length) { file = x_bytes }

-- a LOCK or NM_LOCK that asks for it exclusively, and waits or not
abbrev pub locking : Owner → ℕ → ℕ → Bool → LockArguments
locking o offset length block = record
    { cookie = 1 ∷ []; block = block; exclusive = true; lock = on_x o offset length; reclaim = false; state = pos 0 }

-- A has bytes 0 to 99, and gives back 40 to 59
abbrev pub with_whole : State
with_whole = record with_hi { locks = with_list empty 5 whole }

abbrev pub giving_back : UnlockArguments
giving_back = record { cookie = 2 ∷ []; lock = on_x a 40 20 }

abbrev pub with_split : State
with_split = record with_hi { locks = with_list empty 5 split }

-- then B waits for byte 30
abbrev pub waiting : Request
waiting = record {
  number = 5;
  host = codes "10.0.0.1";
  exclusive = true;
  asked = on_x b 30 1;
  by_message = false;
}

abbrev pub with_waiting : State
with_waiting = record with_split
    { waiting = with_list empty 5 (waiting ∷ []); spent_grants = λ n. (n == 5) || with_hi.spent_grants n }

-- B cancels that
abbrev pub cancelling : CancelArguments
cancelling = record { cookie = 3 ∷ []; block = true; exclusive = true; lock = on_x b 30 1 }

abbrev pub testing : TestArguments
testing = record { cookie = 4 ∷ []; exclusive = true; lock = on_x b 30 1 }

-- a share of the file, where A reads and denies writing, and B reads too
abbrev pub sharing : Owner → ShareMode → ShareAccess → ShareArguments
sharing o mode access = record {
  cookie = 5 ∷ [];
  share = record
      { caller_name = o.caller_name; file = x_bytes; owner = o.owner; mode = mode; access = access };
  reclaim = false;
}

abbrev pub with_reader : State
with_reader = record with_hi { shares = with_list empty 5 (reading ∷ []) }

abbrev pub with_readers : State
with_readers = record with_hi { shares = with_list empty 5 (reading ∷ reading_too ∷ []) }

-- which file a call names: each check before the next
pub record WorkedChecks : Type 0 where
  pub good : lock_checked with_hi nobody true (on_x a 0 100) ≡ Ok 5
  pub last_byte : lock_checked with_hi nobody true (on_x a (2 ^ 64 - 1) 1) ≡ Ok 5
  pub no_handle : lock_checked with_hi nobody true (record (on_x a 0 1) { file = take 31 x_bytes }) ≡ Err StaleHandle
  pub other_start : lock_checked with_hi nobody true
      (record (on_x a 0 1) { file = handle_bytes (record { export = 1; start = 8; fileid = 5; generation = 1 }) }) ≡
      Err StaleHandle
  pub directory : lock_checked with_hi nobody true (record (on_x a (2 ^ 64 - 1) 2) { file = root_bytes }) ≡
      Err NotRegular
  pub above : lock_checked (read_only with_hi) nobody true (on_x a (2 ^ 64 - 1) 2) ≡ Err RangeTooBig
  pub exclusive : lock_checked (read_only with_hi) nobody true (on_x a 0 1) ≡ Err ReadOnly
  pub shared : lock_checked (read_only with_hi) nobody false (on_x a 0 1) ≡ Ok 5
  -- how a call at fault is answered
  pub statuses : map nlm_status_of (StaleHandle ∷ NotRegular ∷ RangeTooBig ∷ ReadOnly ∷ []) ≡
      status.StaleHandle ∷ status.Failed ∷ status.FileTooBig ∷ status.ReadOnly ∷ []
  pub test_statuses : map test_status_of (StaleHandle ∷ NotRegular ∷ RangeTooBig ∷ ReadOnly ∷ []) ≡
      tested.StaleHandle ∷ tested.Failed ∷ tested.FileTooBig ∷ tested.ReadOnly ∷ []

pub record WorkedLocking : Type 0 where
  pub locks : NlmStep with_hi nobody (nlm.Lock (locking a 0 100 true))
      (nlm_replies.Lock (result_with (1 ∷ []) status.Granted)) [] with_whole
  pub unlocks : NlmStep with_whole nobody (nlm.Unlock giving_back)
      (nlm_replies.Unlock (result_with (2 ∷ []) status.Granted)) [] with_split
  pub waits : NlmStep with_split nobody (nlm.Lock (locking b 30 1 true))
      (nlm_replies.Lock (result_with (1 ∷ []) status.Blocked)) [] with_waiting
  -- the same once more: it waits once
  pub waits_once : NlmStep with_waiting nobody (nlm.Lock (locking b 30 1 true))
      (nlm_replies.Lock (result_with (1 ∷ []) status.Blocked)) [] with_waiting
  pub cancels : NlmStep with_waiting nobody (nlm.Cancel cancelling)
      (nlm_replies.Cancel (result_with (3 ∷ []) status.Granted)) [] (record with_waiting { waiting = empty })
  pub cancels_none : NlmStep with_split nobody (nlm.Cancel cancelling)
      (nlm_replies.Cancel (result_with (3 ∷ []) status.Denied)) [] with_split
  pub tests : NlmStep with_split nobody (nlm.Test testing)
      (nlm_replies.Test (record { cookie = 4 ∷ []; status = tested.Denied (holder 0 40) })) [] with_split
  -- a MSG form has its result in a call of the server's own
  pub posts : NlmStep with_hi nobody (nlm.LockMsg (locking a 0 100 true)) nlm_replies.LockMsg
      (record { host = codes "10.0.0.1"; call = callbacks.LockRes (result_with (1 ∷ []) status.Granted) } ∷ [])
      with_whole
  pub posts_denied : NlmStep with_split nobody (nlm.LockMsg (locking b 30 1 false)) nlm_replies.LockMsg
      (record { host = codes "10.0.0.1"; call = callbacks.LockRes (result_with (1 ∷ []) status.Denied) } ∷ [])
      with_split
  pub shares : NlmStep with_hi nobody (nlm.Share (sharing a mode.DenyWrite access.Read))
      (nlm_replies.Share (result_with (5 ∷ []) status.Granted)) [] with_reader
  pub share_denied : NlmStep with_reader nobody (nlm.Share (sharing b mode.DenyNone access.Write))
      (nlm_replies.Share (result_with (5 ∷ []) status.Denied)) [] with_reader
  pub shares_too : NlmStep with_reader nobody (nlm.Share (sharing b mode.DenyNone access.Read))
      (nlm_replies.Share (result_with (5 ∷ []) status.Granted)) [] with_readers
  -- the first share of A stays
  pub own_denied : NlmStep with_readers nobody (nlm.Share (sharing a mode.DenyRead access.Read))
      (nlm_replies.Share (result_with (5 ∷ []) status.Denied)) [] with_readers
  pub unshares_none : NlmStep with_readers nobody
      (nlm.Unshare (sharing (record a { caller_name = codes "c3" }) mode.DenyNone access.Neither))
      (nlm_replies.Unshare (result_with (5 ∷ []) status.Granted)) [] with_readers
  pub unshares : NlmStep with_readers nobody (nlm.Unshare (sharing a mode.DenyWrite access.Read))
      (nlm_replies.Unshare (result_with (5 ∷ []) status.Granted)) []
      (record with_hi { shares = with_list empty 5 (reading_too ∷ []) })
  pub denied : NlmStep with_split nobody (nlm.NmLock (locking b 30 1 false))
      (nlm_replies.NmLock (result_with (1 ∷ []) status.Denied)) [] with_split
  pub mounts : MountStep with_hi nobody (mount.Mnt (codes "/a")) (mount_replies.Mnt (Ok root_bytes)) []
      (record with_hi { mounts = mounted (codes "10.0.0.1") (codes "/a") ∷ [] })
  pub not_mounted : MountStep with_hi nobody (mount.Mnt (codes "a"))
      (mount_replies.Mnt (Err mount_status.Invalid)) [] with_hi
