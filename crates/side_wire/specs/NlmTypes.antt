-- The XDR types of NLM version 4 (RFC 1813, 6.1.4), and the value of each. The bounds of its strings and opaque items
-- are this server's own.
use Rattle.std.specs.Prelude.{ℕ, nat_le, ◌==◌, if◌then◌else◌, pos}
use Rattle.nfs_xdr.specs.Types.{Xdr, Void, Int, Hyper, Flag, Enum, Opaque, Pair, Union, Value}
use Rattle.side_wire.specs.declared.message.NlmLock.{NlmLock}
use Rattle.side_wire.specs.declared.nlm.CancelArguments.{CancelArguments}
use Rattle.side_wire.specs.declared.nlm.FreeAllArguments.{FreeAllArguments}
use Rattle.side_wire.specs.declared.nlm.LockArguments.{LockArguments}
use Rattle.side_wire.specs.declared.nlm.LockHolder.{LockHolder}
use Rattle.side_wire.specs.declared.nlm.NlmResult.{NlmResult}
use Rattle.side_wire.specs.declared.nlm.NlmShare.{NlmShare}
use Rattle.side_wire.specs.declared.nlm.NlmStatus.{NlmStatus}
use Rattle.side_wire.specs.declared.nlm.NlmStatus.TheVariants as status
use Rattle.side_wire.specs.declared.nlm.ShareAccess.{ShareAccess}
use Rattle.side_wire.specs.declared.nlm.ShareAccess.TheVariants as access
use Rattle.side_wire.specs.declared.nlm.ShareArguments.{ShareArguments}
use Rattle.side_wire.specs.declared.nlm.ShareMode.{ShareMode}
use Rattle.side_wire.specs.declared.nlm.ShareMode.TheVariants as mode
use Rattle.side_wire.specs.declared.nlm.TestArguments.{TestArguments}
use Rattle.side_wire.specs.declared.nlm.TestResult.{TestResult}
use Rattle.side_wire.specs.declared.nlm.TestStatus.{TestStatus}
use Rattle.side_wire.specs.declared.nlm.TestStatus.TheVariants as tested
use Rattle.side_wire.specs.declared.nlm.UnlockArguments.{UnlockArguments}

-- netobj: opaque of at most 1024 bytes
abbrev pub netobj : Xdr
netobj = Opaque 1024

-- caller_name: a string of at most 1024 bytes
abbrev pub caller_name : Xdr
caller_name = Opaque 1024

-- the name of nlm4_notify: a string of at most 1025 bytes
abbrev pub notify_name : Xdr
notify_name = Opaque 1025

-- nlm4_stats: NLM4_GRANTED 0 to NLM4_FAILED 9
abbrev pub nlm4_stats : Xdr
nlm4_stats = Enum (λ n. nat_le n 9)

abbrev pub nlm_status_number : NlmStatus → ℕ
nlm_status_number status.Granted = 0
nlm_status_number status.Denied = 1
nlm_status_number status.DeniedNoLocks = 2
nlm_status_number status.Blocked = 3
nlm_status_number status.DeniedGracePeriod = 4
nlm_status_number status.Deadlock = 5
nlm_status_number status.ReadOnly = 6
nlm_status_number status.StaleHandle = 7
nlm_status_number status.FileTooBig = 8
nlm_status_number status.Failed = 9

-- nlm4_lock: caller_name, fh, oh, svid, l_offset, l_len
abbrev pub nlm4_lock : Xdr
nlm4_lock = Pair caller_name (Pair netobj (Pair netobj (Pair Int (Pair Hyper Hyper))))

abbrev pub lock_value : NlmLock → Value nlm4_lock
lock_value l = (l.caller_name, (l.file, (l.owner, (l.process, (l.offset, l.length)))))

-- nlm4_holder: exclusive, svid, oh, l_offset, l_len
abbrev pub nlm4_holder : Xdr
nlm4_holder = Pair Flag (Pair Int (Pair netobj (Pair Hyper Hyper)))

abbrev pub holder_value : LockHolder → Value nlm4_holder
holder_value h = (h.exclusive, (h.process, (h.owner, (h.offset, h.length))))

-- the arm of nlm4_testrply: NLM4_DENIED, 1, has a holder, and every other status void
abbrev pub test_arm : ℕ → Xdr
test_arm status = if status == 1 then nlm4_holder else Void

-- nlm4_testrply
abbrev pub nlm4_testrply : Xdr
nlm4_testrply = Union (λ n. nat_le n 9) test_arm

abbrev pub test_status_value : TestStatus → Value nlm4_testrply
test_status_value tested.Granted = (0, tt)
test_status_value (tested.Denied holder) = (1, holder_value holder)
test_status_value tested.DeniedNoLocks = (2, tt)
test_status_value tested.Blocked = (3, tt)
test_status_value tested.DeniedGracePeriod = (4, tt)
test_status_value tested.Deadlock = (5, tt)
test_status_value tested.ReadOnly = (6, tt)
test_status_value tested.StaleHandle = (7, tt)
test_status_value tested.FileTooBig = (8, tt)
test_status_value tested.Failed = (9, tt)

-- nlm4_testres: cookie, test_stat
abbrev pub nlm4_testres : Xdr
nlm4_testres = Pair netobj nlm4_testrply

abbrev pub test_result_value : TestResult → Value nlm4_testres
test_result_value r = (r.cookie, test_status_value r.status)

-- nlm4_res: cookie, stat
abbrev pub nlm4_res : Xdr
nlm4_res = Pair netobj nlm4_stats

abbrev pub result_value : NlmResult → Value nlm4_res
result_value r = (r.cookie, nlm_status_number r.status)

-- nlm4_shareres: cookie, stat, sequence
abbrev pub nlm4_shareres : Xdr
nlm4_shareres = Pair netobj (Pair nlm4_stats Int)

-- the sequence is not used, and is 0
abbrev pub share_result_value : NlmResult → Value nlm4_shareres
share_result_value r = (r.cookie, (nlm_status_number r.status, pos 0))

-- nlm4_testargs: cookie, exclusive, alock
abbrev pub nlm4_testargs : Xdr
nlm4_testargs = Pair netobj (Pair Flag nlm4_lock)

abbrev pub test_value : TestArguments → Value nlm4_testargs
test_value a = (a.cookie, (a.exclusive, lock_value a.lock))

-- nlm4_lockargs: cookie, block, exclusive, alock, reclaim, state
abbrev pub nlm4_lockargs : Xdr
nlm4_lockargs = Pair netobj (Pair Flag (Pair Flag (Pair nlm4_lock (Pair Flag Int))))

abbrev pub lock_arguments_value : LockArguments → Value nlm4_lockargs
lock_arguments_value a = (a.cookie, (a.block, (a.exclusive, (lock_value a.lock, (a.reclaim, a.state)))))

-- nlm4_cancargs: cookie, block, exclusive, alock
abbrev pub nlm4_cancargs : Xdr
nlm4_cancargs = Pair netobj (Pair Flag (Pair Flag nlm4_lock))

abbrev pub cancel_value : CancelArguments → Value nlm4_cancargs
cancel_value a = (a.cookie, (a.block, (a.exclusive, lock_value a.lock)))

-- nlm4_unlockargs: cookie, alock
abbrev pub nlm4_unlockargs : Xdr
nlm4_unlockargs = Pair netobj nlm4_lock

abbrev pub unlock_value : UnlockArguments → Value nlm4_unlockargs
unlock_value a = (a.cookie, lock_value a.lock)

-- fsh4_mode: fsm_DN 0, fsm_DR 1, fsm_DW 2, fsm_DRW 3
abbrev pub fsh4_mode : Xdr
fsh4_mode = Enum (λ n. nat_le n 3)

abbrev pub mode_number : ShareMode → ℕ
mode_number mode.DenyNone = 0
mode_number mode.DenyRead = 1
mode_number mode.DenyWrite = 2
mode_number mode.DenyReadWrite = 3

-- fsh4_access: fsa_NONE 0, fsa_R 1, fsa_W 2, fsa_RW 3
abbrev pub fsh4_access : Xdr
fsh4_access = Enum (λ n. nat_le n 3)

abbrev pub access_number : ShareAccess → ℕ
access_number access.Neither = 0
access_number access.Read = 1
access_number access.Write = 2
access_number access.ReadWrite = 3

-- nlm4_share: caller_name, fh, oh, mode, access
abbrev pub nlm4_share : Xdr
nlm4_share = Pair caller_name (Pair netobj (Pair netobj (Pair fsh4_mode fsh4_access)))

abbrev pub share_value : NlmShare → Value nlm4_share
share_value s = (s.caller_name, (s.file, (s.owner, (mode_number s.mode, access_number s.access))))

-- nlm4_shareargs: cookie, share, reclaim
abbrev pub nlm4_shareargs : Xdr
nlm4_shareargs = Pair netobj (Pair nlm4_share Flag)

abbrev pub share_arguments_value : ShareArguments → Value nlm4_shareargs
share_arguments_value a = (a.cookie, (share_value a.share, a.reclaim))

-- nlm4_notify: name, state
abbrev pub nlm4_notify : Xdr
nlm4_notify = Pair notify_name Int

abbrev pub free_all_value : FreeAllArguments → Value nlm4_notify
free_all_value a = (a.name, a.state)
