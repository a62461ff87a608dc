-- NLM's tables are those of a program, so its laws are those of every program.
use Rattle.std.proofs.Common.{◌≡◌, ℕ, zero, suc, ◌<◌, ◌≤◌, Bool, List, Result, refl, arith, lit<}
use Rattle.std.proofs.Common.{subst, ap}
use Rattle.nfs_xdr.specs.declared.XdrError.{XdrError}
use Rattle.nfs_xdr.specs.Types.{Xdr, Value, ◌&◌}
use Rattle.nfs_xdr.specs.Reading.{arm_of}
use Rattle.nfs_xdr.proofs.UnionArmLemmas.{read_at, ReadAt, unions}
use Rattle.side_wire.specs.NlmTypes.{nlm4_lock, nlm4_holder, nlm4_testrply, test_arm, nlm4_testres, nlm4_res}
use Rattle.side_wire.specs.NlmTypes.{nlm4_testargs, nlm4_lockargs, nlm4_cancargs, nlm4_unlockargs, nlm4_share}
use Rattle.side_wire.specs.NlmTypes.{nlm4_shareargs, nlm4_notify, nlm_status_number, test_status_value}
use Rattle.side_wire.specs.NlmTypes.{test_result_value, result_value, mode_number, access_number, share_value}
use Rattle.side_wire.specs.NlmTypes.{share_arguments_value}
use Rattle.side_wire.specs.Nlm.{nlm_arguments, IsNlmProcedure, nlm_procedure_of, nlm_arguments_of, SpellsNlmArguments}
use Rattle.nfs_xdr.specs.Programs.{type_at, SpellsOneCall}
use Rattle.nfs_xdr.proofs.ProgramLaws.{Makers, made, spells_one_call}
use Rattle.side_wire.specs.declared.message.NlmLock.{NlmLock}
use Rattle.side_wire.specs.declared.nlm.CancelArguments.{CancelArguments}
use Rattle.side_wire.specs.declared.nlm.FreeAllArguments.{FreeAllArguments}
use Rattle.side_wire.specs.declared.nlm.LockArguments.{LockArguments}
use Rattle.side_wire.specs.declared.nlm.LockHolder.{LockHolder}
use Rattle.side_wire.specs.declared.nlm.NlmCall.{NlmCall}
use Rattle.side_wire.specs.declared.nlm.NlmResult.{NlmResult}
use Rattle.side_wire.specs.declared.nlm.NlmShare.{NlmShare}
use Rattle.side_wire.specs.declared.nlm.NlmStatus.{NlmStatus}
use Rattle.side_wire.specs.declared.nlm.NlmStatus.TheVariants as status
use Rattle.side_wire.specs.declared.nlm.ShareAccess.{ShareAccess}
use Rattle.side_wire.specs.declared.nlm.ShareAccess.TheVariants as access
use Rattle.side_wire.specs.declared.nlm.ShareArguments.{ShareArguments}
use Rattle.side_wire.specs.declared.nlm.ShareMode.{ShareMode}
use Rattle.side_wire.specs.declared.nlm.ShareMode.TheVariants as mode
use Rattle.side_wire.specs.declared.nlm.TestArguments.{TestArguments}
use Rattle.side_wire.specs.declared.nlm.TestResult.{TestResult}
use Rattle.side_wire.specs.declared.nlm.TestStatus.{TestStatus}
use Rattle.side_wire.specs.declared.nlm.TestStatus.TheVariants as tested
use Rattle.side_wire.specs.declared.nlm.UnlockArguments.{UnlockArguments}
use Rattle.side_wire.specs.declared.nlm.NlmCall.TheVariants.{Null, Test, Lock, Cancel, Unlock, Granted, TestMsg}
use Rattle.side_wire.specs.declared.nlm.NlmCall.TheVariants.{LockMsg, CancelMsg, UnlockMsg, GrantedMsg, TestRes}
use Rattle.side_wire.specs.declared.nlm.NlmCall.TheVariants.{LockRes, CancelRes, UnlockRes, GrantedRes, Share}
use Rattle.side_wire.specs.declared.nlm.NlmCall.TheVariants.{Unshare, NmLock, FreeAll}

module _ (known : ℕ → Bool) (arm : ℕ → Xdr)
    (inner : (tag : ℕ) → List ℕ → Result (Value (arm tag) × List ℕ) XdrError) where
  read_at_tag : (n : ℕ) (rest : List ℕ) (tag : ℕ) → ReadAt known arm inner n rest tag
  unfolding arm_of
  read_at_tag n rest tag e =
      let P : ℕ → Type 0 = λ t. arm_of known arm inner (n, rest) ≡ read_at known arm inner t rest in
      subst P e refl

  -- what is read at the discriminants 8 and 9 of a union
  pub arm_of_is_further : (n : ℕ) (rest : List ℕ)
      → ReadAt known arm inner n rest 8 × ReadAt known arm inner n rest 9
  arm_of_is_further n rest = (read_at_tag n rest 8, read_at_tag n rest 9)

-- for `using` on a function that reads a union of ten arms
pub ruleset ten_arms = (unions, arm_of_is_further)

-- each call is of a procedure that there is
first : (n : ℕ) → n < 16 → IsNlmProcedure n
first n h = (
  omega (arith, h),
  (λ e. omega (arith, h, e)),
  (λ e. omega (arith, h, e)),
  (λ e. omega (arith, h, e)),
  (λ e. omega (arith, h, e)),
)

last : (n : ℕ) → 20 ≤ n → n < 24 → IsNlmProcedure n
last n low high = (
  high,
  (λ e. omega (arith, low, e)),
  (λ e. omega (arith, low, e)),
  (λ e. omega (arith, low, e)),
  (λ e. omega (arith, low, e)),
)

pub nlm_procedure_of-is : (call : NlmCall) → IsNlmProcedure (nlm_procedure_of call)
nlm_procedure_of-is Null = first 0 (lit< tt)
nlm_procedure_of-is (Test a) = first 1 (lit< tt)
nlm_procedure_of-is (Lock a) = first 2 (lit< tt)
nlm_procedure_of-is (Cancel a) = first 3 (lit< tt)
nlm_procedure_of-is (Unlock a) = first 4 (lit< tt)
nlm_procedure_of-is (Granted a) = first 5 (lit< tt)
nlm_procedure_of-is (TestMsg a) = first 6 (lit< tt)
nlm_procedure_of-is (LockMsg a) = first 7 (lit< tt)
nlm_procedure_of-is (CancelMsg a) = first 8 (lit< tt)
nlm_procedure_of-is (UnlockMsg a) = first 9 (lit< tt)
nlm_procedure_of-is (GrantedMsg a) = first 10 (lit< tt)
nlm_procedure_of-is (TestRes a) = first 11 (lit< tt)
nlm_procedure_of-is (LockRes a) = first 12 (lit< tt)
nlm_procedure_of-is (CancelRes a) = first 13 (lit< tt)
nlm_procedure_of-is (UnlockRes a) = first 14 (lit< tt)
nlm_procedure_of-is (GrantedRes a) = first 15 (lit< tt)
nlm_procedure_of-is (Share a) = last 20 (omega arith) (lit< tt)
nlm_procedure_of-is (Unshare a) = last 21 (omega arith) (lit< tt)
nlm_procedure_of-is (NmLock a) = last 22 (omega arith) (lit< tt)
nlm_procedure_of-is (FreeAll a) = last 23 (omega arith) (lit< tt)

-- the arguments of each call are made again of their value
abbrev lock_of : Value nlm4_lock → NlmLock
lock_of v =
    record {
      caller_name = v.0;
      file = v.1.0;
      owner = v.1.1.0;
      process = v.1.1.1.0;
      offset = v.1.1.1.1.0;
      length = v.1.1.1.1.1;
    }

abbrev holder_of : Value nlm4_holder → LockHolder
holder_of v =
    record { exclusive = v.0; process = v.1.0; owner = v.1.1.0; offset = v.1.1.1.0; length = v.1.1.1.1 }

abbrev test_of : Value nlm4_testargs → TestArguments
test_of v = record { cookie = v.0; exclusive = v.1.0; lock = lock_of v.1.1 }

abbrev lock_arguments_of : Value nlm4_lockargs → LockArguments
lock_arguments_of v =
    record {
      cookie = v.0;
      block = v.1.0;
      exclusive = v.1.1.0;
      lock = lock_of v.1.1.1.0;
      reclaim = v.1.1.1.1.0;
      state = v.1.1.1.1.1;
    }

abbrev cancel_of : Value nlm4_cancargs → CancelArguments
cancel_of v = record { cookie = v.0; block = v.1.0; exclusive = v.1.1.0; lock = lock_of v.1.1.1 }

abbrev unlock_of : Value nlm4_unlockargs → UnlockArguments
unlock_of v = record { cookie = v.0; lock = lock_of v.1 }

abbrev status_of : ℕ → NlmStatus
status_of zero = status.Granted
status_of (suc zero) = status.Denied
status_of (suc (suc zero)) = status.DeniedNoLocks
status_of (suc (suc (suc zero))) = status.Blocked
status_of (suc (suc (suc (suc zero)))) = status.DeniedGracePeriod
status_of (suc (suc (suc (suc (suc zero))))) = status.Deadlock
status_of (suc (suc (suc (suc (suc (suc zero)))))) = status.ReadOnly
status_of (suc (suc (suc (suc (suc (suc (suc zero))))))) = status.StaleHandle
status_of (suc (suc (suc (suc (suc (suc (suc (suc zero)))))))) = status.FileTooBig
status_of (suc (suc (suc (suc (suc (suc (suc (suc (suc _))))))))) = status.Failed

status_again : (x : NlmStatus) → status_of (nlm_status_number x) ≡ x
status_again status.Granted = refl
status_again status.Denied = refl
status_again status.DeniedNoLocks = refl
status_again status.Blocked = refl
status_again status.DeniedGracePeriod = refl
status_again status.Deadlock = refl
status_again status.ReadOnly = refl
status_again status.StaleHandle = refl
status_again status.FileTooBig = refl
status_again status.Failed = refl

abbrev result_of : Value nlm4_res → NlmResult
result_of v = record { cookie = v.0; status = status_of v.1 }

result_again : (r : NlmResult) → result_of (result_value r) ≡ r
result_again r = rw (status_again r.status) refl

abbrev test_status_at : (status : ℕ) → Value (test_arm status) → TestStatus
test_status_at zero v = tested.Granted
test_status_at (suc zero) v = tested.Denied (holder_of v)
test_status_at (suc (suc zero)) v = tested.DeniedNoLocks
test_status_at (suc (suc (suc zero))) v = tested.Blocked
test_status_at (suc (suc (suc (suc zero)))) v = tested.DeniedGracePeriod
test_status_at (suc (suc (suc (suc (suc zero))))) v = tested.Deadlock
test_status_at (suc (suc (suc (suc (suc (suc zero)))))) v = tested.ReadOnly
test_status_at (suc (suc (suc (suc (suc (suc (suc zero))))))) v = tested.StaleHandle
test_status_at (suc (suc (suc (suc (suc (suc (suc (suc zero)))))))) v = tested.FileTooBig
test_status_at (suc (suc (suc (suc (suc (suc (suc (suc (suc zero))))))))) v = tested.Failed
test_status_at (suc (suc (suc (suc (suc (suc (suc (suc (suc (suc _)))))))))) v = tested.Failed

abbrev test_status_of : Value nlm4_testrply → TestStatus
test_status_of v = test_status_at v.0 v.1

test_status_again : (s : TestStatus) → test_status_of (test_status_value s) ≡ s
test_status_again tested.Granted = refl
test_status_again (tested.Denied holder) = refl
test_status_again tested.DeniedNoLocks = refl
test_status_again tested.Blocked = refl
test_status_again tested.DeniedGracePeriod = refl
test_status_again tested.Deadlock = refl
test_status_again tested.ReadOnly = refl
test_status_again tested.StaleHandle = refl
test_status_again tested.FileTooBig = refl
test_status_again tested.Failed = refl

abbrev test_result_of : Value nlm4_testres → TestResult
test_result_of v = record { cookie = v.0; status = test_status_of v.1 }

test_result_again : (r : TestResult) → test_result_of (test_result_value r) ≡ r
test_result_again r = rw (test_status_again r.status) refl

abbrev mode_of : ℕ → ShareMode
mode_of zero = mode.DenyNone
mode_of (suc zero) = mode.DenyRead
mode_of (suc (suc zero)) = mode.DenyWrite
mode_of (suc (suc (suc _))) = mode.DenyReadWrite

mode_again : (x : ShareMode) → mode_of (mode_number x) ≡ x
mode_again mode.DenyNone = refl
mode_again mode.DenyRead = refl
mode_again mode.DenyWrite = refl
mode_again mode.DenyReadWrite = refl

abbrev access_of : ℕ → ShareAccess
access_of zero = access.Neither
access_of (suc zero) = access.Read
access_of (suc (suc zero)) = access.Write
access_of (suc (suc (suc _))) = access.ReadWrite

access_again : (x : ShareAccess) → access_of (access_number x) ≡ x
access_again access.Neither = refl
access_again access.Read = refl
access_again access.Write = refl
access_again access.ReadWrite = refl

abbrev share_of : Value nlm4_share → NlmShare
share_of v =
    record { caller_name = v.0; file = v.1.0; owner = v.1.1.0; mode = mode_of v.1.1.1.0; access = access_of v.1.1.1.1 }

share_again : (s : NlmShare) → share_of (share_value s) ≡ s
share_again s = rw (mode_again s.mode, access_again s.access) refl

abbrev share_arguments_of : Value nlm4_shareargs → ShareArguments
share_arguments_of v = record { cookie = v.0; share = share_of v.1.0; reclaim = v.1.1 }

share_arguments_again : (a : ShareArguments) → share_arguments_of (share_arguments_value a) ≡ a
share_arguments_again a = rw (share_again a.share) refl

abbrev free_all_of : Value nlm4_notify → FreeAllArguments
free_all_of v = record { name = v.0; state = v.1 }

-- each procedure's call, made of the value of its arguments
makers : Makers NlmCall nlm_arguments
makers =
    (λ _. Null) & (λ v. Test (test_of v)) & (λ v. Lock (lock_arguments_of v)) & (λ v. Cancel (cancel_of v)) &
    (λ v. Unlock (unlock_of v)) & (λ v. Granted (test_of v)) & (λ v. TestMsg (test_of v)) &
    (λ v. LockMsg (lock_arguments_of v)) & (λ v. CancelMsg (cancel_of v)) & (λ v. UnlockMsg (unlock_of v)) &
    (λ v. GrantedMsg (test_of v)) & (λ v. TestRes (test_result_of v)) & (λ v. LockRes (result_of v)) &
    (λ v. CancelRes (result_of v)) & (λ v. UnlockRes (result_of v)) & (λ v. GrantedRes (result_of v)) &
    (λ _. Null) & (λ _. Null) & (λ _. Null) & (λ _. Null) & (λ v. Share (share_arguments_of v)) &
    (λ v. Unshare (share_arguments_of v)) & (λ v. NmLock (lock_arguments_of v)) & (λ v. FreeAll (free_all_of v)) & tt

call_of : (n : ℕ) → Value (type_at nlm_arguments n) → NlmCall
call_of n value = made Null nlm_arguments makers n value

made_again : (call : NlmCall) → call_of (nlm_procedure_of call) (nlm_arguments_of call) ≡ call
unfolding call_of makers
made_again Null = refl
made_again (Test a) = refl
made_again (Lock a) = refl
made_again (Cancel a) = refl
made_again (Unlock a) = refl
made_again (Granted a) = refl
made_again (TestMsg a) = refl
made_again (LockMsg a) = refl
made_again (CancelMsg a) = refl
made_again (UnlockMsg a) = refl
made_again (GrantedMsg a) = refl
made_again (TestRes a) = ap TestRes (test_result_again a)
made_again (LockRes a) = ap LockRes (result_again a)
made_again (CancelRes a) = ap CancelRes (result_again a)
made_again (UnlockRes a) = ap UnlockRes (result_again a)
made_again (GrantedRes a) = ap GrantedRes (result_again a)
made_again (Share a) = ap Share (share_arguments_again a)
made_again (Unshare a) = ap Unshare (share_arguments_again a)
made_again (NmLock a) = refl
made_again (FreeAll a) = refl

pub nlm_spells_one_call : SpellsOneCall nlm_procedure_of SpellsNlmArguments
nlm_spells_one_call = spells_one_call nlm_arguments nlm_procedure_of nlm_arguments_of call_of made_again
