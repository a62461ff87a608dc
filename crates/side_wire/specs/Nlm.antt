-- Which bytes spell the arguments and results of NLM version 4 (RFC 1813, appendix II).
-- A procedure has one line in each of `nlm_arguments`, `nlm_procedure_of`, `nlm_arguments_of`, `nlm_result_of` and
-- `HasNlmForm`.
use Rattle.std.specs.Prelude.{◌≢◌, ℕ, ◌<◌, ◌≤◌, List, [], ◌∷◌, length, Result}
use Rattle.nfs_xdr.specs.declared.XdrError.{XdrError}
use Rattle.nfs_xdr.specs.Types.{Xdr, Void, Value}
use Rattle.nfs_xdr.specs.Writing.{write}
use Rattle.side_wire.specs.NlmTypes.{nlm4_testargs, nlm4_lockargs, nlm4_cancargs, nlm4_unlockargs, nlm4_testres}
use Rattle.side_wire.specs.NlmTypes.{nlm4_res, nlm4_shareres, nlm4_shareargs, nlm4_notify, test_value}
use Rattle.side_wire.specs.NlmTypes.{lock_arguments_value, cancel_value, unlock_value, test_result_value}
use Rattle.side_wire.specs.NlmTypes.{result_value, share_result_value, share_arguments_value, free_all_value}
use Rattle.nfs_xdr.specs.Programs.{type_at, SpellsCall, ReadsCall}
use Rattle.side_wire.specs.declared.nlm.NlmCall.{NlmCall}
use Rattle.side_wire.specs.declared.nlm.NlmCall.TheVariants as call
use Rattle.side_wire.specs.declared.nlm.NlmReply.{NlmReply}
use Rattle.side_wire.specs.declared.nlm.NlmReply.TheVariants as reply
use Rattle.side_wire.specs.declared.nlm.NlmResult.{NlmResult}
use Rattle.side_wire.specs.declared.nlm.TestResult.{TestResult}
use Rattle.side_wire.specs.declared.nlm.TestStatus.{TestStatus}
use Rattle.side_wire.specs.declared.nlm.TestStatus.TheVariants.{Denied}

-- the arguments of each procedure, in the order of their numbers (RFC 1813, 6.2)
abbrev pub nlm_arguments : List Xdr
nlm_arguments =
    -- 0 NULL
    Void
    -- 1 TEST
    ∷ nlm4_testargs
    -- 2 LOCK
    ∷ nlm4_lockargs
    -- 3 CANCEL
    ∷ nlm4_cancargs
    -- 4 UNLOCK
    ∷ nlm4_unlockargs
    -- 5 GRANTED
    ∷ nlm4_testargs
    -- 6 TEST_MSG
    ∷ nlm4_testargs
    -- 7 LOCK_MSG
    ∷ nlm4_lockargs
    -- 8 CANCEL_MSG
    ∷ nlm4_cancargs
    -- 9 UNLOCK_MSG
    ∷ nlm4_unlockargs
    -- 10 GRANTED_MSG
    ∷ nlm4_testargs
    -- 11 TEST_RES
    ∷ nlm4_testres
    -- 12 LOCK_RES
    ∷ nlm4_res
    -- 13 CANCEL_RES
    ∷ nlm4_res
    -- 14 UNLOCK_RES
    ∷ nlm4_res
    -- 15 GRANTED_RES
    ∷ nlm4_res
    -- 16 to 19 are no procedures
    ∷ Void ∷ Void ∷ Void ∷ Void
    -- 20 SHARE
    ∷ nlm4_shareargs
    -- 21 UNSHARE
    ∷ nlm4_shareargs
    -- 22 NM_LOCK
    ∷ nlm4_lockargs
    -- 23 FREE_ALL
    ∷ nlm4_notify ∷ []

-- NLM has a procedure of this number
abbrev pub IsNlmProcedure : ℕ → Type 0
IsNlmProcedure n = (n < length nlm_arguments) × (n ≢ 16) × (n ≢ 17) × (n ≢ 18) × (n ≢ 19)

-- the number of a call's procedure
abbrev pub nlm_procedure_of : NlmCall → ℕ
nlm_procedure_of call.Null = 0
nlm_procedure_of (call.Test a) = 1
nlm_procedure_of (call.Lock a) = 2
nlm_procedure_of (call.Cancel a) = 3
nlm_procedure_of (call.Unlock a) = 4
nlm_procedure_of (call.Granted a) = 5
nlm_procedure_of (call.TestMsg a) = 6
nlm_procedure_of (call.LockMsg a) = 7
nlm_procedure_of (call.CancelMsg a) = 8
nlm_procedure_of (call.UnlockMsg a) = 9
nlm_procedure_of (call.GrantedMsg a) = 10
nlm_procedure_of (call.TestRes r) = 11
nlm_procedure_of (call.LockRes r) = 12
nlm_procedure_of (call.CancelRes r) = 13
nlm_procedure_of (call.UnlockRes r) = 14
nlm_procedure_of (call.GrantedRes r) = 15
nlm_procedure_of (call.Share a) = 20
nlm_procedure_of (call.Unshare a) = 21
nlm_procedure_of (call.NmLock a) = 22
nlm_procedure_of (call.FreeAll a) = 23

-- the value of a call's arguments
abbrev pub nlm_arguments_of : (c : NlmCall) → Value (type_at nlm_arguments (nlm_procedure_of c))
nlm_arguments_of call.Null = tt
nlm_arguments_of (call.Test a) = test_value a
nlm_arguments_of (call.Lock a) = lock_arguments_value a
nlm_arguments_of (call.Cancel a) = cancel_value a
nlm_arguments_of (call.Unlock a) = unlock_value a
nlm_arguments_of (call.Granted a) = test_value a
nlm_arguments_of (call.TestMsg a) = test_value a
nlm_arguments_of (call.LockMsg a) = lock_arguments_value a
nlm_arguments_of (call.CancelMsg a) = cancel_value a
nlm_arguments_of (call.UnlockMsg a) = unlock_value a
nlm_arguments_of (call.GrantedMsg a) = test_value a
nlm_arguments_of (call.TestRes r) = test_result_value r
nlm_arguments_of (call.LockRes r) = result_value r
nlm_arguments_of (call.CancelRes r) = result_value r
nlm_arguments_of (call.UnlockRes r) = result_value r
nlm_arguments_of (call.GrantedRes r) = result_value r
nlm_arguments_of (call.Share a) = share_arguments_value a
nlm_arguments_of (call.Unshare a) = share_arguments_value a
nlm_arguments_of (call.NmLock a) = lock_arguments_value a
nlm_arguments_of (call.FreeAll a) = free_all_value a

-- the bytes spell the arguments of the call
abbrev pub SpellsNlmArguments : NlmCall → List ℕ → Type 0
SpellsNlmArguments = SpellsCall nlm_arguments nlm_procedure_of nlm_arguments_of

-- what reading a call answers and leaves
abbrev pub ReadsNlmCall : ℕ → List ℕ → List ℕ → Result NlmCall XdrError → Type 0
ReadsNlmCall = ReadsCall IsNlmProcedure nlm_arguments nlm_procedure_of nlm_arguments_of

-- the type and the value of single results
abbrev pub test_result : TestResult → (t : Xdr) × Value t
test_result r = (nlm4_testres, test_result_value r)

abbrev pub plain_result : NlmResult → (t : Xdr) × Value t
plain_result r = (nlm4_res, result_value r)

abbrev pub share_result : NlmResult → (t : Xdr) × Value t
share_result r = (nlm4_shareres, share_result_value r)

-- the type and the value of a reply's result
abbrev pub nlm_result_of : NlmReply → (t : Xdr) × Value t
nlm_result_of reply.Null = (Void, tt)
nlm_result_of (reply.Test r) = test_result r
nlm_result_of (reply.Lock r) = plain_result r
nlm_result_of (reply.Cancel r) = plain_result r
nlm_result_of (reply.Unlock r) = plain_result r
nlm_result_of (reply.Granted r) = plain_result r
nlm_result_of reply.TestMsg = (Void, tt)
nlm_result_of reply.LockMsg = (Void, tt)
nlm_result_of reply.CancelMsg = (Void, tt)
nlm_result_of reply.UnlockMsg = (Void, tt)
nlm_result_of reply.GrantedMsg = (Void, tt)
nlm_result_of reply.TestRes = (Void, tt)
nlm_result_of reply.LockRes = (Void, tt)
nlm_result_of reply.CancelRes = (Void, tt)
nlm_result_of reply.UnlockRes = (Void, tt)
nlm_result_of reply.GrantedRes = (Void, tt)
nlm_result_of (reply.Share r) = share_result r
nlm_result_of (reply.Unshare r) = share_result r
nlm_result_of (reply.NmLock r) = plain_result r
nlm_result_of reply.FreeAll = (Void, tt)

-- the bytes of a reply's result
abbrev pub nlm_result_bytes : NlmReply → List ℕ
nlm_result_bytes r = write (nlm_result_of r).0 (nlm_result_of r).1

-- an opaque item or a string of this program is within its bound
abbrev pub IsNetobj : List ℕ → Type 0
IsNetobj bytes = length bytes ≤ 1024

-- the same of single results
abbrev pub HasTestStatusForm : TestStatus → Type 0
HasTestStatusForm (Denied holder) = IsNetobj holder.owner
HasTestStatusForm _ = Unit {0}

abbrev pub HasTestResultForm : TestResult → Type 0
HasTestResultForm r = IsNetobj r.cookie × HasTestStatusForm r.status

abbrev pub HasResultForm : NlmResult → Type 0
HasResultForm r = IsNetobj r.cookie

-- a reply whose result has a spelling: its byte strings are within their bounds
abbrev pub HasNlmForm : NlmReply → Type 0
HasNlmForm (reply.Test r) = HasTestResultForm r
HasNlmForm (reply.Lock r) = HasResultForm r
HasNlmForm (reply.Cancel r) = HasResultForm r
HasNlmForm (reply.Unlock r) = HasResultForm r
HasNlmForm (reply.Granted r) = HasResultForm r
HasNlmForm (reply.Share r) = HasResultForm r
HasNlmForm (reply.Unshare r) = HasResultForm r
HasNlmForm (reply.NmLock r) = HasResultForm r
HasNlmForm _ = Unit {0}
