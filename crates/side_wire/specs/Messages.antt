-- The calls that the server makes of its own accord: which bytes spell them, and what is read of their answers.
use Rattle.std.specs.Prelude.{◌≡◌, ℕ, true, List, [], ◌++◌}
use Rattle.nfs_xdr.specs.Types.{Xdr, Word, Opaque, Pair, Value, Spells}
use Rattle.nfs_xdr.specs.Reading.{holds_bytes}
use Rattle.nfs_xdr.specs.Writing.{write}
use Rattle.side_wire.specs.Nlm.{nlm_arguments, nlm_procedure_of, nlm_arguments_of, test_result, plain_result}
use Rattle.side_wire.specs.Nlm.{IsNetobj, HasTestResultForm, HasResultForm}
use Rattle.side_wire.specs.NlmTypes.{nlm4_testargs, nlm4_res, test_value, result_value}
use Rattle.nfs_xdr.specs.Programs.{type_at}
use Rattle.side_wire.specs.declared.message.Callback.{Callback}
use Rattle.side_wire.specs.declared.message.Callback.TheVariants.{Granted, GrantedMsg, TestRes, LockRes, CancelRes}
use Rattle.side_wire.specs.declared.message.Callback.TheVariants.{UnlockRes, GrantedRes}
use Rattle.side_wire.specs.declared.message.Message.{Message}
use Rattle.side_wire.specs.declared.message.NlmLock.{NlmLock}
use Rattle.side_wire.specs.declared.nlm.NlmCall.{NlmCall}
use Rattle.side_wire.specs.declared.nlm.NlmCall.TheVariants as call
use Rattle.side_wire.specs.declared.nlm.NlmResult.{NlmResult}
use Rattle.side_wire.specs.declared.nlm.TestArguments.{TestArguments}

-- the call of NLM that a callback is
abbrev pub call_of : Callback → NlmCall
call_of (Granted a) = call.Granted a
call_of (GrantedMsg a) = call.GrantedMsg a
call_of (TestRes r) = call.TestRes r
call_of (LockRes r) = call.LockRes r
call_of (CancelRes r) = call.CancelRes r
call_of (UnlockRes r) = call.UnlockRes r
call_of (GrantedRes r) = call.GrantedRes r

-- opaque_auth (RFC 5531, 8.2): a flavor, and a body of at most 400 bytes
abbrev pub opaque_auth : Xdr
opaque_auth = Pair Word (Opaque 400)

-- AUTH_NONE, 0, whose body has no bytes (RFC 5531, 10.1)
abbrev pub auth_none : Value opaque_auth
auth_none = (0, [])

-- what stands before a call's arguments (rpc_msg and call_body, RFC 5531, 9): xid, mtype, rpcvers, prog, vers,
-- proc, cred, verf
abbrev pub call_header : Xdr
call_header =
    Pair Word (Pair Word (Pair Word (Pair Word (Pair Word (Pair Word (Pair opaque_auth opaque_auth))))))

-- a CALL, 0, of RPC version 2, to NLM, program 100021, version 4
abbrev pub header_value : ℕ → ℕ → Value call_header
header_value xid procedure = (xid, (0, (2, (100021, (4, (procedure, (auth_none, auth_none)))))))

-- the type and the value of a callback's arguments
abbrev pub callback_arguments : Callback → (t : Xdr) × Value t
callback_arguments (Granted a) = (nlm4_testargs, test_value a)
callback_arguments (GrantedMsg a) = (nlm4_testargs, test_value a)
callback_arguments (TestRes r) = test_result r
callback_arguments (LockRes r) = plain_result r
callback_arguments (CancelRes r) = plain_result r
callback_arguments (UnlockRes r) = plain_result r
callback_arguments (GrantedRes r) = plain_result r

-- they are those of the call that it is
abbrev pub CallbacksAreCalls : Type 0
CallbacksAreCalls =
    (c : Callback) → callback_arguments c
    ≡ (type_at nlm_arguments (nlm_procedure_of (call_of c)), nlm_arguments_of (call_of c))

-- the type and the value of a callback with its header
abbrev pub message_of : ℕ → Callback → (t : Xdr) × Value t
message_of xid c = (
  Pair call_header (callback_arguments c).0,
  (header_value xid (nlm_procedure_of (call_of c)), (callback_arguments c).1),
)

-- the bytes of a message's call
abbrev pub message_bytes : ℕ → Message → List ℕ
message_bytes xid message = write (message_of xid message.call).0 (message_of xid message.call).1

-- a lock's byte strings are within their bounds
abbrev pub HasLockForm : NlmLock → Type 0
HasLockForm lock = IsNetobj lock.caller_name × IsNetobj lock.file × IsNetobj lock.owner

abbrev pub HasTestArgumentsForm : TestArguments → Type 0
HasTestArgumentsForm a = IsNetobj a.cookie × HasLockForm a.lock

-- a callback whose arguments have a spelling: their byte strings are within their bounds
abbrev pub HasCallbackForm : Callback → Type 0
HasCallbackForm (Granted a) = HasTestArgumentsForm a
HasCallbackForm (GrantedMsg a) = HasTestArgumentsForm a
HasCallbackForm (TestRes r) = HasTestResultForm r
HasCallbackForm (LockRes r) = HasResultForm r
HasCallbackForm (CancelRes r) = HasResultForm r
HasCallbackForm (UnlockRes r) = HasResultForm r
HasCallbackForm (GrantedRes r) = HasResultForm r

-- the bytes spell the result of GRANTED
abbrev pub SpellsResult : NlmResult → List ℕ → Type 0
SpellsResult r bytes = Spells nlm4_res (result_value r) bytes

-- no front of the bytes spells a result of GRANTED
abbrev pub IsNoResult : List ℕ → Type 0
IsNoResult bytes = (r : NlmResult) (front rest : List ℕ) → bytes ≡ front ++ rest → SpellsResult r front → ⊥

-- a front of the bytes spells a result of GRANTED that holds bytes
abbrev pub ResultHoldsBytes : List ℕ → Type 0
ResultHoldsBytes bytes =
    (value : Value nlm4_res) × (front : List ℕ) × (rest : List ℕ) × (bytes ≡ front ++ rest) ×
    Spells nlm4_res value front × (holds_bytes nlm4_res value ≡ true)
