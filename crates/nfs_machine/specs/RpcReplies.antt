-- How a record is answered where it has a fault, and the messages that answer a call (RFC 5531, 8, 9 and 11).
use Rattle.std.specs.Prelude.{◌≡◌, ℕ, true, List, [], ◌++◌, Ok, Err, ◌⊎◌}
use Rattle.nfs_rpc.specs.Early.{call_of}
use Rattle.nfs_rpc.specs.Messages.{CallHeader, reply_of}
use Rattle.nfs_rpc.specs.Records.{fragment}
use Rattle.nfs_rpc.specs.declared.faults.ReplyHead.TheVariants as answers
use Rattle.nfs_rpc.specs.declared.faults.Early.{Early}
use Rattle.nfs_rpc.specs.declared.faults.Early.TheVariants as early
use Rattle.nfs_rpc.specs.declared.faults.Fault.{Fault}
use Rattle.nfs_rpc.specs.declared.faults.Fault.TheVariants as faults
use Rattle.nfs_wire.specs.Replies.{result_bytes}
use Rattle.side_wire.specs.Mount.{mount_result_bytes}
use Rattle.side_wire.specs.Nlm.{nlm_result_bytes}
use Rattle.nfs_machine.specs.Run.{IsCall}
use Rattle.nfs_machine.specs.declared.calls.Call.{Call}
use Rattle.nfs_machine.specs.declared.calls.Refusal.{Refusal}
use Rattle.nfs_machine.specs.declared.calls.Refusal.TheVariants as refusals
use Rattle.nfs_machine.specs.declared.calls.Reply.{Reply}
use Rattle.nfs_machine.specs.declared.calls.Reply.TheVariants as replies

-- The first fault of a record: its header's, or GARBAGE_ARGS, where its arguments spell no call of the procedure.
abbrev pub FirstFault : List ℕ → Early → Type 0
FirstFault bytes fault =
    (call_of bytes ≡ Err fault)
    ⊎ ((header : CallHeader) × (call_of bytes ≡ Ok header) ×
    ((call : Call) → IsCall header.program header.procedure header.arguments call → ⊥) ×
    (fault ≡ early.Answer header.xid faults.GarbageArguments))

-- the results of a procedure
abbrev pub results_of : Reply → List ℕ
results_of (replies.Nfs reply) = result_bytes reply
results_of (replies.Mount reply) = mount_result_bytes reply
results_of (replies.Nlm reply) = nlm_result_bytes reply
results_of replies.Replaced = []

-- an accepted call with SUCCESS and its results; each reply is one fragment
abbrev pub success_message : (xid : ℕ) → Reply → List ℕ
success_message xid replies.Replaced = []
success_message xid reply = fragment true (reply_of xid answers.Success ++ results_of reply)

-- a call that is denied, or accepted with another status and no results
abbrev pub failure_message : (xid : ℕ) → Fault → List ℕ
failure_message xid fault = fragment true (reply_of xid (answers.Failure fault))

-- a record with a fault; nothing for what is dropped
abbrev pub fault_message : Early → List ℕ
fault_message early.Drop = []
fault_message (early.Answer xid fault) = failure_message xid fault

-- a call that memory is wanting for: a status of its procedure's own, or SYSTEM_ERR
abbrev pub refusal_message : (xid : ℕ) → Refusal → List ℕ
refusal_message xid (refusals.Reply reply) = success_message xid reply
refusal_message xid refusals.SystemError = failure_message xid faults.SystemError
refusal_message xid refusals.Silent = []
