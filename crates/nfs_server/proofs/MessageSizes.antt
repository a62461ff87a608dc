-- How many bytes a message has at most.
use Rattle.std.proofs.Common.{◌≡◌, ◌+◌, ◌≤◌, ◌<◌, ◌++◌, ℕ, List, length, length-append, ap, arith}
use Rattle.std.specs.Int.{w32, to_be_bytes}
use Rattle.std.proofs.lemmas.List.{length-replicate}
use Rattle.nfs_xdr.specs.Types.{padding}
use Rattle.nfs_xdr.specs.Writing.{appended, with_hyper, with_padded, with_word, write}
use Rattle.nfs_xdr.proofs.SpellingLaws.{writing_appends}
use Rattle.side_wire.specs.Messages.{HasCallbackForm, HasTestArgumentsForm, callback_arguments, call_header, call_of}
use Rattle.side_wire.specs.Messages.{header_value, message_bytes}
use Rattle.side_wire.specs.Nlm.{nlm_procedure_of}
use Rattle.side_wire.specs.NlmTypes.{nlm4_testargs, test_value}
use Rattle.side_wire.specs.declared.message.Callback.{Callback}
use Rattle.side_wire.specs.declared.message.Callback.TheVariants.{CancelRes, Granted, GrantedMsg, GrantedRes, LockRes}
use Rattle.side_wire.specs.declared.message.Callback.TheVariants.{TestRes, UnlockRes}
use Rattle.side_wire.specs.declared.message.Message.{Message}
use Rattle.side_wire.specs.declared.nlm.NlmReply.TheVariants as reply
use Rattle.side_wire.specs.declared.nlm.TestArguments.{TestArguments}
use Rattle.nfs_engine.proofs.NlmSizes.{nlm-size}

granted-size : (a : TestArguments) → HasTestArgumentsForm a → length (write nlm4_testargs (test_value a)) ≤ 70000
unfolding appended with_word with_hyper with_padded
granted-size a form = simp (length-append, length-replicate) (
    let cookie : padding (length a.cookie) ≤ 3 = omega arith in
    let caller : padding (length a.lock.caller_name) ≤ 3 = omega arith in
    let file : padding (length a.lock.file) ≤ 3 = omega arith in
    let owner : padding (length a.lock.owner) ≤ 3 = omega arith in
    omega (arith, form.0, form.1.0, form.1.1, form.1.2, cookie, caller, file, owner)
    )

arguments-size : (c : Callback) → HasCallbackForm c →
    length (write (callback_arguments c).0 (callback_arguments c).1) ≤ 70000
arguments-size (Granted a) form = granted-size a form
arguments-size (GrantedMsg a) form = granted-size a form
arguments-size (TestRes r) form = nlm-size (reply.Test r) form
arguments-size (LockRes r) form = nlm-size (reply.Lock r) form
arguments-size (CancelRes r) form = nlm-size (reply.Cancel r) form
arguments-size (UnlockRes r) form = nlm-size (reply.Unlock r) form
arguments-size (GrantedRes r) form = nlm-size (reply.Granted r) form

header-size : (xid procedure : ℕ) → length (write call_header (header_value xid procedure)) ≤ 40
unfolding appended with_word with_padded
header-size xid procedure = simp length-append (omega arith)

message-size : (xid : ℕ) (m : Message) → HasCallbackForm m.call → length (message_bytes xid m) ≤ 80000
unfolding appended
message-size xid m form =
    let header = write call_header (header_value xid (nlm_procedure_of (call_of m.call))) in
    let whole = writing_appends (callback_arguments m.call).0 (callback_arguments m.call).1 header in
    omega (
      arith,
      arguments-size m.call form,
      header-size xid (nlm_procedure_of (call_of m.call)),
      simp length-append at (ap length whole),
    )

-- behind the room for a mark it fits into one fragment
pub marked-size : (start whole : List ℕ) (xid : ℕ) (m : Message) → HasCallbackForm m.call → start ≡ to_be_bytes w32 0 →
    whole ≡ start ++ message_bytes xid m → length whole < 2147483652
marked-size start whole xid m form s w =
    omega (arith, message-size xid m form, ap length s, simp length-append at (ap length w))
