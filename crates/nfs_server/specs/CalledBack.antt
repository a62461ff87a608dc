-- Messages that are sent to hosts, and what becomes of what these answer (RFC 5531, 9; RFC 1813, appendix II).
use Rattle.std.specs.Prelude.{◌≡◌, ◌≢◌, ◌^◌, ◌%◌, ℕ, List, [], Option, Some, None, Result, Ok, Err, true}
use Rattle.std.specs.Arc.{arc_value}
use Rattle.nfs_rpc.specs.Records.{fragment}
use Rattle.nfs_xdr.specs.Programs.{IsFrontedBy}
use Rattle.nfs_xdr.specs.Types.{Xdr, Word, Pair, Value, Spells}
use Rattle.side_wire.specs.Messages.{message_bytes, opaque_auth}
use Rattle.side_wire.specs.NlmTypes.{nlm4_res, result_value}
use Rattle.side_wire.specs.declared.message.Callback.{Callback}
use Rattle.side_wire.specs.declared.message.Callback.TheVariants.{Granted, GrantedRes}
use Rattle.side_wire.specs.declared.message.Message.{Message}
use Rattle.side_wire.specs.declared.nlm.NlmResult.{NlmResult}
use Rattle.nfs_schedule.specs.declared.answer.Answer.{Answer}
use Rattle.nfs_schedule.specs.declared.answer.Answer.TheVariants.{Executed, Refused}
use Rattle.nfs_server.specs.AnswersTo.{AnswersRecord}
use Rattle.nfs_server.specs.declared.callbacks.CallbackAddress.{CallbackAddress}
use Rattle.nfs_server.specs.declared.network.dispatcher.Closed.{Closed}
use Rattle.nfs_server.specs.declared.network.messages.Letter.{Letter}

-- the transaction id of the message with this number: its low 32 bits
abbrev pub xid_of : ℕ → ℕ
xid_of number = number % 2 ^ 32

-- what stands before the results of a reply that is accepted: xid, mtype, reply_stat, verf, accept_stat
abbrev pub reply_header : Xdr
reply_header = Pair Word (Pair Word (Pair Word (Pair opaque_auth Word)))

-- a REPLY, 1, that is MSG_ACCEPTED, 0, and SUCCESS, 0
abbrev pub done_value : ℕ → Value opaque_auth → Value reply_header
done_value xid verifier = (xid, (1, (0, (verifier, 0))))

-- the message with this number, as one fragment, for where its host is called back
pub record IsLetter (callback : CallbackAddress) (number : ℕ) (message : Message) (letter : Letter) : Type 0 where
  pub address : letter.callback.now ≡ callback
  pub bytes : letter.bytes.items ≡ fragment true (message_bytes (xid_of number) message)

-- what is sent of a message: one letter, or nothing where its host is not called back
abbrev pub IsAddressed : Option CallbackAddress → (number : ℕ) → Message → Option Letter → Type 0
IsAddressed (Some callback) number message (Some letter) = IsLetter callback number message letter
IsAddressed None number message None = Unit {0}
IsAddressed _ _ _ _ = ⊥

-- the bytes spell a reply to GRANTED that is accepted and done, with this result
abbrev pub SpellsAnswer : ℕ → NlmResult → List ℕ → Type 0
SpellsAnswer xid granted bytes = (verifier : Value opaque_auth)
    × Spells (Pair reply_header nlm4_res) (done_value xid verifier, result_value granted) bytes

-- no front of the bytes is such a reply
abbrev pub IsNoAnswer : ℕ → List ℕ → Type 0
IsNoAnswer xid bytes = (granted : NlmResult) → IsFrontedBy (SpellsAnswer xid) granted bytes → ⊥

-- GRANTED is a call that has a reply; all other messages go one way
abbrev pub IsGranted : Callback → Type 0
IsGranted (Granted arguments) = Unit {0}
IsGranted _ = ⊥

-- a call may have put a message that waits now: it did, or how it ended is not told
abbrev pub MayHavePosted : Result Answer Closed → Type 0
MayHavePosted (Ok (Executed receipt)) = (arc_value receipt.executed).messages.items ≢ []
MayHavePosted (Ok answer) = ⊥
MayHavePosted (Err closed) = Unit {0}

-- What a host's answer to a message comes in as: an answer to GRANTED as the call GRANTED_RES of its result, under the
-- message's transaction id and from its host. Any other comes in as nothing.
abbrev pub ComesIn : (number : ℕ) → Message → (answer : List ℕ) → Option (List ℕ) → Type 0
ComesIn number message answer (Some call) = IsGranted message.call
    × ((granted : NlmResult) × IsFrontedBy (SpellsAnswer (xid_of number)) granted answer
    × (call ≡ message_bytes (xid_of number) (record { host = message.host; call = GrantedRes granted })))
ComesIn number message answer None = IsGranted message.call → IsNoAnswer (xid_of number) answer

abbrev pub IsUnrefused : Answer → Type 0
IsUnrefused (Refused declined) = ⊥
IsUnrefused _ = Unit {0}

-- A host's answer to a message was taken in: as a call, which was answered and not refused, or as nothing.
abbrev pub IsTakenIn : (last_number : ℕ) (host : List ℕ) (number : ℕ) → Message → (answer : List ℕ) → Option Answer →
    Type 0
IsTakenIn last_number host number message answer (Some told) = (call : List ℕ)
    × ComesIn number message answer (Some call) × AnswersRecord last_number host call told × IsUnrefused told
IsTakenIn last_number host number message answer None = ComesIn number message answer None
