-- What a drive comes to as a whole: what was executed, what is kept and sent, and where all that came in went.
use Rattle.std.specs.Prelude.{◌≡◌, ℕ, ◌+◌, List, [], ◌∷◌, ◌++◌, filter_map, flat_map, length, map}
use Rattle.std.specs.Prelude.{take}
use Rattle.std.specs.Prelude.{IsPermutation, Option, Some, None, Result, Ok, Err}
use Rattle.std.specs.Arc.{arc_value}
use Rattle.std.specs.List.{range_with_len}
use Rattle.nfs_rpc.specs.declared.credentials.Ids.{Ids}
use Rattle.side_wire.specs.declared.message.Message.{Message}
use Rattle.nfs_machine.specs.RpcReplies.{success_message}
use Rattle.nfs_machine.specs.Run.{Arrival, FromHost, NewExports, Record, bytes_in, host_in}
use Rattle.nfs_machine.specs.declared.calls.Call.{Call}
use Rattle.nfs_replies.specs.Kept.ReplyEvent.{Repeated}
use Rattle.nfs_replies.specs.Replies.{IsAfter, RepliesValue}
use Rattle.nfs_engine.specs.Arrivals.{ArrivalValue, received_value, shared_value}
use Rattle.nfs_engine.specs.Asked.{IsAskedBy}
use Rattle.nfs_engine.specs.Repeats.{Keeps, kept_for, origin_in, origin_of}
use Rattle.nfs_engine.specs.declared.journal.Receipt.{Receipt}
use Rattle.nfs_engine.specs.declared.outbox.Posted.{Posted}
use Rattle.nfs_schedule.specs.Answers.{answered}
use Rattle.nfs_schedule.specs.Stops.{received_of}
use Rattle.nfs_schedule.specs.Worlds.{WorldValue, records_of}
use Rattle.nfs_schedule.specs.declared.answer.Answer.{Answer}
use Rattle.nfs_schedule.specs.declared.answer.Answer.TheVariants as answers
use Rattle.nfs_schedule.specs.declared.model.driving.Event.{Event}
use Rattle.nfs_schedule.specs.declared.model.driving.Event.TheVariants.{Arrive, Replace}

-- ---- what was executed
-- the receipt that an answer tells, where its call was executed
abbrev pub receipt_of : Answer → Option Receipt
receipt_of (answers.Executed receipt) = Some receipt
receipt_of answer = None

-- the receipts that answers tell, in their order
abbrev pub receipts_of : List Answer → List Receipt
receipts_of given = filter_map receipt_of given

-- the record of a receipt
abbrev pub recorded : Receipt → Record
recorded receipt = shared_value receipt.executed

-- the records of all eras, the oldest first
abbrev pub all_records : WorldValue → List Record
all_records w = records_of w.eras ++ w.engine.book.records

-- the number of the newest of them
abbrev pub last_number : WorldValue → ℕ
last_number w = w.engine.book.before + length w.engine.book.records

-- the messages that were taken, and those that wait, the oldest first
abbrev pub all_messages : WorldValue → List Message
all_messages w = map (λ (p : Posted). p.message) w.taken ++ w.engine.book.outbox

-- what came in asks this call, and the answer is the reply that is recorded, under the call's xid
pub record IsReplyTo (receipt : Receipt) (call : Call) : Type 0 where
  pub xid : ℕ
  pub ids : Ids
  pub asks : IsAskedBy (answered (answers.Executed receipt)) (record { xid = xid; ids = ids; call = call })
  pub reply : receipt.answer ≡ success_message xid (arc_value receipt.executed).reply

-- ---- the replies that are kept
-- The reply to a call that changes something is kept as it is executed. A repeat has the reply that was kept for it,
-- which comes to the front. No other answer changes them.
abbrev pub KeepsReplies : RepliesValue → Answer → RepliesValue → Type 0
KeepsReplies old (answers.Executed receipt) new = (call : Call) × IsReplyTo receipt call ×
    Keeps (origin_of (answered (answers.Executed receipt)) call) receipt.answer old new
KeepsReplies old (answers.Repeated repeat) new = (kept_for old (origin_in repeat.received) ≡ Some repeat.reply) ×
    IsAfter (Repeated (host_in repeat.received) (bytes_in repeat.received)) old new
KeepsReplies old answer new = new ≡ old

-- the same over answers, one after the other
abbrev pub RepliesFollow : RepliesValue → List Answer → RepliesValue → Type 0
RepliesFollow old [] new = new ≡ old
RepliesFollow old (answer ∷ given) new =
    (mid : RepliesValue) × KeepsReplies old answer mid × RepliesFollow mid given new

-- ---- what came in
-- what an event brings
abbrev pub brought : Event → Option Arrival
brought (Arrive came) = Some (FromHost (received_value came))
brought (Replace exports moment) = Some (NewExports exports moment)
brought event = None

-- what came in and has no answer yet: it waits in the queue, or a worker has its call
abbrev pub unanswered : WorldValue → List Arrival
unanswered w = map (λ (a : ArrivalValue). a.received) w.queue ++ filter_map received_of w.workers

-- the events whose steps were made: all, or those before the one that was refused its memory
abbrev pub made : {E : Type 0} → List Event → Result Unit (ℕ × E) → List Event
made events (Ok done) = events
made events (Err refused) = take refused.0 events

-- ---- the whole
-- What events came to, with the answers that were given in them: over all eras, the new records are those of the calls
-- that were executed, in the order of their answers, each once, and their numbers rise by one; the replies that are
-- kept and the messages follow from them; and all that had no answer and that came in is answered, each once, or has
-- none yet.
pub record Accounts (old new : WorldValue) (events : List Event) (given : List Answer) : Type 0 where
  pub records : all_records new ≡ all_records old ++ map recorded (receipts_of given)
  pub numbers : map (λ (r : Receipt). r.number) (receipts_of given) ≡
      range_with_len (last_number old + 1) (length (receipts_of given))
  pub last : last_number new ≡ last_number old + length (receipts_of given)
  pub replies : RepliesFollow old.engine.book.replies given new.engine.book.replies
  pub messages : all_messages new ≡
      all_messages old ++ flat_map (λ (r : Receipt). (recorded r).messages) (receipts_of given)
  pub arrivals : IsPermutation (unanswered old ++ filter_map brought events) (unanswered new ++ map answered given)

-- the answers that were given are put behind the others, and this is what the events came to
pub record IsAccounted (old new : WorldValue) (events : List Event) (said later : List Answer) : Type 0 where
  pub given : List Answer
  pub adds : later ≡ said ++ given
  pub accounts : Accounts old new events given
