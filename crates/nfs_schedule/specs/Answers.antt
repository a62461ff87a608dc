-- How what came in was answered.
use Rattle.std.specs.Prelude.{◌≡◌, ℕ, List, [], IfSome}
use Rattle.std.specs.Arc.{arc_value}
use Rattle.nfs_machine.specs.Refusal.{refusal_of}
use Rattle.nfs_machine.specs.RpcReplies.{refusal_message}
use Rattle.nfs_machine.specs.Run as machine
use Rattle.nfs_engine.specs.Answers.{answer_bytes}
use Rattle.nfs_engine.specs.Arrivals.{incoming_value}
use Rattle.nfs_engine.specs.Asked.{IsAskedBy}
use Rattle.nfs_engine.specs.declared.asking.Asked.{Asked}
use Rattle.nfs_schedule.specs.declared.answer.Answer.{Answer}
use Rattle.nfs_schedule.specs.declared.answer.RefusalReply.{RefusalReply}
use Rattle.nfs_schedule.specs.declared.answer.Answer.TheVariants.{Executed, Repeated, Refused, Early, Unanswered}

-- what came in
abbrev pub answered : Answer → machine.Arrival
answered (Executed receipt) = incoming_value (arc_value receipt.executed).received
answered (Repeated kept) = kept.received
answered (Refused declined) = incoming_value declined.received
answered (Early faulted) = incoming_value faulted.received
answered (Unanswered received) = incoming_value received

-- the bytes of the reply, if there is one
abbrev pub reply_bytes : Answer → List ℕ
reply_bytes (Executed receipt) = receipt.answer
reply_bytes (Repeated kept) = kept.reply
reply_bytes (Refused declined) = answer_bytes declined.answer
reply_bytes (Early faulted) = answer_bytes faulted.answer
reply_bytes (Unanswered received) = []

-- what came in, which asks this, is refused: the answer is the refusal, or nothing where there was no memory for it
abbrev pub IsRefused : machine.Arrival → Asked → Answer → Type 0
IsRefused received asked (Refused declined) = (incoming_value declined.received ≡ received) ×
    IfSome declined.answer (λ bytes. bytes.items ≡ refusal_message asked.xid (refusal_of asked.call))
IsRefused received asked answer = ⊥

-- the answer is the refusal of what came in asks, or nothing where there was no memory for it
pub record IsDeclined (r : machine.Arrival) (declined : RefusalReply) : Type 0 where
  pub asked : Asked
  pub asks : IsAskedBy r asked
  pub received : incoming_value declined.received ≡ r
  pub answer : IfSome declined.answer
      (λ bytes. bytes.items ≡ refusal_message asked.xid (refusal_of asked.call))

-- it came in, and has no reply
abbrev pub IsUnanswered : machine.Arrival → Answer → Type 0
IsUnanswered received (Unanswered unanswered) = incoming_value unanswered ≡ received
IsUnanswered received answer = ⊥
