-- How a record that came in is answered.
use Rattle.std.specs.Prelude.{◌≡◌, ◌<◌, ◌⊎◌, ℕ, List, [], ◌∷◌, ◌++◌, IsSome, Result, Ok}
use Rattle.nfs_machine.specs.Exports.{ExportValue}
use Rattle.nfs_machine.specs.Run.{Arrival, FromHost, NewExports}
use Rattle.nfs_machine.specs.declared.moment.Moment.{Moment}
use Rattle.nfs_engine.specs.Answers.{answer_of}
use Rattle.nfs_engine.specs.Arrivals.{IsFaultedBy, incoming_value}
use Rattle.nfs_engine.specs.declared.admission.Faulted.{Faulted}
use Rattle.nfs_engine.specs.declared.journal.Receipt.{Receipt}
use Rattle.nfs_schedule.specs.declared.answer.Answer.{Answer}
use Rattle.nfs_schedule.specs.declared.answer.Answer.TheVariants as answers
use Rattle.nfs_schedule.specs.Answers.{IsDeclined}
use Rattle.nfs_pool.specs.Seats.{IsReceiptOf, SeatValue}
use Rattle.nfs_pool.specs.declared.sent.PoolError.{PoolError}
use Rattle.nfs_pool.specs.declared.sent.PoolError.TheVariants.{EraFull, Memory}
use Rattle.nfs_pool.specs.declared.sent.Sent.{Sent}
use Rattle.nfs_pool.specs.declared.sent.Sent.TheVariants.{Early, Executed, Refused, Repeated, Unanswered}
use Rattle.nfs_server.specs.declared.network.dispatcher.Closed.{Closed}

-- ---- what is told of what came in
-- the last receipt of the seat is of what came in, and its number above this one
pub record HasReceipt (last_number : ℕ) (r : Arrival) (s : SeatValue) : Type 0 where
  pub before : List Receipt
  pub receipt : Receipt
  pub last : s.receipts ≡ before ++ receipt ∷ []
  pub of_call : IsReceiptOf r receipt
  pub above : last_number < receipt.number

-- these exports were put in the place of those before at some moment: a seat has the receipt of that
pub record AreExecuted (last_number : ℕ) (exports : List ExportValue) : Type 0 where
  pub moment : Moment
  pub seat : SeatValue
  pub has : HasReceipt last_number (NewExports exports moment) seat

-- what came in has this fault
abbrev pub IsFaulted : Arrival → Faulted → Type 0
IsFaulted r faulted = (incoming_value faulted.received ≡ r) × IsFaultedBy r (answer_of faulted.answer)

-- Where the call was executed the seat has its receipt, above this number. Else what came in has the reply that is kept
-- for it, is refused, has a fault, or has no reply.
abbrev pub IsTold : (last_number : ℕ) → Arrival → SeatValue → Sent → Type 0
IsTold n r s Executed = HasReceipt n r s
IsTold n r s (Repeated kept) = kept.received ≡ r
IsTold n r s (Refused declined) = IsDeclined r declined
IsTold n r s (Early faulted) = IsFaulted r faulted
IsTold n r s (Unanswered received) = incoming_value received ≡ r

-- the seat has the receipts that it had, or these and one more
abbrev pub GainsAtMostOne : (old new : SeatValue) → Type 0
GainsAtMostOne old new =
    (new.receipts ≡ old.receipts) ⊎ ((receipt : Receipt) × (new.receipts ≡ old.receipts ++ receipt ∷ []))

-- it was not taken in, and is handed back
abbrev pub HandsBack : Arrival → PoolError → Type 0
HandsBack r (Memory back) = back.received ≡ r
HandsBack r (EraFull back) = back.received ≡ r

-- ---- the answer
-- The answer is to what came in: the reply in the receipt of its call, whose number is above this one; the reply that
-- is kept for it; its refusal; the answer of its fault; or none.
abbrev pub IsAnswerTo : (last_number : ℕ) → Arrival → Answer → Type 0
IsAnswerTo n r (answers.Executed receipt) = IsReceiptOf r receipt × (n < receipt.number)
IsAnswerTo n r (answers.Repeated kept) = kept.received ≡ r
IsAnswerTo n r (answers.Refused declined) = IsDeclined r declined × IsSome declined.answer
IsAnswerTo n r (answers.Early faulted) = IsFaulted r faulted
IsAnswerTo n r (answers.Unanswered received) = incoming_value received ≡ r

-- the answer is to the record that came from the host at some moment
pub record AnswersRecord (last_number : ℕ) (host bytes : List ℕ) (answer : Answer) : Type 0 where
  pub moment : Moment
  pub answers : IsAnswerTo last_number (FromHost (record { host = host; bytes = bytes; moment = moment })) answer

-- the number of the last receipt, behind an answer
abbrev pub number_after : ℕ → Result Answer Closed → ℕ
number_after n (Ok (answers.Executed receipt)) = receipt.number
number_after n _ = n
