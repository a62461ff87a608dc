-- What came in is told by its seat, and answered so.
use Rattle.std.proofs.Common.{◌≡◌, ℕ, ◌-◌, ◌≤◌, List, [], ◌∷◌, ◌++◌, length, length-append, slice_get, Option, Some}
use Rattle.std.proofs.Common.{Result, Ok, Err, IfOk, get_or, inl, inr, refl, sym, ◌∙◌, ap, subst, arith}
use Rattle.std.proofs.Math.Seq.{get_or-append_seam}
use Rattle.std.proofs.lemmas.Option.{get_or_from_slice_get}
use Rattle.nfs_machine.specs.Run.{Arrival, FromHost}
use Rattle.nfs_machine.specs.declared.moment.Moment.{Moment}
use Rattle.nfs_engine.specs.Arrivals.{ArrivalValue, IsArrival, IsReading, shared_value}
use Rattle.nfs_engine.specs.declared.arrival.Reading.{Reading}
use Rattle.nfs_engine.specs.declared.journal.Receipt.{Receipt}
use Rattle.nfs_schedule.specs.declared.answer.Answer.{Answer}
use Rattle.nfs_schedule.specs.declared.answer.Answer.TheVariants as answers
use Rattle.nfs_schedule.specs.declared.answer.RefusalReply.{RefusalReply}
use Rattle.nfs_schedule.specs.Answers.{IsDeclined}
use Rattle.nfs_pool.specs.Seats.{Gains, IsReceiptOf, SeatValue, Tells}
use Rattle.nfs_pool.specs.declared.sent.PoolError.{PoolError}
use Rattle.nfs_pool.specs.declared.sent.PoolError.TheVariants.{EraFull, Memory}
use Rattle.nfs_pool.specs.declared.sent.Sent.{Sent}
use Rattle.nfs_pool.specs.declared.sent.Sent.TheVariants.{Early, Executed, Refused, Repeated, Unanswered}
use Rattle.nfs_server.specs.AnswersTo.{AnswersRecord, GainsAtMostOne, HasReceipt, IsAnswerTo, IsTold}
use Rattle.nfs_server.specs.declared.network.dispatcher.Closed.{Closed}

-- a seat's last receipt is of what came in
receipt_told : (n : ℕ) (a : ArrivalValue) (old new : SeatValue) → n ≤ old.last → Gains a old new →
    HasReceipt n a.received new
receipt_told n a old new low gains = record {
  before = old.receipts;
  receipt = gains.receipt;
  last = gains.more;
  of_call = gains.of_call;
  above = omega (arith, low, gains.past);
}

-- as the pool tells it
pub pool_told : (n : ℕ) (a : ArrivalValue) → IsArrival a → (old new : SeatValue) → n ≤ old.last → (sent : Sent) →
    Tells a old new (Ok sent) → IsTold n a.received new sent
pool_told n a is old new low Executed t = receipt_told n a old new low t
pool_told n a is old new low (Repeated kept) t = t.0
pool_told n a is old new low (Refused declined) t = t.0
pool_told n a is old new low (Early faulted) t =
    (t.1, subst (λ (x : Reading). IsReading a.received x) t.0 is.reading)
pool_told n a is old new low (Unanswered received) t = t.0

-- the seat has at most one receipt more
pub pool_once : (a : ArrivalValue) (old new : SeatValue) (x : Result Sent PoolError) → Tells a old new x →
    GainsAtMostOne old new
pool_once a old new (Ok Executed) t = inr (t.receipt, t.more)
pool_once a old new (Ok (Repeated kept)) t = inl (ap (λ (s : SeatValue). s.receipts) t.1)
pool_once a old new (Ok (Refused declined)) t = inl (ap (λ (s : SeatValue). s.receipts) t.1)
pool_once a old new (Ok (Early fault)) t = inl (ap (λ (s : SeatValue). s.receipts) t.2)
pool_once a old new (Ok (Unanswered received)) t = inl (ap (λ (s : SeatValue). s.receipts) t.1)
pool_once a old new (Err (Memory back)) t = inl (ap (λ (s : SeatValue). s.receipts) t.1)
pool_once a old new (Err (EraFull back)) t = inl (ap (λ (s : SeatValue). s.receipts) t.1)

-- one more owner of a receipt has the same
pub receipt_shared : (r : Arrival) (own shared : Receipt) → IsReceiptOf r own →
    shared_value shared.executed ≡ shared_value own.executed → shared.answer ≡ own.answer → IsReceiptOf r shared
receipt_shared r own shared is executed answer = record {
  finished = is.finished;
  received = is.received;
  called = is.called;
  made = record {
    number_is = refl;
    executed = executed ∙ is.made.executed;
    answer = answer ∙ is.made.answer;
  };
}

last_of : (before : List Receipt) (x own : Receipt) (all : List Receipt) → all ≡ before ++ x ∷ [] →
    slice_get all (length all - 1) ≡ Some own → x ≡ own
last_of before x own all is there =
    let place : length all - 1 ≡ length before = omega (arith, ap length is, length-append before (x ∷ [])) in
    sym (get_or-append_seam before x [] own) ∙ ap (λ (l : List Receipt). get_or l (length before) own) (sym is)
    ∙ ap (λ (n : ℕ). get_or all n own) (sym place)
    ∙ get_or_from_slice_get all (length all - 1) own own there

-- the last receipt of the seat, shared, is the answer
pub receipt_answers : (n : ℕ) (r : Arrival) (s : SeatValue) → HasReceipt n r s → (list : List Receipt)
    → list ≡ s.receipts →
    (found : Option Receipt) → found ≡ slice_get list (length list - 1) → (own : Receipt) → found ≡ Some own →
    (shared : Receipt) → shared.number ≡ own.number → shared_value shared.executed ≡ shared_value own.executed →
    shared.answer ≡ own.answer → IsAnswerTo n r (answers.Executed shared)
receipt_answers n r s has list same found there own some shared number executed answer =
    let is = last_of has.before has.receipt own list (same ∙ has.last) (sym there ∙ some) in
    let number_is : has.receipt.number ≡ own.number = ap (λ (x : Receipt). x.number) is in (
      receipt_shared r own shared (subst (λ (x : Receipt). IsReceiptOf r x) is has.of_call) executed answer,
      omega (arith, has.above, number_is, number),
    )

-- an answer to what came in is one to the record that it is
pub record_answered : (n : ℕ) (host bytes : List ℕ) (moment : Moment) (r : Arrival) →
    r ≡ FromHost (record { host = host; bytes = bytes; moment = moment }) → (x : Result Answer Closed) →
    IfOk x (IsAnswerTo n r) → IfOk x (AnswersRecord n host bytes)
record_answered n host bytes moment r same (Ok answer) is =
    record { moment = moment; answers = subst (λ (a : Arrival). IsAnswerTo n a answer) same is }
record_answered n host bytes moment r same (Err closed) is = tt

-- ---- refusals
pub told_along : (n : ℕ) (r other : Arrival) → r ≡ other → (s : SeatValue) (sent : Sent) → IsTold n r s sent →
    IsTold n other s sent
told_along n r other same s sent = subst (λ (x : Arrival). IsTold n x s sent) same

pub refused_told : (n : ℕ) (r : Arrival) (s : SeatValue) (declined : RefusalReply) → IsDeclined r declined →
    (x : Result Sent PoolError) → IfOk x (λ sent. sent ≡ Refused declined) → IfOk x (IsTold n r s)
refused_told n r s declined is (Ok sent) same = subst (λ (x : Sent). IsTold n r s x) (sym same) is
refused_told n r s declined is (Err error) same = tt
