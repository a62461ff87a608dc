-- Seats, and what their callers are told.
use Rattle.std.specs.Prelude.{◌≡◌, ℕ, ◌+◌, ◌*◌, ◌^◌, ◌<◌, ◌≤◌, List, [], ◌∷◌, ◌++◌, length}
use Rattle.std.specs.Prelude.{Result, Ok, Err}
use Rattle.std.specs.List.{AllByRecursion}
use Rattle.nfs_machine.specs.Run.{Arrival}
use Rattle.nfs_engine.specs.Arrivals.{ArrivalValue, incoming_value}
use Rattle.nfs_engine.specs.Calls.{FinishedValue, IsCalled}
use Rattle.nfs_engine.specs.Commits.{IsReceipt}
use Rattle.nfs_engine.specs.declared.arrival.Reading.TheVariants as readings
use Rattle.nfs_engine.specs.declared.journal.Receipt.{Receipt}
use Rattle.nfs_schedule.specs.Answers.{IsDeclined}
use Rattle.nfs_pool.specs.declared.sent.PoolError.{PoolError}
use Rattle.nfs_pool.specs.declared.sent.PoolError.TheVariants.{Memory, EraFull}
use Rattle.nfs_pool.specs.declared.sent.Sent.{Sent}
use Rattle.nfs_pool.specs.declared.sent.Sent.TheVariants.{Executed, Repeated, Refused, Early, Unanswered}

pub record SeatValue : Type 0 where
  -- of which shard the new numbers of its first call are
  pub shard : ℕ
  pub receipts : List Receipt
  -- no receipt's number is above this one, and each that comes is
  pub last : ℕ

-- A share counts 2^64 for each of so many receipts, and for each record of an era that is over one more. There are
-- fewer
-- records than that, so an amount tells how many there are of each.
abbrev pub Counts : (receipts amount : ℕ) → Type 0
Counts receipts amount = (past : ℕ) × (amount ≡ 2 ^ 64 * (past + receipts) + past)

-- one part of the ledger, which counts the receipts
pub record IsSeat (s : SeatValue) (parts amount : ℕ) : Type 0 where
  pub part : parts ≡ 1
  pub counted : Counts (length s.receipts) amount
  pub below : AllByRecursion (λ (r : Receipt). r.number ≤ s.last) s.receipts
  pub shard : s.shard < 16

-- the receipt is of a call that is what came in asks: it has the reply, spelled under the xid of that
pub record IsReceiptOf (r : Arrival) (receipt : Receipt) : Type 0 where
  pub finished : FinishedValue
  pub received : finished.received ≡ r
  pub called : IsCalled r finished.xid finished.done.call finished.done.ctx
  pub made : IsReceipt receipt.number finished receipt

-- one receipt more, of the call that came in, above all that were there and above the seat's last number, which it is
-- from then on
pub record Gains (a : ArrivalValue) (old new : SeatValue) : Type 0 where
  pub receipt : Receipt
  pub more : new.receipts ≡ old.receipts ++ receipt ∷ []
  pub of_call : IsReceiptOf a.received receipt
  pub above : AllByRecursion (λ (r : Receipt). r.number < receipt.number) old.receipts
  pub past : old.last < receipt.number
  pub last : new.last ≡ receipt.number

-- Where the call was executed the seat has its receipt; else the seat is as it was. Each answer is of what came in.
abbrev pub Tells : ArrivalValue → (old new : SeatValue) → Result Sent PoolError → Type 0
Tells a old new (Ok Executed) = Gains a old new
Tells a old new (Ok (Repeated kept)) = (kept.received ≡ a.received) × (new ≡ old)
Tells a old new (Ok (Refused declined)) = IsDeclined a.received declined × (new ≡ old)
Tells a old new (Ok (Early fault)) = (a.reading ≡ readings.Faulted fault.answer) ×
    (incoming_value fault.received ≡ a.received) × (new ≡ old)
Tells a old new (Ok (Unanswered received)) = (incoming_value received ≡ a.received) × (new ≡ old)
Tells a old new (Err (Memory back)) = (back ≡ a) × (new ≡ old)
Tells a old new (Err (EraFull back)) = (back ≡ a) × (new ≡ old)
