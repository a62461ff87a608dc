-- What a turn does: the step that the worker's state names.
use Rattle.std.specs.Prelude.{◌≡◌, ◌+◌, ◌<◌, ◌≤◌, ℕ, List, [], ◌∷◌, Option, Some, None}
use Rattle.std.specs.Prelude.{Ok, Err, length}
use Rattle.std.specs.Vec.Iter.{into_iter_items}
use Rattle.nfs_machine.specs.RpcReplies.{success_message}
use Rattle.nfs_machine.specs.Run.{bytes_in, host_in}
use Rattle.nfs_replies.specs.Kept.ReplyEvent.{Repeated}
use Rattle.nfs_replies.specs.Replies.{IsAfter}
use Rattle.nfs_engine.specs.Arrivals.{ArrivalValue, incoming_value}
use Rattle.nfs_engine.specs.Book.{BeginsCall, Commits, IsAdmitError, LeadsBook, Repeats, Steps, StillRuns}
use Rattle.nfs_engine.specs.Calls.{FinishedValue, IsCalled, PendingValue, TxnValue, again_of, txn_of}
use Rattle.nfs_engine.specs.Commits.{IsReceipt}
use Rattle.nfs_engine.specs.Engine.{EngineValue, FreesLast, FreesOne, IsAcquired, IsReleased, IsReserved, freed_more}
use Rattle.nfs_engine.specs.Engine.{release_of}
use Rattle.nfs_engine.specs.Releases.{ReleaseValue}
use Rattle.nfs_engine.specs.Repeats.{Keeps, RepeatValue, kept_for, origin_in, origin_of}
use Rattle.nfs_engine.specs.declared.arrival.Reading.TheVariants as readings
use Rattle.nfs_engine.specs.declared.asking.Asked.{Asked}
use Rattle.nfs_engine.specs.declared.journal.Receipt.{Receipt}
use Rattle.nfs_engine.specs.declared.release.Then.TheVariants as then
use Rattle.nfs_engine.specs.declared.running.AdmitError.{AdmitError}
use Rattle.nfs_engine.specs.declared.shard.ReserveError.{ReserveError}
use Rattle.nfs_engine.specs.declared.taking.Got.TheVariants as got
use Rattle.nfs_objects.specs.declared.address.Addr.{Addr}
use Rattle.nfs_objects.specs.declared.modes.Mode.{Mode}
use Rattle.std.specs.declared.alloc.AllocError.{AllocError}
use Rattle.nfs_schedule.specs.Answers.{IsRefused, IsUnanswered}
use Rattle.nfs_schedule.specs.Workers.{KeepsRest, Thinks, WorkerLives, worker_id}
use Rattle.nfs_schedule.specs.declared.answer.Answer.{Answer}
use Rattle.nfs_schedule.specs.declared.answer.Answer.TheVariants as answers
use Rattle.nfs_schedule.specs.declared.model.worker.Afterwards.{Afterwards}
use Rattle.nfs_schedule.specs.declared.model.worker.Afterwards.TheVariants.{Again, GiveUp}
use Rattle.nfs_schedule.specs.declared.model.worker.Worker.{Worker}
use Rattle.nfs_schedule.specs.declared.model.worker.Worker.TheVariants.{Idle, Trying, Wanting, WantingNumbers, Ready}
use Rattle.nfs_schedule.specs.declared.model.worker.Worker.TheVariants.{Blocked, Failing}
use Rattle.nfs_schedule.specs.declared.model.worker.Worker.TheVariants.{Leaving, PutOff, Refusing}

-- ---- what is changed
-- store, records, messages and the replies that are kept are as they were
abbrev pub KeepsStore : EngineValue → EngineValue → Type 0
KeepsStore e f = f.book ≡ record e.book { living = f.book.living; next_id = f.book.next_id }

-- all of the book but which calls are in progress is as it was
abbrev pub KeepsBook : EngineValue → EngineValue → Type 0
KeepsBook e f = f.book ≡ record e.book { living = f.book.living }

-- how many numbers of calls were taken: one, where there was no call and now is one
abbrev pub numbers_taken : (old new : Option ℕ) → ℕ
numbers_taken None (Some id) = 1
numbers_taken old new = 0

-- This call was executed: its record is the next one, and one step of the machine from the present state. If it changes
-- something, its answer is kept for what it came with.
pub record Executes (e f : EngineValue) (done : FinishedValue) (receipt : Receipt) : Type 0 where
  pub commits : Commits e.book f.book done
  pub keeps : Keeps (origin_of done.received done.done.call) (success_message done.xid done.done.change.reply)
      e.book.replies f.book.replies
  pub step : Steps e.book f.book done.done
  pub leads : LeadsBook e.book f.book
  pub receipt_is : IsReceipt (e.book.before + length e.book.records + 1) done receipt

-- a reply that is kept comes to the front, and nothing else changes
pub record Recalls (e f : EngineValue) (kept : RepeatValue) : Type 0 where
  pub reply : kept_for e.book.replies (origin_in kept.received) ≡ Some kept.reply
  pub front : IsAfter (Repeated (host_in kept.received) (bytes_in kept.received)) e.book.replies f.book.replies
  pub rest : f.book ≡ record e.book { replies = f.book.replies }

-- only what is executed changes store, records and messages, and only that and a repeat the replies that are kept
abbrev pub Effect : EngineValue → EngineValue → Option Answer → Type 0
Effect e f (Some (answers.Executed receipt)) = (done : FinishedValue) × Executes e f done receipt ×
    IsCalled done.received done.xid done.done.call done.done.ctx
Effect e f (Some (answers.Repeated kept)) = Recalls e f kept
Effect e f answer = KeepsStore e f

-- ---- the step
-- The oldest arrival: its call begins; or it is a repeat, which has the reply that is kept, or none while its call is
-- in progress; or it has a fault; or it is refused, since it wants memory, or no number is left for it.
abbrev pub Admits : EngineValue → EngineValue → ArrivalValue → Worker → Option Answer → Type 0
Admits e f a (Trying t) None = BeginsCall e.book f.book a t
Admits e f a Idle (Some (answers.Repeated kept)) = Repeats e.book f.book a kept × (f.shards ≡ e.shards)
Admits e f a Idle (Some (answers.Unanswered received)) = StillRuns e.book f.book a a ×
    IsUnanswered a.received (answers.Unanswered received) × (f ≡ e)
Admits e f a Idle (Some (answers.Early faulted)) = (a.reading ≡ readings.Faulted faulted.answer) ×
    (incoming_value faulted.received ≡ a.received) × (f ≡ e)
Admits e f a Idle (Some answer) = (asked : Asked) × (a.reading ≡ readings.Asks asked) ×
    IsRefused a.received asked answer × (f ≡ e) × (error : AdmitError) × IsAdmitError e.book a error
Admits e f a next answer = ⊥

-- what asks a call
abbrev pub AsksCall : ArrivalValue → Type 0
AsksCall a = (asked : Asked) × (a.reading ≡ readings.Asks asked)

-- only an idle worker takes an arrival from the queue, the oldest
abbrev pub TakesArrival : EngineValue → EngineValue → (queue later : List ArrivalValue) → Worker → Option Answer →
    Type 0
TakesArrival e f [] later next answer = (later ≡ []) × (f ≡ e) × (next ≡ Idle) × (answer ≡ None)
TakesArrival e f (a ∷ rest) later next answer = (later ≡ rest) × Admits e f a next answer

-- the first address that is wanted: the call has it, and wants the others; or somebody holds it; or there was no memory
abbrev pub Acquires : EngineValue → TxnValue → Addr × Mode → List (Addr × Mode) → Worker → Type 0
Acquires e t a others (Trying u) = IsAcquired {E = AllocError} e t u a.0 a.1 (Ok got.Yes) × (others ≡ [])
Acquires e t a others (Wanting u wanted) =
    IsAcquired {E = AllocError} e t u a.0 a.1 (Ok got.Yes) × (into_iter_items wanted ≡ others)
Acquires e t a others (Blocked u) = (h : ℕ) × IsAcquired {E = AllocError} e t u a.0 a.1 (Ok (got.Taken h))
Acquires e t a others (Failing u) = (error : AllocError) × IsAcquired e t u a.0 a.1 (Err error)
Acquires e t a others worker = ⊥

abbrev pub TakesFirst : EngineValue → TxnValue → List (Addr × Mode) → Worker → Type 0
TakesFirst e t [] next = next ≡ Trying t
TakesFirst e t (a ∷ others) next = Acquires e t a others next

-- one of so many new numbers: the call wants the others, or it was the last; or there is none
abbrev pub Gains : EngineValue → (shard : ℕ) → TxnValue → (left : ℕ) → Worker → Type 0
Gains e shard t left (Trying u) = IsReserved e t u shard (Ok tt) × (left ≤ 1)
Gains e shard t left (WantingNumbers u others) = IsReserved e t u shard (Ok tt) × (1 < left) × (left ≡ others + 1)
Gains e shard t left (Failing u) = (error : ReserveError) × IsReserved e t u shard (Err error)
Gains e shard t left worker = ⊥

-- the call is executed and answered, or there was no memory for it
abbrev pub EndsTurn : EngineValue → EngineValue → FinishedValue → Worker → Option Answer → Type 0
EndsTurn e f done (Leaving r after) (Some (answers.Executed receipt)) =
    Executes e f done receipt × IsReleased done r
EndsTurn e f done (Failing t) None = (t ≡ txn_of done) × (f ≡ e)
EndsTurn e f done worker answer = ⊥

-- what comes of a call that holds nothing any more
abbrev pub after_all : PendingValue → Afterwards → Worker
after_all p Again = PutOff p
after_all p GiveUp = Refusing p

-- One shard more is let go, and no other; or all is, and this shard was the last, if there was one.
abbrev pub Follows : EngineValue → EngineValue → ReleaseValue → Afterwards → Worker → Type 0
Follows e f r after (Leaving left still) =
    (k : ℕ) × FreesOne e.shards f.shards r k × (left ≡ freed_more r k) × (still ≡ after)
Follows e f r after Idle = (r.after ≡ then.Ended) × (last : Option ℕ) × FreesLast e.shards f.shards r last
Follows e f r after next = (p : PendingValue) × (r.after ≡ then.Aborted p) × (next ≡ after_all p after) ×
    (last : Option ℕ) × FreesLast e.shards f.shards r last

-- the call is over, and was not executed
abbrev pub Declines : PendingValue → Worker → Option Answer → Type 0
Declines p Idle (Some answer) = IsRefused p.received
    (record { xid = p.xid; ids = p.ctx.ids; call = p.call }) answer
Declines p worker answer = ⊥

-- the step that the worker's state names, what it leads to, and what is answered
abbrev pub IsNamed : EngineValue → EngineValue → (shard : ℕ) → Worker → Worker → Option Answer → Type 0
IsNamed e f shard Idle next answer = Unit {0}
IsNamed e f shard (Trying t) next answer = (f ≡ e) × (next ≡ Trying t) × (answer ≡ None)
IsNamed e f shard (Wanting t wanted) next answer =
    (f.book ≡ e.book) × TakesFirst e t (into_iter_items wanted) next × (answer ≡ None)
IsNamed e f shard (WantingNumbers t left) next answer = (f.book ≡ e.book) × Gains e shard t left next × (answer ≡ None)
IsNamed e f shard (Ready done) next answer = EndsTurn e f done next answer
IsNamed e f shard (Blocked t) next answer =
    (f ≡ e) × (next ≡ Leaving (release_of t) Again) × (answer ≡ None)
IsNamed e f shard (Failing t) next answer =
    (f ≡ e) × (next ≡ Leaving (release_of t) GiveUp) × (answer ≡ None)
IsNamed e f shard (Leaving r after) next answer = (f.book ≡ e.book) × Follows e f r after next × (answer ≡ None)
IsNamed e f shard (PutOff p) next answer = (f ≡ e) × (next ≡ Trying (again_of p)) × (answer ≡ None)
IsNamed e f shard (Refusing p) next answer = Declines p next answer

-- a worker that has a call leaves the queue as it is
abbrev pub KeepsQueue : EngineValue → EngineValue → (queue later : List ArrivalValue) → Worker → Worker →
    Option Answer → Type 0
KeepsQueue e f queue later Idle next answer = TakesArrival e f queue later next answer
KeepsQueue e f queue later worker next answer = later ≡ queue

-- a step of a worker
pub record IsTurnOf (e f : EngineValue) (shard : ℕ) (old new : Worker) (answer : Option Answer) : Type 0 where
  pub lives : WorkerLives f new
  pub rest : KeepsRest e f old new
  pub effect : Effect e f answer
  pub ids : f.book.next_id ≡ e.book.next_id + numbers_taken (worker_id old) (worker_id new)
  pub named : IsNamed e f shard old new answer

-- a worker thinks, and makes the step that its state then names
pub record Turns (e f : EngineValue) (queue later : List ArrivalValue) (shard : ℕ) (old new : Worker)
    (answer : Option Answer) : Type 0 where
  pub thought : Worker
  pub thinks : Thinks old thought
  pub step : IsTurnOf e f shard thought new answer
  pub queued : KeepsQueue e f queue later thought new answer
