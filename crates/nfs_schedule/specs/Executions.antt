-- One call from its arrival to its answer, on an engine at rest.
use Rattle.std.specs.Prelude.{◌≡◌, ◌≢◌, ℕ, Option, None, IfSome}
use Rattle.nfs_machine.specs.Run.{context_of, host_in, moment_in}
use Rattle.nfs_objects.specs.Rooms.{with_seen, with_number}
use Rattle.nfs_objects.specs.Store.{Store}
use Rattle.nfs_objects.specs.Values.{Seen, seen_at}
use Rattle.nfs_objects.specs.declared.address.Addr.{Addr}
use Rattle.nfs_objects.specs.declared.address.Addr.TheVariants.{Inode}
use Rattle.nfs_objects.specs.declared.modes.Mode.{Mode}
use Rattle.nfs_objects.specs.declared.view.Reserved.{Reserved}
use Rattle.nfs_engine.specs.Arrivals.{ArrivalValue, incoming_value}
use Rattle.nfs_engine.specs.Book.{Repeats}
use Rattle.nfs_engine.specs.Calls.{FinishedValue, PendingValue, TxnValue, txn_of}
use Rattle.nfs_engine.specs.Engine.{EngineValue, LeadsOn, Lives, held_among}
use Rattle.nfs_engine.specs.Releases.{ReleaseValue}
use Rattle.nfs_engine.specs.Repeats.{kept_for, origin_of}
use Rattle.nfs_engine.specs.Running.{running_at}
use Rattle.nfs_engine.specs.declared.arrival.Reading.TheVariants as readings
use Rattle.nfs_engine.specs.declared.asking.Asked.{Asked}
use Rattle.nfs_engine.specs.declared.journal.Receipt.{Receipt}
use Rattle.nfs_schedule.specs.Answers.{IsRefused}
use Rattle.nfs_schedule.specs.Courses.{HasReadFew}
use Rattle.nfs_schedule.specs.Turns.{Executes, KeepsStore}
use Rattle.nfs_schedule.specs.declared.answer.Answer.{Answer}
use Rattle.nfs_schedule.specs.declared.answer.Answer.TheVariants as answers

-- nobody else holds anything
abbrev pub HoldsAlone : EngineValue → (id : ℕ) → Type 0
HoldsAlone e id = (a : Addr) (j : ℕ) → j ≢ id → held_among e.shards a j ≡ None

-- no other call is in progress, and nobody else holds anything
pub record IsAlone (e : EngineValue) (id key : ℕ) : Type 0 where
  pub running : (k : ℕ) → k ≢ key → running_at e.book.living k ≡ None
  pub held : HoldsAlone e id

-- what a call reads at an address, in the mode in which it asks
abbrev pub shown_in : Store → Addr × Mode → Seen
shown_in s a = record { address = a.0; mode = a.1; object = s.at a.0 }

-- the call may have read more, and nothing else changed
pub record GoesOn (e f : EngineValue) (t u : TxnValue) : Type 0 where
  pub lives : Lives f u
  pub alone : HoldsAlone f u.id
  pub book : f.book ≡ e.book
  pub call : u ≡ record t { view = u.view }

-- the call has read this, and nothing else of it changed
abbrev pub HasTaken : TxnValue → TxnValue → Seen → Type 0
HasTaken old new e = new ≡ record old { view = with_seen old.view e }

-- the call has a new number, which it had not read, and nothing else of it changed
pub record HasNumber (old new : TxnValue) (r : Reserved) : Type 0 where
  pub unseen : seen_at old.view.entries (Inode r.number) ≡ None
  pub call : new ≡ record old { view = with_number old.view r }

-- nobody holds anything any more, and the book is as it was
pub record Frees (e f : EngineValue) (r : ReleaseValue) (left : Option PendingValue) : Type 0 where
  pub book : f.book ≡ e.book
  pub held : (a : Addr) (j : ℕ) → held_among f.shards a j ≡ None
  pub leads : LeadsOn f r left

-- The call was executed: its record is the next one, and one step of the machine from the present state. It read each
-- address once, and few that hold nothing.
pub record Finishes (e f : EngineValue) (t : TxnValue) (receipt : Receipt) : Type 0 where
  pub done : FinishedValue
  pub call : txn_of done ≡ record t { view = done.done.view }
  pub few : HasReadFew (txn_of done)
  pub executes : Executes e f done receipt

-- the call came to its end, or it was refused, and store and records are as they were
abbrev pub EndsIn : EngineValue → EngineValue → TxnValue → Answer → Type 0
EndsIn e f t (answers.Executed receipt) = Finishes e f t receipt
EndsIn e f t (answers.Refused declined) = KeepsStore e f ×
    IsRefused t.received (record { xid = t.xid; ids = t.ctx.ids; call = t.call }) (answers.Refused declined)
EndsIn e f t answer = ⊥

-- What came in asks a call, which began and was executed as the next record. If it changes something, no reply was kept
-- for it. It read each address once, and few that hold nothing.
pub record Executed (e f : EngineValue) (a : ArrivalValue) (receipt : Receipt) : Type 0 where
  pub asked : Asked
  pub asks : a.reading ≡ readings.Asks asked
  pub unkept : IfSome (origin_of a.received asked.call) (λ origin. kept_for e.book.replies origin ≡ None)
  pub begun : EngineValue
  pub begins : KeepsStore e begun
  pub done : FinishedValue
  pub received : done.received ≡ a.received
  pub xid : done.xid ≡ asked.xid
  pub call : done.done.call ≡ asked.call
  pub ctx : done.done.ctx ≡ context_of e.book.setting (host_in a.received) asked.ids (moment_in a.received)
  pub few : HasReadFew (txn_of done)
  pub executes : Executes begun f done receipt

-- What came in was executed as the next record; or it is a repeat, and has the reply that is kept; or it was refused,
-- which changed neither store nor records nor the replies that are kept; or it has a fault, and all is as it was.
abbrev pub Answers : EngineValue → EngineValue → ArrivalValue → Answer → Type 0
Answers e f a (answers.Executed receipt) = Executed e f a receipt
Answers e f a (answers.Repeated kept) = Repeats e.book f.book a kept
Answers e f a (answers.Refused declined) = (asked : Asked) × (a.reading ≡ readings.Asks asked) ×
    KeepsStore e f × IsRefused a.received asked (answers.Refused declined)
Answers e f a (answers.Early faulted) = (a.reading ≡ readings.Faulted faulted.answer) ×
    (incoming_value faulted.received ≡ a.received) × (f ≡ e)
Answers e f a answer = ⊥
