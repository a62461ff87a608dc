-- What stopping a worker does.
use Rattle.std.specs.Prelude.{◌≡◌, ℕ, Option, Some, None}
use Rattle.nfs_machine.specs.Run.{Arrival}
use Rattle.nfs_objects.specs.declared.address.Addr.{Addr}
use Rattle.nfs_engine.specs.Engine.{EngineValue, KeepsOthers, held_among}
use Rattle.nfs_engine.specs.Running.{without_call}
use Rattle.nfs_engine.specs.declared.release.Then.{Then}
use Rattle.nfs_engine.specs.declared.release.Then.TheVariants as then
use Rattle.nfs_schedule.specs.Answers.{IsUnanswered}
use Rattle.nfs_schedule.specs.Turns.{KeepsBook}
use Rattle.nfs_schedule.specs.Workers.{KeepsRest}
use Rattle.nfs_schedule.specs.declared.answer.Answer.{Answer}
use Rattle.nfs_schedule.specs.declared.model.worker.Worker.{Worker}
use Rattle.nfs_schedule.specs.declared.model.worker.Worker.TheVariants.{Idle, Trying, Wanting, WantingNumbers, Ready}
use Rattle.nfs_schedule.specs.declared.model.worker.Worker.TheVariants.{Blocked, Failing}
use Rattle.nfs_schedule.specs.declared.model.worker.Worker.TheVariants.{Leaving, PutOff, Refusing}

-- ---- what is told
-- what came in of what a release leads to, if that is a call in progress
abbrev pub after_received : Then → Option Arrival
after_received (then.Aborted p) = Some p.received
after_received then.Ended = None

-- what came in of the worker's call, if it is in progress
abbrev pub received_of : Worker → Option Arrival
received_of Idle = None
received_of (Trying t) = Some t.received
received_of (Wanting t wanted) = Some t.received
received_of (WantingNumbers t left) = Some t.received
received_of (Ready f) = Some f.received
received_of (Blocked t) = Some t.received
received_of (Failing t) = Some t.received
received_of (Leaving r after) = after_received r.after
received_of (PutOff p) = Some p.received
received_of (Refusing p) = Some p.received

-- the worker's call has no reply; nothing is told where none is in progress
abbrev pub IsStopped : Worker → Option Answer → Type 0
IsStopped w None = received_of w ≡ None
IsStopped w (Some answer) = (received : Arrival) × (received_of w ≡ Some received) × IsUnanswered received answer

-- ---- what is changed
-- the call is no longer in progress and holds nothing, and the others are as they were
pub record IsGone (e f : EngineValue) (key id : ℕ) : Type 0 where
  pub others : KeepsOthers id e f
  pub nothing : (a : Addr) → held_among f.shards a id ≡ None
  pub book : f.book ≡ record e.book { living = without_call e.book.living key id }

-- The worker's call, if it has one, is in progress no more and holds nothing; store, records, messages and the replies
-- that are kept are as they were, and so is what other workers have.
pub record IsStop (e f : EngineValue) (w : Worker) (answer : Option Answer) : Type 0 where
  pub rest : KeepsRest e f w Idle
  pub store : KeepsBook e f
  pub stopped : IsStopped w answer
