-- How many addresses a worker's call asks the engine for, over a drive.
use Rattle.std.specs.Prelude.{◌≡◌, ℕ, ◌+◌, ◌-◌, ◌==◌, List, [], ◌∷◌, Option, Some, None}
use Rattle.std.specs.Prelude.{if◌then◌else◌, length}
use Rattle.std.specs.Prelude.{slice_get}
use Rattle.std.specs.Vec.Iter.{into_iter_items}
use Rattle.nfs_objects.specs.declared.address.Addr.{Addr}
use Rattle.nfs_objects.specs.declared.modes.Mode.{Mode}
use Rattle.nfs_engine.specs.Calls.{TxnValue, txn_of}
use Rattle.nfs_schedule.specs.Events.{Drives, Happens}
use Rattle.nfs_schedule.specs.Worlds.{WorldValue}
use Rattle.nfs_schedule.specs.declared.answer.Answer.{Answer}
use Rattle.nfs_schedule.specs.declared.model.driving.Event.{Event}
use Rattle.nfs_schedule.specs.declared.model.driving.Event.TheVariants.{Turn}
use Rattle.nfs_schedule.specs.declared.model.worker.Worker.{Worker}
use Rattle.nfs_schedule.specs.declared.model.worker.Worker.TheVariants.{Trying, Wanting, WantingNumbers, Ready}

-- ---- what is asked for
-- the first of these, if there is one
abbrev pub asked_of : List (Addr × Mode) → ℕ
asked_of [] = 0
asked_of (a ∷ wanted) = 1

-- by a worker in its step
abbrev pub asked_by : Worker → ℕ
asked_by (Wanting t wanted) = asked_of (into_iter_items wanted)
asked_by worker = 0

-- by the worker at this place in the step of an event
abbrev pub asked_in : (place : ℕ) (old new : WorldValue) (event : Event) (answer : Option Answer) →
    Happens old event answer new → ℕ
asked_in place old new (Turn worker) answer turn = if worker - 1 == place then asked_by turn.turns.thought else 0
asked_in place old new event answer happens = 0

-- by it over events
abbrev pub asked_over : (place : ℕ) (old new : WorldValue) (events : List Event) (said later : List Answer) →
    Drives old events new said later → ℕ
asked_over place old new [] said later drives = 0
asked_over place old new (event ∷ events) said later drives =
    asked_in place old drives.0 event drives.2.answer drives.2.happens +
    asked_over place drives.0 new events drives.1 later drives.3

-- ---- a call that goes on
-- the call of a worker that was told of no address that it is taken, and of no want of memory
abbrev pub going_on : Worker → Option TxnValue
going_on (Trying t) = Some t
going_on (Wanting t wanted) = Some t
going_on (WantingNumbers t count) = Some t
going_on (Ready f) = Some (txn_of f)
going_on worker = None

-- the worker at this place has such a call
pub record GoesOnAt (place : ℕ) (w : WorldValue) : Type 0 where
  pub worker : Worker
  pub there : slice_get w.workers place ≡ Some worker
  pub call : TxnValue
  pub is : going_on worker ≡ Some call

-- it has one before the first event, and after each
abbrev pub GoesOnOver : (place : ℕ) (old new : WorldValue) (events : List Event) (said later : List Answer) →
    Drives old events new said later → Type 0
GoesOnOver place old new [] said later drives = GoesOnAt place old
GoesOnOver place old new (event ∷ events) said later drives =
    GoesOnAt place old × GoesOnOver place drives.0 new events drives.1 later drives.3

-- ---- the law
-- what a call has read beside the numbers that it was given
pub record HasAsked (before after : TxnValue) (asked : ℕ) : Type 0 where
  pub counts : length after.view.entries + length before.view.reserved ≡
      length before.view.entries + length after.view.reserved + asked

-- While a worker's call goes on, it asks the engine for just as many addresses as its view grows by, the numbers that
-- it is given left aside.
abbrev pub AsksForEachOnce : Type 0
AsksForEachOnce = (place : ℕ) (old new : WorldValue) (events : List Event) (said later : List Answer)
    (drives : Drives old events new said later) → GoesOnOver place old new events said later drives →
    (before : GoesOnAt place old) (after : GoesOnAt place new) →
    HasAsked before.call after.call (asked_over place old new events said later drives)
