-- What a worker is at, and how it lives in an engine.
use Rattle.std.specs.Prelude.{◌≡◌, ◌≢◌, ℕ, true, List, ◌++◌, Option, Some, None, IsSome}
use Rattle.std.specs.Prelude.{◌⊎◌, ◌≤◌}
use Rattle.std.specs.List.{AllByRecursion}
use Rattle.std.specs.Vec.Iter.{into_iter_items}
use Rattle.nfs_machine.specs.declared.calls.Call.{Call}
use Rattle.nfs_objects.specs.Asks.{EachOnce}
use Rattle.nfs_objects.specs.Attempt.{Attempts, first_wanted}
use Rattle.nfs_objects.specs.Modes.{Suits, covers, held_mode, modes_of}
use Rattle.nfs_objects.specs.Values.{Seen, ViewValue, seen_at}
use Rattle.nfs_objects.specs.declared.address.Addr.{Addr}
use Rattle.nfs_objects.specs.declared.change.Outcome.TheVariants.{Fresh}
use Rattle.nfs_objects.specs.declared.modes.Mode.{Mode}
use Rattle.nfs_engine.specs.Calls.{TxnValue, txn_of}
use Rattle.nfs_engine.specs.Engine.{EngineValue, IsLeaving, Lives, Waits, held_among}
use Rattle.nfs_engine.specs.Running.{running_at}
use Rattle.nfs_engine.specs.declared.release.Then.{Then}
use Rattle.nfs_engine.specs.declared.release.Then.TheVariants as then
use Rattle.nfs_schedule.specs.Grown.{AsksFor, HasGrown}
use Rattle.nfs_schedule.specs.declared.model.worker.Worker.{Worker}
use Rattle.nfs_schedule.specs.declared.model.worker.Worker.TheVariants.{Idle, Trying, Wanting, WantingNumbers, Ready}
use Rattle.nfs_schedule.specs.declared.model.worker.Worker.TheVariants.{Blocked, Failing}
use Rattle.nfs_schedule.specs.declared.model.worker.Worker.TheVariants.{Leaving, PutOff, Refusing}

-- an address that a call may take: it has it not, and the mode is as strong as its attempt needed when it asked
pub record MayTake (call : Call) (asking view : ViewValue) (a : Addr × Mode) : Type 0 where
  pub unseen : seen_at view.entries a.0 ≡ None
  pub strong : covers a.1 (held_mode (modes_of call) asking a.0) ≡ true

-- What is left of what an attempt asked for: on this view it asked, and what was taken since is held as it asked.
pub record Wants (call : Call) (view : ViewValue) (wanted : List (Addr × Mode)) : Type 0 where
  pub asking : ViewValue
  pub suited : Suits (modes_of call) asking
  pub taken : List Seen
  pub strong : AllByRecursion (λ (e : Seen). covers e.mode (held_mode (modes_of call) asking e.address) ≡ true) taken
  pub grew : view ≡ record asking { entries = asking.entries ++ taken }
  pub once : EachOnce wanted
  pub each : AllByRecursion (MayTake call asking view) wanted

-- what the call has read is held as its attempt wants it
abbrev pub IsSuited : TxnValue → Type 0
IsSuited t = Suits (modes_of t.call) t.view

-- a worker that has to think may do so
abbrev pub MayThink : Worker → Type 0
MayThink (Trying t) = HasGrown t
MayThink worker = Unit {0}

-- what a worker has lives in the engine
abbrev pub WorkerLives : EngineValue → Worker → Type 0
WorkerLives e Idle = Unit {0}
WorkerLives e (Trying t) = Lives e t × IsSuited t
WorkerLives e (Wanting t wanted) = Lives e t × IsSuited t × Wants t.call t.view (into_iter_items wanted)
WorkerLives e (WantingNumbers t left) = Lives e t × IsSuited t
WorkerLives e (Ready f) = Lives e (txn_of f)
WorkerLives e (Blocked t) = Lives e t
WorkerLives e (Failing t) = Lives e t
WorkerLives e (Leaving r after) = IsLeaving e r
WorkerLives e (PutOff p) = Waits e p
WorkerLives e (Refusing p) = Waits e p

-- the number of the call that a worker has
abbrev pub worker_id : Worker → Option ℕ
worker_id Idle = None
worker_id (Trying t) = Some t.id
worker_id (Wanting t wanted) = Some t.id
worker_id (WantingNumbers t left) = Some t.id
worker_id (Ready f) = Some f.id
worker_id (Blocked t) = Some t.id
worker_id (Failing t) = Some t.id
worker_id (Leaving r after) = Some r.id
worker_id (PutOff p) = Some p.id
worker_id (Refusing p) = Some p.id

-- the place of what a release leads to, if that is a call in progress
abbrev pub after_key : Then → Option ℕ
after_key (then.Aborted p) = Some p.key
after_key then.Ended = None

-- the place of its call among those in progress, if it is in progress
abbrev pub worker_key : Worker → Option ℕ
worker_key Idle = None
worker_key (Trying t) = Some t.key
worker_key (Wanting t wanted) = Some t.key
worker_key (WantingNumbers t left) = Some t.key
worker_key (Ready f) = Some f.key
worker_key (Blocked t) = Some t.key
worker_key (Failing t) = Some t.key
worker_key (Leaving r after) = after_key r.after
worker_key (PutOff p) = Some p.key
worker_key (Refusing p) = Some p.key

-- ---- thinking
-- The call asks for addresses, or for new numbers, or it is done; or there was no memory to think. Before it has read
-- what is wanted first, it asks for that alone.
abbrev pub Comes : TxnValue → Worker → Type 0
Comes t (Wanting u wanted) = (u ≡ t) × AsksFor t (into_iter_items wanted)
Comes t (WantingNumbers u count) =
    (u ≡ t) × Attempts t.call t.ctx t.view (Fresh count) × (first_wanted t.call t.view ≡ None)
Comes t (Ready f) = (txn_of f ≡ t) × (first_wanted t.call t.view ≡ None)
Comes t (Failing u) = u ≡ t
Comes t worker = ⊥

-- a worker that has to think comes to something, any other is as it was
abbrev pub Thinks : Worker → Worker → Type 0
Thinks (Trying t) new = Comes t new
Thinks old new = new ≡ old

-- ---- what a turn leaves of the others
-- the worker has its call still, or none, or a new one
abbrev pub KeepsCall : EngineValue → Worker → Worker → Type 0
KeepsCall e w v = (worker_id v ≡ worker_id w) ⊎ (worker_id v ≡ None) ⊎
    ((id : ℕ) × (worker_id v ≡ Some id) × (e.book.next_id ≤ id))

-- another worker's call is another one
abbrev pub IsApart : Worker → Worker → Type 0
IsApart w u = (id : ℕ) → worker_id u ≡ Some id → worker_id w ≢ Some id

-- What other workers have lives on. Each call in progress, and whoever holds an address, is the worker's, or it was so
-- before and was not the worker's.
pub record KeepsRest (e f : EngineValue) (w v : Worker) : Type 0 where
  pub others : (u : Worker) → IsApart w u → WorkerLives e u → WorkerLives f u
  pub call : KeepsCall e w v
  pub running : (key : ℕ) → IsSome (running_at f.book.living key) →
      (worker_key v ≡ Some key) ⊎ (IsSome (running_at e.book.living key) × (worker_key w ≢ Some key))
  pub held : (a : Addr) (id : ℕ) → IsSome (held_among f.shards a id) →
      (worker_id v ≡ Some id) ⊎ (IsSome (held_among e.shards a id) × (worker_id w ≢ Some id))
