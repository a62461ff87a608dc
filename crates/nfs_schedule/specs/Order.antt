-- What is true of a world at every moment.
use Rattle.std.specs.Prelude.{◌≡◌, ℕ, Option, Some, None, IsSome, slice_get}
use Rattle.nfs_machine.specs.Grants.{AllHeldUp}
use Rattle.nfs_machine.specs.LocksFormed.{NoConflict}
use Rattle.nfs_machine.specs.State.{State}
use Rattle.nfs_objects.specs.Fits.{Fits}
use Rattle.nfs_objects.specs.Store.{Store}
use Rattle.nfs_objects.specs.declared.address.Addr.{Addr}
use Rattle.nfs_objects.specs.declared.modes.Mode.TheVariants.{Exclusive}
use Rattle.nfs_engine.specs.Book.{StandsFor, store_in}
use Rattle.nfs_engine.specs.Calls.{TxnValue, txn_of}
use Rattle.nfs_engine.specs.Engine.{IsTied, held_among, mode_in}
use Rattle.nfs_schedule.specs.Asking.{IsRead, wanted_by}
use Rattle.nfs_schedule.specs.Grown.{ReadsFew}
use Rattle.nfs_schedule.specs.Workers.{worker_id}
use Rattle.nfs_schedule.specs.Worlds.{IsSomeones, WorldValue}
use Rattle.nfs_schedule.specs.declared.model.worker.Worker.{Worker}
use Rattle.nfs_schedule.specs.declared.model.worker.Worker.TheVariants.{Trying, Wanting, WantingNumbers, Ready, Blocked}
use Rattle.nfs_schedule.specs.declared.model.worker.Worker.TheVariants.{Failing}

-- the call that a worker executes, with what it has read
abbrev pub executed_by : Worker → Option TxnValue
executed_by (Trying t) = Some t
executed_by (Wanting t wanted) = Some t
executed_by (WantingNumbers t left) = Some t
executed_by (Ready f) = Some (txn_of f)
executed_by (Blocked t) = Some t
executed_by (Failing t) = Some t
executed_by worker = None

-- what a worker's call has read stands in the store, and the call holds just that
pub record IsReading (w : WorldValue) (t : TxnValue) : Type 0 where
  pub fits : Fits t.view (store_in w.engine.book)
  pub holds : (a : Addr) → held_among w.engine.shards a t.id ≡ mode_in t.view.entries a

-- the store stands for a state in which no two owners have what conflicts, by locks or by shares, and each request that
-- waits conflicts with what is held of its file
pub record KeepsApart (s : Store) : Type 0 where
  pub state : State
  pub stands : StandsFor s state
  pub apart : NoConflict state
  pub held_up : AllHeldUp state

-- The shards together are the store, which keeps the owners of locks apart; who holds an address alone is the only one
-- that holds it; whoever holds one is a worker's call; what each worker's call has read stands; few addresses of that
-- hold nothing; and what it has read and wants next is each address once, the exports first, and then what its first
-- handle names.
pub record IsOrderly (w : WorldValue) : Type 0 where
  pub tied : IsTied w.engine
  pub locks : KeepsApart (store_in w.engine.book)
  pub alone : (a : Addr) (i j : ℕ) → held_among w.engine.shards a i ≡ Some Exclusive →
      IsSome (held_among w.engine.shards a j) → j ≡ i
  pub held : (a : Addr) (id : ℕ) → IsSome (held_among w.engine.shards a id) → IsSomeones worker_id w.workers id
  pub reads : (i : ℕ) (u : Worker) (t : TxnValue) →
      slice_get w.workers i ≡ Some u → executed_by u ≡ Some t → IsReading w t
  pub asks : (i : ℕ) (u : Worker) (t : TxnValue) → slice_get w.workers i ≡ Some u → executed_by u ≡ Some t →
      IsRead t.call t.view.entries (wanted_by u)
  pub few : (i : ℕ) (u : Worker) (t : TxnValue) → slice_get w.workers i ≡ Some u → executed_by u ≡ Some t →
      ReadsFew u t
