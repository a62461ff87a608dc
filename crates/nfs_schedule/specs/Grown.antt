-- How what a worker's call has read grew: by rounds, each of which gives of what an attempt asked for.
use Rattle.std.specs.Prelude.{◌≡◌, ℕ, ◌+◌, ◌<◌, ◌≤◌, List, ◌++◌, length, ◌⊎◌}
use Rattle.std.specs.Vec.Iter.{into_iter_items}
use Rattle.std.specs.declared.alloc.Global.{Global}
use Rattle.std.specs.declared.vec.Vec.{Vec}
use Rattle.nfs_machine.specs.WellFormed.{WellFormed}
use Rattle.nfs_objects.specs.Attempt.{AsksFirst, Attempts}
use Rattle.nfs_objects.specs.Bound.{Given, Grows, Read, Round, empty_count, held, view_after, with_round}
use Rattle.nfs_objects.specs.Calls.{named_by, new_numbers}
use Rattle.nfs_objects.specs.Fits.{Fits}
use Rattle.nfs_objects.specs.Sound.{Sound}
use Rattle.nfs_objects.specs.Stands.{StoreMeaning, Represents}
use Rattle.nfs_objects.specs.Store.{Store}
use Rattle.nfs_objects.specs.Values.{Seen}
use Rattle.nfs_objects.specs.declared.address.Addr.{Addr}
use Rattle.nfs_objects.specs.declared.change.Outcome.TheVariants.{Need, Fresh}
use Rattle.nfs_objects.specs.declared.modes.Mode.{Mode}
use Rattle.nfs_objects.specs.declared.view.Reserved.{Reserved}
use Rattle.nfs_engine.specs.Calls.{TxnValue, txn_of}
use Rattle.nfs_schedule.specs.declared.model.worker.Worker.{Worker}
use Rattle.nfs_schedule.specs.declared.model.worker.Worker.TheVariants.{Trying, Wanting, WantingNumbers, Ready, Blocked}
use Rattle.nfs_schedule.specs.declared.model.worker.Worker.TheVariants.{Failing}

-- an attempt of the call asks for these, and for what is wanted first alone
pub record AsksFor (t : TxnValue) (wanted : List (Addr × Mode)) : Type 0 where
  pub asked : Vec (Addr × Mode) Global
  pub attempts : Attempts t.call t.ctx t.view (Need asked)
  pub first : AsksFirst t.call t.view (Need asked)
  pub whole : asked.items ≡ wanted

-- what the call has read was given in rounds
pub record HasGrown (t : TxnValue) : Type 0 where
  pub rounds : List Round
  pub grows : Grows t.call t.ctx rounds
  pub view_is : t.view ≡ view_after rounds

-- after rounds an attempt asked; some of that was given, and this is left
pub record IsAsking (t : TxnValue) (left : List (Addr × Mode)) : Type 0 where
  pub before : List Round
  pub grows : Grows t.call t.ctx before
  pub asked : Vec (Addr × Mode) Global
  pub attempts : Attempts t.call t.ctx (view_after before) (Need asked)
  pub given : List Seen
  pub whole : asked.items ≡ held given ++ left
  pub view_is : t.view ≡ with_round (view_after before) (Read given)

-- after rounds an attempt asked for new numbers; some were given, and so many are left
pub record IsNumbering (t : TxnValue) (left : ℕ) : Type 0 where
  pub before : List Round
  pub grows : Grows t.call t.ctx before
  pub count : ℕ
  pub attempts : Attempts t.call t.ctx (view_after before) (Fresh count)
  pub given : List Reserved
  pub whole : count ≡ length given + left
  pub some : 0 < left
  pub view_is : t.view ≡ with_round (view_after before) (Given given)

-- what a worker's call has read grew so
abbrev pub IsGrown : Worker → Type 0
IsGrown (Trying t) = HasGrown t
IsGrown (Wanting t wanted) = IsAsking t (into_iter_items wanted)
IsGrown (WantingNumbers t left) = IsNumbering t left
IsGrown (Ready f) = HasGrown (txn_of f)
IsGrown (Blocked t) = HasGrown t
IsGrown (Failing t) = HasGrown t ⊎ ((left : ℕ) × IsNumbering t left)
IsGrown worker = Unit {0}

-- of what a worker wants next, how much holds nothing in the store; the addresses of new numbers hold nothing
abbrev pub wanted_count : Store → Worker → ℕ
wanted_count s (Wanting t wanted) = empty_count s (into_iter_items wanted)
wanted_count s (WantingNumbers t left) = left
wanted_count s worker = 0

-- In every sound store that the view fits, what the worker's call has read and wants next lies among the addresses of
-- the store, those that the call names, and those of its new numbers.
abbrev pub ReadsFew : Worker → TxnValue → Type 0
ReadsFew worker t = (s : Store) (k : StoreMeaning) → Fits t.view s → Represents s k → Sound k → WellFormed k.state →
    empty_count s (held t.view.entries) + wanted_count s worker ≤
    length (named_by t.call t.view) + new_numbers t.call t.view
