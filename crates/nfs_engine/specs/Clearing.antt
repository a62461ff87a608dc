-- What dead files left went from an engine, some of it or nothing.
use Rattle.std.specs.Prelude.{◌≡◌, ℕ}
use Rattle.nfs_machine.specs.State.{State}
use Rattle.nfs_objects.specs.declared.address.Addr.{Addr}
use Rattle.nfs_engine.specs.Book.{StandsFor, store_in}
use Rattle.nfs_engine.specs.Engine.{EngineValue, KeepsCounters, held_among}

-- the store stands for what it stood for, and all else is as it was
pub record Clears (old new : EngineValue) : Type 0 where
  pub stands : (m : State) → StandsFor (store_in old.book) m → StandsFor (store_in new.book) m
  pub rest : new.book ≡ record old.book { objects = new.book.objects }
  pub held : (a : Addr) (j : ℕ) → held_among new.shards a j ≡ held_among old.shards a j
  pub counters : KeepsCounters old new
