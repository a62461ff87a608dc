-- Laws over the steps of an engine.
use Rattle.std.specs.Prelude.{◌≢◌, ℕ}
use Rattle.nfs_engine.specs.Calls.{TxnValue}
use Rattle.nfs_engine.specs.Engine.{EngineValue, IsLeaving, KeepsOthers, Lives}
use Rattle.nfs_engine.specs.Releases.{ReleaseValue}

-- each other call lives on: its view still fits, and it holds what it held
abbrev pub OthersLiveOn : Type 0
OthersLiveOn = (id : ℕ) (old new : EngineValue) → KeepsOthers id old new → (t : TxnValue) → t.id ≢ id →
    Lives old t → Lives new t

-- each other call that left still holds what it held
abbrev pub OthersLeaveOn : Type 0
OthersLeaveOn = (id : ℕ) (old new : EngineValue) → KeepsOthers id old new → (r : ReleaseValue) → r.id ≢ id →
    IsLeaving old r → IsLeaving new r
