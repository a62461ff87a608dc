-- What calls that are over, or that begin anew, let go.
use Rattle.std.specs.Prelude.{ℕ, Bool, List}
use Rattle.nfs_objects.specs.Values.{ViewValue}
use Rattle.nfs_engine.specs.declared.release.Then.{Then}

pub record ReleaseValue : Type 0 where
  pub id : ℕ
  pub view : ViewValue
  -- which shards are let go
  pub done : List Bool
  pub after : Then
