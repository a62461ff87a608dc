-- How procedures begin.
use Rattle.std.specs.Prelude.{◌≡◌, []}
use Rattle.nfs_machine.specs.declared.calls.Call.{Call}
use Rattle.nfs_objects.specs.Modes.{modes_of}
use Rattle.nfs_objects.specs.Values.{DraftValue}

-- the call begins with a draft that has no write and no message, in the modes of the call
pub record Begins (call : Call) (d : DraftValue) : Type 0 where
  pub none : d.writes ≡ []
  pub quiet : d.messages ≡ []
  pub modes : d.modes ≡ modes_of call
