-- What calls of MOUNT do to the state (RFC 1813, 5.2).
use Rattle.std.specs.Prelude.{◌≡◌, ℕ, List}
use Rattle.nfs_machine.specs.MountSteps.{with_mount, without_mounts}
use Rattle.nfs_machine.specs.State.{State}
use Rattle.nfs_objects.specs.Knows.{Knows, Turns}
use Rattle.nfs_objects.specs.Leaving.{leaves}
use Rattle.nfs_objects.specs.MountTables.{mounted}
use Rattle.nfs_objects.specs.Stands.{StoreMeaning}
use Rattle.nfs_objects.specs.Values.{DraftValue}
use Rattle.nfs_objects.specs.declared.mounts.Leaving.{Leaving}

-- this is the state from now on, and what is kept beside it stays
pub record ChangesState (old new : DraftValue) (after : State → State) : Type 0 where
  pub op : StoreMeaning → StoreMeaning
  pub turns : Turns old new op
  pub changes : Knows old (λ k. op k ≡ record k { state = after k.state })

-- the path is listed for the caller's host from now on, and nothing else changes
abbrev pub AddsMount : DraftValue → DraftValue → List ℕ → Type 0
AddsMount old new path = ChangesState old new (λ m. with_mount m (mounted old.ctx.host path))

-- the mounts that leave are listed no more, and nothing else changes
abbrev pub TakesMounts : DraftValue → DraftValue → Leaving → Type 0
TakesMounts old new leaving = ChangesState old new (λ m. without_mounts m (leaves leaving))
