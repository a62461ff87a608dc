-- What MNT of a path comes to, as far as a draft knows (RFC 1813, 5.2.1).
use Rattle.std.specs.Prelude.{ℕ, List, [], ◌∷◌, Result, Ok, Err}
use Rattle.side_wire.specs.declared.mount.MountStatus.{MountStatus}
use Rattle.nfs_machine.specs.MountSteps.{MntAnswers, Target}
use Rattle.nfs_machine.specs.Resolve.{Named}
use Rattle.nfs_machine.specs.State.{State}
use Rattle.nfs_machine.specs.WellFormed.{WellFormed}
use Rattle.nfs_machine.specs.declared.context.Ctx.{Ctx}
use Rattle.nfs_objects.specs.Knows.{Possible}
use Rattle.nfs_objects.specs.Stands.{StoreMeaning}
use Rattle.nfs_objects.specs.Store.{Store}
use Rattle.nfs_objects.specs.Values.{DraftValue}
use Rattle.nfs_objects.specs.declared.address.Addr.{Addr}
use Rattle.nfs_objects.specs.declared.address.Addr.TheVariants as addresses
use Rattle.nfs_objects.specs.declared.change.Missing.{Missing}
use Rattle.nfs_inodes.specs.Known.{target}
use Rattle.nfs_inodes.specs.Stops.{StopsAt}
use Rattle.nfs_inodes.specs.declared.found.Known.{Known}

-- the addresses that each call of MOUNT names
abbrev pub tables : List Addr
tables = addresses.Exports ∷ addresses.Mounts ∷ []

-- what is found is so in each well-formed state, whatever the store; what halts stops the call
abbrev pub Finds : {A : Type 0} → DraftValue → (A → State → Type 0) → Result A Missing → Type 0
Finds d found (Ok x) = (s : Store) (k : StoreMeaning) → Possible d s k → WellFormed k.state → found x k.state
Finds d found (Err halt) = StopsAt d tables halt

-- the end of a walk
abbrev pub walk_end : State → Result Known MountStatus → Result Named MountStatus
walk_end m (Ok x) = Ok (target m x)
walk_end m (Err e) = Err e

-- the path names this directory for the caller, or MNT of it is refused so
abbrev pub IsTarget : Ctx → List ℕ → Result Known MountStatus → State → Type 0
IsTarget ctx path (Ok x) m = Target m ctx path (walk_end m (Ok x))
IsTarget ctx path (Err e) m = MntAnswers m ctx path (Err e) m
