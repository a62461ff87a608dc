-- The laws of modes.
use Rattle.std.specs.Prelude.{◌≡◌, ◌⊎◌, ℕ, [], Some, IfSome, IsSome}
use Rattle.std.specs.List.{AllByRecursion}
use Rattle.std.specs.declared.alloc.Global.{Global}
use Rattle.std.specs.declared.vec.Vec.{Vec}
use Rattle.nfs_wire.specs.declared.calls.NfsCall.TheVariants as nfs
use Rattle.nfs_wire.specs.declared.calls.DirOp.{DirOp}
use Rattle.nfs_wire.specs.declared.calls.RenameArguments.{RenameArguments}
use Rattle.nfs_machine.specs.Handles.{handle_of}
use Rattle.nfs_machine.specs.declared.calls.Call.{Call}
use Rattle.nfs_machine.specs.declared.calls.Call.TheVariants as calls
use Rattle.nfs_machine.specs.declared.context.Ctx.{Ctx}
use Rattle.nfs_machine.specs.declared.handle.Handle.{Handle}
use Rattle.nfs_objects.specs.Attempt.{Attempts}
use Rattle.nfs_objects.specs.Bound.{Gives, Round, view_after, with_round}
use Rattle.nfs_objects.specs.Modes.{Suits, led_at, held_mode, modes_of, part_address}
use Rattle.nfs_objects.specs.Values.{ViewValue, seen_at, shown_at}
use Rattle.nfs_objects.specs.declared.address.Addr.{Addr}
use Rattle.nfs_objects.specs.declared.address.Addr.TheVariants as addresses
use Rattle.nfs_objects.specs.declared.change.Outcome.{Outcome}
use Rattle.nfs_objects.specs.declared.change.Outcome.TheVariants.{Need}
use Rattle.nfs_objects.specs.declared.modes.Mode.{Mode}
use Rattle.nfs_objects.specs.declared.modes.Mode.TheVariants.{Shared, Exclusive}

-- ---- no upgrade
-- a view that has nothing suits each call
abbrev pub StartsSuitably : Type 0
StartsSuitably = (call : Call) → Suits (modes_of call) (view_after [])

-- what suits a call suits it with all that a round gives of what an attempt asked for
abbrev pub GrowsSuitably : Type 0
GrowsSuitably = (call : Call) (ctx : Ctx) (view : ViewValue) (outcome : Outcome) (round : Round) →
    Attempts call ctx view outcome → Gives outcome round → Suits (modes_of call) view →
    Suits (modes_of call) (with_round view round)

-- ---- RENAME
-- what is at this number is the directory of a name, or what the name leads to there
pub record LiesAt (view : ViewValue) (place : DirOp) (number : ℕ) : Type 0 where
  pub handle : Handle
  pub names : handle_of place.directory ≡ Some handle
  pub lies : (handle.fileid ≡ number) ⊎ (led_at view handle.fileid place.name ≡ Some number)

-- RENAME wants alone what lies at either of its names
abbrev pub RenamesHoldTheirs : Type 0
RenamesHoldTheirs = (a : RenameArguments) (view : ViewValue) (n : ℕ) →
    LiesAt view a.from n ⊎ LiesAt view a.to n →
    held_mode (modes_of (calls.Nfs (nfs.Rename a))) view (addresses.Inode n) ≡ Exclusive

-- the view has the directory of a name, the part that the name is in, and what the name leads to there
pub record ShowsPlace (view : ViewValue) (place : DirOp) : Type 0 where
  pub handle : Handle
  pub names : handle_of place.directory ≡ Some handle
  pub directory : IsSome (seen_at view.entries (addresses.Inode handle.fileid))
  pub part : IfSome (shown_at view.entries (addresses.Inode handle.fileid)) (λ object.
      IfSome (part_address handle.fileid object place.name) (λ a. IsSome (seen_at view.entries a)))
  pub object : IfSome (led_at view handle.fileid place.name) (λ n.
      IsSome (seen_at view.entries (addresses.Inode n)))

-- an inode is asked for shared
abbrev pub IsShared : Addr × Mode → Type 0
IsShared (addresses.Inode n, mode) = mode ≡ Shared
IsShared (address, mode) = Unit {0}

-- once its view has what lies at both names, RENAME asks for other inodes shared
abbrev pub RenamesShareOthers : Type 0
RenamesShareOthers = (a : RenameArguments) (ctx : Ctx) (view : ViewValue) (asked : Vec (Addr × Mode) Global) →
    Attempts (calls.Nfs (nfs.Rename a)) ctx view (Need asked) → ShowsPlace view a.from → ShowsPlace view a.to →
    AllByRecursion IsShared asked.items
