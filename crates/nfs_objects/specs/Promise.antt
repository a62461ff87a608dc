-- What a call's end promises, of every store.
use Rattle.std.specs.Prelude.{◌≡◌, ℕ, List, Option, Some, ◌⊎◌, slice_get}
use Rattle.std.specs.List.{AllByRecursion}
use Rattle.nfs_machine.specs.Step.{Step}
use Rattle.nfs_machine.specs.WellFormed.{WellFormed}
use Rattle.nfs_objects.specs.Fits.{Fits}
use Rattle.nfs_objects.specs.Sound.{Sound}
use Rattle.nfs_objects.specs.Stands.{StoreMeaning, Represents}
use Rattle.nfs_objects.specs.Store.{Store, with_writes}
use Rattle.nfs_objects.specs.Values.{DoneValue, ViewValue, held_at, shown_at}
use Rattle.nfs_objects.specs.declared.address.Addr.{Addr}
use Rattle.nfs_objects.specs.declared.address.Addr.TheVariants as addresses
use Rattle.nfs_objects.specs.declared.modes.Mode.TheVariants.{Exclusive}
use Rattle.nfs_objects.specs.declared.object.Inode.{Inode}
use Rattle.nfs_objects.specs.declared.object.Object.{Object}
use Rattle.nfs_objects.specs.declared.object.Object.TheVariants as objects

-- only what is held alone is written
abbrev pub Held : ViewValue → List (Addr × Option Object) → Type 0
Held view writes = AllByRecursion (λ (w : Addr × Option Object). held_at view.entries w.0 ≡ Some Exclusive) writes

-- an inode of this generation lives at the number, as the view shows
abbrev pub ShowsGeneration : ViewValue → (number generation : ℕ) → Type 0
ShowsGeneration view number generation = (old : Inode) ×
    (shown_at view.entries (addresses.Inode number) ≡ Some (Some (objects.Inode old))) ×
    (old.generation ≡ generation)

-- the number may be given, with this generation
abbrev pub IsReserved : ViewValue → (number generation : ℕ) → Type 0
IsReserved view number generation = (k : ℕ) ×
    (slice_get view.reserved k ≡ Some (record { number = number; generation = generation }))

abbrev pub IsGeneration : ViewValue → (number generation : ℕ) → Type 0
IsGeneration view number generation = ShowsGeneration view number generation ⊎ IsReserved view number generation

-- an inode is written with the generation that lives there, or with the one that the view reserved for its number
abbrev pub IsGiven : ViewValue → Addr → Option Object → Type 0
IsGiven view (addresses.Inode number) (Some (objects.Inode i)) = IsGeneration view number i.generation
IsGiven view address object = Unit {0}

abbrev pub Given : ViewValue → List (Addr × Option Object) → Type 0
Given view writes = AllByRecursion (λ (w : Addr × Option Object). IsGiven view w.0 w.1) writes

-- at this store, which stands for this, the end is a step of the machine, and all is sound after it
pub record IsStep (d : DoneValue) (s : Store) (k : StoreMeaning) : Type 0 where
  pub new : StoreMeaning
  pub step : Step k.state d.ctx d.call d.change.reply d.change.messages new.state
  pub stands : Represents (with_writes s d.change.writes) new
  pub sound : Sound new
  pub formed : WellFormed new.state

-- the promise of a call's end, which the type of `nfs_engine`'s `Finished` keeps
pub record IsPromised (d : DoneValue) : Type 0 where
  -- whatever the store, if it is sound, and the view fits it
  pub kept : (s : Store) (k : StoreMeaning) → Fits d.view s → Represents s k → Sound k → WellFormed k.state →
      IsStep d s k
  pub held : Held d.view d.change.writes
  pub given : Given d.view d.change.writes
