-- What a draft keeps, and what may be written to it.
use Rattle.std.specs.Prelude.{◌≡◌, ℕ, List, Option, Some, ◌⊎◌}
use Rattle.nfs_objects.specs.Modes.{Suits, held_mode}
use Rattle.nfs_objects.specs.Promise.{Given, Held, IsReserved}
use Rattle.nfs_objects.specs.Values.{DraftValue, ModesValue, ViewValue, known_at}
use Rattle.nfs_objects.specs.declared.address.Addr.{Addr}
use Rattle.nfs_objects.specs.declared.address.Addr.TheVariants as addresses
use Rattle.nfs_objects.specs.declared.modes.Mode.TheVariants.{Exclusive}
use Rattle.nfs_objects.specs.declared.object.Inode.{Inode}
use Rattle.nfs_objects.specs.declared.object.Object.{Object}
use Rattle.nfs_objects.specs.declared.object.Object.TheVariants as objects

-- what a draft keeps from its first write to its last
pub record IsDraft (modes : ModesValue) (view : ViewValue) (writes : List (Addr × Option Object)) : Type 0 where
  pub suits : Suits modes view
  pub held : Held view writes
  pub given : Given view writes

-- what stands at the address may be changed: the call wants it alone
abbrev pub MayChange : DraftValue → Addr → Type 0
MayChange d a = held_mode d.modes d.view a ≡ Exclusive

-- an inode of this generation is known to live at the number
abbrev pub KnowsGeneration : DraftValue → (number generation : ℕ) → Type 0
KnowsGeneration d number generation = (old : Inode) ×
    (known_at d (addresses.Inode number) ≡ Some (Some (objects.Inode old))) × (old.generation ≡ generation)

-- an inode keeps the generation that lives at its number, or has the one that was reserved for it
abbrev pub MayGive : DraftValue → (number generation : ℕ) → Type 0
MayGive d number generation = KnowsGeneration d number generation ⊎ IsReserved d.view number generation

abbrev pub MayWrite : DraftValue → Addr → Option Object → Type 0
MayWrite d (addresses.Inode number) (Some (objects.Inode i)) = MayGive d number i.generation
MayWrite d address object = Unit {0}
