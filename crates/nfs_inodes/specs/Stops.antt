-- What readers and makers of this crate may halt with.
use Rattle.std.specs.Prelude.{◌≡◌, ℕ, List, [], ◌∷◌, ◌++◌, Option, Some, None, IsSome, ◌⊎◌}
use Rattle.std.specs.Prelude.{Result, MatchResult, option_map}
use Rattle.nfs_machine.specs.Handles.{handle_of}
use Rattle.nfs_objects.specs.Asks.{Lacks, IsThere}
use Rattle.nfs_objects.specs.Attempt.{StopsCall}
use Rattle.nfs_objects.specs.Calls.{addresses_of, objects_at}
use Rattle.nfs_objects.specs.Fits.{Fits}
use Rattle.nfs_objects.specs.Stands.{StoreMeaning, Represents, exports_of, inode_in}
use Rattle.nfs_objects.specs.Store.{Store, with_writes}
use Rattle.nfs_objects.specs.Sums.{group_of}
use Rattle.nfs_objects.specs.Values.{DraftValue, ViewValue, known_at}
use Rattle.nfs_objects.specs.declared.address.Addr.{Addr}
use Rattle.nfs_objects.specs.declared.address.Addr.TheVariants as addresses
use Rattle.nfs_objects.specs.declared.change.Missing.{Missing}
use Rattle.nfs_objects.specs.declared.object.Inode.{Inode}
use Rattle.nfs_inodes.specs.Known.{HasInode}

-- some of these addresses are asked for, or others at which something stands; or there is no memory
abbrev pub StopsAt : DraftValue → List Addr → Missing → Type 0
StopsAt d asked halt = StopsCall d.modes asked 0 d.view halt

-- the same where an object is made; or a number is asked for
abbrev pub StopsMaking : DraftValue → List Addr → Missing → Type 0
StopsMaking d asked halt = StopsCall d.modes asked 1 d.view halt

-- ---- of an object
-- the inode that a draft knows at a number, if its export lives
abbrev pub inode_at : DraftValue → (number : ℕ) → Option Inode
inode_at d number = elim (known_at d addresses.Exports) [
  | None ↦ None
  | Some exports ↦ elim (known_at d (addresses.Inode number)) [
    | None ↦ None
    | Some object ↦ inode_in (exports_of exports) object
  ]
]

-- the address of what the group of an object uses
abbrev pub group_at : (number : ℕ) → Option Inode → List Addr
group_at number None = []
group_at number (Some i) = addresses.Usage i.export (group_of number) ∷ []

-- the addresses of the object at a number, with that of what its group uses
abbrev pub counted_at : DraftValue → (number : ℕ) → List Addr
counted_at d number = addresses_of d.view number ++ group_at number (inode_at d number)

-- each store that the draft's view fits, and that stands for something, does so once the draft is written
abbrev pub StillStands : DraftValue → Type 0
StillStands d = (s : Store) (k : StoreMeaning) → Fits d.view s → Represents s k →
    (new : StoreMeaning) × Represents (with_writes s d.writes) new

-- What may be asked for where the object at a number is counted anew: what its group uses stands there, if the draft
-- knows an object. So do the maps and blocks of its file, as the draft still stands for something.
pub record UsageLives (d : DraftValue) (number : ℕ) : Type 0 where
  pub usage : (i : Inode) → HasInode d number (Some i) → IsThere d.view (addresses.Usage i.export (group_of number))
  pub stands : StillStands d

-- ---- of a handle
-- what a call that brings the handle may ask for
abbrev pub brought_by : ViewValue → (handle : List ℕ) → List Addr
brought_by view handle = addresses.Exports ∷ objects_at view (handle ∷ [])

-- it is a handle of this export
abbrev pub IsOfExport : List ℕ → (export : ℕ) → Type 0
IsOfExport handle export = option_map (λ h. h.export) (handle_of handle) ≡ Some export

-- ---- of what is known
-- the draft knows what is at the address, or asks for it
abbrev pub ReadsAt : {A : Type 0} → DraftValue → Addr → Result A Missing → Type 0
ReadsAt d a result = MatchResult result (λ x. IsSome (known_at d a)) (Lacks d a)

-- the draft knows the exports, and what stands at a number
pub record KnowsAt (d : DraftValue) (number : ℕ) : Type 0 where
  pub exports : IsSome (known_at d addresses.Exports)
  pub object : IsSome (known_at d (addresses.Inode number))

-- the draft knows both, or asks for the one that it lacks
abbrev pub ReadsInode : {A : Type 0} → DraftValue → (number : ℕ) → Result A Missing → Type 0
ReadsInode d number result = MatchResult result (λ x. KnowsAt d number)
    (λ halt. Lacks d addresses.Exports halt ⊎ Lacks d (addresses.Inode number) halt)
