-- Of which kind the objects are that a draft shows.
use Rattle.std.specs.Prelude.{◌≡◌, ◌==◌, ℕ, false, Option, Some, option_map}
use Rattle.nfs_wire.specs.declared.attributes.FileType.{FileType}
use Rattle.nfs_machine.specs.Attributes.{type_of}
use Rattle.nfs_objects.specs.FileMaps.{FileMapValue}
use Rattle.nfs_objects.specs.Stands.{content_of}
use Rattle.nfs_objects.specs.Values.{DraftValue, known_at}
use Rattle.nfs_objects.specs.declared.address.Addr.TheVariants as addresses
use Rattle.nfs_objects.specs.declared.directory.Directory.{Directory}
use Rattle.nfs_objects.specs.declared.object.Content.TheVariants as contents
use Rattle.nfs_objects.specs.declared.object.Inode.{Inode}
use Rattle.nfs_inodes.specs.Known.{HasInode}
use Rattle.nfs_inodes.specs.Stops.{inode_at}
use Rattle.nfs_inodes.specs.declared.found.Known.{Known}

-- the kind of an inode
abbrev pub kind_of : Inode → FileType
kind_of i = type_of (content_of i.content)

-- the kind of what a draft shows at a number, if anything lives there
abbrev pub kind_at : DraftValue → (number : ℕ) → Option FileType
kind_at d number = option_map kind_of (inode_at d number)

-- the draft shows at its number that it lives, and is of its kind
abbrev pub IsShown : DraftValue → Known → Type 0
IsShown d x = kind_at d x.number ≡ Some x.attributes.kind

-- what is shown of kinds is as before
abbrev pub KeepsKinds : (old new : DraftValue) → Type 0
KeepsKinds old new = (n : ℕ) → kind_at new n ≡ kind_at old n

-- what is known of inodes at other numbers than this is as before
abbrev pub KeepsOthers : (old new : DraftValue) → (number : ℕ) → Type 0
KeepsOthers old new number = (n : ℕ) → (number == n) ≡ false →
    known_at new (addresses.Inode n) ≡ known_at old (addresses.Inode n)

-- the file with this map stands at a number
pub record HasFile (d : DraftValue) (number : ℕ) (i : Inode) (map : FileMapValue) : Type 0 where
  pub inode : HasInode d number (Some i)
  pub content : i.content ≡ contents.Regular map

-- this directory stands at a number
pub record HasDirectory (d : DraftValue) (number : ℕ) (i : Inode) (directory : Directory) : Type 0 where
  pub inode : HasInode d number (Some i)
  pub content : i.content ≡ contents.Directory directory
