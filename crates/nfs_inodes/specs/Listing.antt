-- The entries of a directory as they are listed (RFC 1813, 3.3.16).
use Rattle.std.specs.Prelude.{◌≡◌, ◌≤◌, ◌++◌, ℕ, Bool, true, false, List, [], codes, length}
use Rattle.nfs_machine.specs.Pages.{all_entries, behind}
use Rattle.nfs_machine.specs.State.{Entry}
use Rattle.nfs_inodes.specs.declared.content.listing.EntryName.{EntryName}
use Rattle.nfs_inodes.specs.declared.content.listing.EntryName.TheVariants as names
use Rattle.nfs_inodes.specs.declared.content.listing.ListedEntry.{ListedEntry}

-- the bytes of a name
abbrev pub name_of : EntryName → List ℕ
name_of names.Own = codes "."
name_of names.Above = codes ".."
name_of (names.Added name) = name.now

abbrev pub listed_entry : ListedEntry → Entry
listed_entry l = record { name = name_of l.name; number = l.number; cookie = l.cookie }

-- of the two names that every directory has (3.3.16), those behind a cookie
abbrev pub dots_behind : (number parent cookie : ℕ) → List Entry
dots_behind number parent cookie = behind cookie (all_entries number parent [])

-- these are the first of some entries: all of them, or at least so many
pub record IsFrontOf (front : List Entry) (is_all : Bool) (enough : ℕ) (entries : List Entry) : Type 0 where
  pub rest : List Entry
  pub whole : entries ≡ front ++ rest
  pub all : is_all ≡ true → rest ≡ []
  pub many : is_all ≡ false → enough ≤ length front
