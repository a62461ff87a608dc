-- What is true of every state that a run comes to: names lead to living objects, and directories form one tree in
-- each export, below its root.
use Rattle.std.specs.Prelude.{◌≡◌, ℕ, ◌<◌, ◌≤◌, ◌^◌, Bool, true, false, List, [], ◌∷◌}
use Rattle.std.specs.Prelude.{length, Some, IsSome}
use Rattle.std.specs.Prelude.{◌==◌, ◌⊎◌}
use Rattle.std.specs.List.{AllByRecursion, list_any}
use Rattle.std.specs.FinMap.{get}
use Rattle.nfs_machine.specs.Attributes.{entries_of, is_directory, is_living_directory, names_in, names_of}
use Rattle.nfs_machine.specs.Bytes.{same_bytes}
use Rattle.nfs_machine.specs.Checks.{text_limit}
use Rattle.nfs_machine.specs.Exports.{LivingExport, export_at}
use Rattle.nfs_machine.specs.Paths.{parts}
use Rattle.nfs_machine.specs.LocksFormed.{LocksFormed}
use Rattle.nfs_machine.specs.MountSteps.{is_of}
use Rattle.nfs_machine.specs.State.{Directory, Link, Entry, Living, State}
use Rattle.side_wire.specs.declared.mount.lists.MountBody.{MountBody}

-- a living export names this object as its root
abbrev pub is_root : State → ℕ → Bool
is_root m number = list_any (λ (e : LivingExport). e.root == number) m.exports

-- two exports have not the same number, root or path (parts between slashes)
pub record AreApart (a b : LivingExport) : Type 0 where
  pub numbers : (a.number == b.number) ≡ false
  pub roots : (a.root == b.root) ≡ false
  pub paths : parts a.path ≡ parts b.path → ⊥

-- so is each of them from those behind it
abbrev pub AllApart : List LivingExport → Type 0
AllApart [] = Unit {0}
AllApart (e ∷ exports) = AllByRecursion (AreApart e) exports × AllApart exports

-- the number of an export is from 1, has 32 bits, and is not above the greatest that was ever used
abbrev pub IsNumbered : ℕ → LivingExport → Type 0
IsNumbered last e = (1 ≤ e.number) × (e.number < 2 ^ 32) × (e.number ≤ last)

-- the root of an export lives, and is a directory of the export; no name leads to it (Leads)
pub record HasRoot (m : State) (e : LivingExport) : Type 0 where
  pub root : Living
  pub lives : get m.objects e.root ≡ Some root
  pub own : root.export ≡ e.number
  pub directory : is_directory root.content ≡ true

-- of the exports: at most 64, each with a number and a root of its own
pub record ExportsStand (m : State) : Type 0 where
  pub few : length m.exports ≤ 64
  pub numbered : AllByRecursion (IsNumbered m.last_export) m.exports
  pub apart : AllApart m.exports
  pub rooted : AllByRecursion (HasRoot m) m.exports

-- each name once
abbrev pub NamesOnce : List Entry → Type 0
NamesOnce [] = Unit {0}
NamesOnce (e ∷ entries) = AllByRecursion (λ (f : Entry). same_bytes e.name f.name ≡ false) entries ×
    NamesOnce entries

-- cookies rise from above the first number, up to the last at most
abbrev pub CookiesRise : ℕ → List Entry → ℕ → Type 0
CookiesRise below [] last = below ≤ last
CookiesRise below (e ∷ entries) last = (below < e.cookie) × CookiesRise e.cookie entries last

-- the name leads to a living object of the directory's export, which is no root
pub record Leads (m : State) (directory : Living) (e : Entry) : Type 0 where
  pub object : Living
  pub lives : get m.objects e.number ≡ Some object
  pub export : object.export ≡ directory.export
  pub no_root : is_root m e.number ≡ false

-- of a directory: each name once, and each leads to a living object of its export
pub record IsDirectoryOf (m : State) (directory : Living) : Type 0 where
  pub once : NamesOnce (entries_of directory.content)
  pub leads : AllByRecursion (Leads m directory) (entries_of directory.content)

-- the text of each link is within its bound (3.3.10)
abbrev pub TextsFit : State → Type 0
TextsFit m = (n : ℕ) (o : Living) (text : List ℕ) → get m.objects n ≡ Some o → o.content ≡ Link text →
    length text ≤ text_limit

-- each pair of a host and a path once
abbrev pub MountsOnce : List MountBody → Type 0
MountsOnce [] = Unit {0}
MountsOnce (x ∷ mounts) = AllByRecursion (λ (y : MountBody). is_of x.hostname x.directory y ≡ false) mounts ×
    MountsOnce mounts

-- and no more of them than are kept
pub record MountsFormed (mounts : List MountBody) : Type 0 where
  pub once : MountsOnce mounts
  pub few : length mounts ≤ 65536

pub record WellFormed (m : State) : Type 0 where
  pub exports : ExportsStand m
  -- what lives is of a living export
  pub exported : (n : ℕ) (o : Living) → get m.objects n ≡ Some o → IsSome (export_at m.exports o.export)
  pub names : (n : ℕ) (o : Living) → get m.objects n ≡ Some o → IsDirectoryOf m o
  -- "." and ".." have the cookies 1 and 2, and the names of a directory those above
  pub cookies : (n : ℕ) (o : Living) (entries : List Entry) (last : ℕ) → get m.objects n ≡ Some o →
      o.content ≡ Directory entries last → CookiesRise 2 entries last
  -- what is no root has a name, and a directory has one
  pub named : (n : ℕ) (o : Living) → get m.objects n ≡ Some o → is_root m n ≡ false → 1 ≤ names_of m n
  pub one_name : (n : ℕ) (o : Living) → get m.objects n ≡ Some o → is_directory o.content ≡ true →
      names_of m n ≤ 1
  -- no directory is below itself: each is deeper than the one that it is named in
  pub depth : ℕ → ℕ
  pub deeper : (n : ℕ) (o : Living) → get m.objects n ≡ Some o
      → AllByRecursion (λ (e : Entry). is_living_directory (get m.objects e.number) ≡ true →
      depth n < depth e.number) (entries_of o.content)
  -- the generation of what lives was given
  pub given : (n : ℕ) (o : Living) → get m.objects n ≡ Some o → m.spent n o.generation ≡ true
  pub texts : TextsFit m
  pub locks : LocksFormed m
  pub mounts : MountsFormed m.mounts

-- the directory that a directory is named in; a root is its own parent
pub record IsParent (m : State) (number parent : ℕ) : Type 0 where
  pub directory : Living
  pub lives : get m.objects parent ≡ Some directory
  pub named_in : (parent ≡ number) × (is_root m number ≡ true) ⊎ (1 ≤ names_in number directory)
