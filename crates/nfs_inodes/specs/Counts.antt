-- How objects are counted anew in what their exports use.
use Rattle.std.specs.Prelude.{◌≡◌, ◌<◌, ℕ, true, false, List, Option, Some, None, option_map}
use Rattle.std.specs.FinMap.{get}
use Rattle.std.specs.List.{AllByRecursion}
use Rattle.nfs_machine.specs.Attributes.{used_of}
use Rattle.nfs_objects.specs.Asks.{EachOnce}
use Rattle.nfs_objects.specs.Edits.{recounted}
use Rattle.nfs_objects.specs.Modes.{held_mode}
use Rattle.nfs_objects.specs.Stands.{StoreMeaning, content_of}
use Rattle.nfs_objects.specs.Sums.{group_of, is_same_usage, moved, no_usage, one_using, shares_of, usage_of}
use Rattle.nfs_objects.specs.Values.{DraftValue, known_at}
use Rattle.nfs_objects.specs.declared.address.Addr.{Addr}
use Rattle.nfs_objects.specs.declared.address.Addr.TheVariants as addresses
use Rattle.nfs_objects.specs.declared.modes.Mode.{Mode}
use Rattle.nfs_objects.specs.declared.object.Inode.{Inode}
use Rattle.nfs_objects.specs.declared.usage.Usage.{Usage}
use Rattle.nfs_inodes.specs.declared.usage.Share.{Share}

-- an inode has this of its export
abbrev pub IsShareOf : Inode → Share → Type 0
IsShareOf i share = share ≡ record { export = i.export; usage = one_using (used_of (content_of i.content)) }

-- what lives at a number is counted no more
abbrev pub uncounted : (number : ℕ) → StoreMeaning → StoreMeaning
uncounted number k = recounted number (shares_of (get k.state.objects number)) (λ e. no_usage) k

-- the group uses this, once the object at a number has the one share in the place of the other
abbrev pub IsCount : DraftValue → (export number : ℕ) → (before after : Usage) → Option Usage → Type 0
IsCount d export number before after None = is_same_usage before after ≡ true
IsCount d export number before after (Some u) = (is_same_usage before after ≡ false) ×
    (was : Usage) × (option_map usage_of (known_at d (addresses.Usage export (group_of number))) ≡ Some was) ×
    (u ≡ moved before after was)

-- what is known of inodes, of the blocks of files and of the exports is as before
pub record KeepsInodes (old new : DraftValue) : Type 0 where
  pub inodes : (n : ℕ) → known_at new (addresses.Inode n) ≡ known_at old (addresses.Inode n)
  pub blocks : (n i : ℕ) → known_at new (addresses.Block n i) ≡ known_at old (addresses.Block n i)
  pub exports : known_at new addresses.Exports ≡ known_at old addresses.Exports

-- ---- what all groups of an export use
-- a group of the first so many, of which the draft does not know what it uses; it is asked for in this mode
pub record IsUnread (d : DraftValue) (export count : ℕ) (asked : Addr × Mode) : Type 0 where
  pub group : ℕ
  pub below : group < count
  pub address : asked ≡ (addresses.Usage export group, held_mode d.modes d.view (addresses.Usage export group))
  pub unknown : known_at d (addresses.Usage export group) ≡ None

-- such groups, each once
pub record AreUnread (d : DraftValue) (export count : ℕ) (asked : List (Addr × Mode)) : Type 0 where
  pub once : EachOnce asked
  pub each : AllByRecursion (IsUnread d export count) asked
