-- Which views fit a store.
use Rattle.std.specs.Prelude.{◌≡◌, ◌<◌, ◌==◌, false, List, [], ◌∷◌, Some, None}
use Rattle.std.specs.List.{AllByRecursion}
use Rattle.nfs_objects.specs.declared.address.Addr.TheVariants as addresses
use Rattle.nfs_objects.specs.declared.modes.Mode.TheVariants.{Exclusive}
use Rattle.nfs_objects.specs.declared.view.Reserved.{Reserved}
use Rattle.nfs_objects.specs.Store.{Store}
use Rattle.nfs_objects.specs.Values.{Seen, ViewValue, seen_at}

-- the entry of a number that may be given: nothing stands there, and it is held alone
abbrev pub vacant : Reserved → Seen
vacant r = record { address = addresses.Inode r.number; mode = Exclusive; object = None }

-- each number that may be given has its entry
abbrev pub HoldsReserved : ViewValue → Type 0
HoldsReserved v = AllByRecursion (λ (r : Reserved). seen_at v.entries (addresses.Inode r.number) ≡ Some (vacant r))
    v.reserved

-- no two of these numbers are the same
abbrev pub NumbersApart : List Reserved → Type 0
NumbersApart [] = Unit {0}
NumbersApart (r ∷ reserved) = AllByRecursion (λ (q : Reserved). (r.number == q.number) ≡ false) reserved ×
    NumbersApart reserved

-- what is true of every view
pub record IsView (v : ViewValue) : Type 0 where
  pub held : HoldsReserved v
  pub apart : NumbersApart v.reserved

-- the view is true of the store, and its numbers are free there, with generations that were never given
pub record Fits (v : ViewValue) (s : Store) : Type 0 where
  pub entries : AllByRecursion (λ (e : Seen). s.at e.address ≡ e.object) v.entries
  pub reserved : AllByRecursion
      (λ (r : Reserved). (seen_at v.entries (addresses.Inode r.number) ≡ Some (vacant r)) ×
      (s.last r.number < r.generation))
      v.reserved
