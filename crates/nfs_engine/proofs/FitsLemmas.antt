-- A view fits a store where what it has read stands there, and its numbers are not spent.
use Rattle.std.proofs.Common.{◌≡◌, Bool, true, List, [], ◌∷◌, Some}
use Rattle.std.specs.Bool.{Decides}
use Rattle.std.specs.List.{AllByRecursion}
use Rattle.nfs_objects.specs.Fits.{Fits, HoldsReserved, vacant}
use Rattle.nfs_objects.specs.Store.{Store}
use Rattle.nfs_objects.specs.Values.{Seen, ViewValue, seen_at}
use Rattle.nfs_objects.specs.declared.address.Addr.TheVariants as addresses
use Rattle.nfs_objects.specs.declared.view.Reserved.{Reserved}
use Rattle.nfs_engine.specs.Tables.{Stands, Unspent}

module _ (s : Store) (es : List Seen) where
  abbrev IsVacant : Reserved → Type 0
  IsVacant r = seen_at es (addresses.Inode r.number) ≡ Some (vacant r)

  both : (rs : List Reserved) → AllByRecursion IsVacant rs → AllByRecursion (Unspent s) rs →
      AllByRecursion (λ (r : Reserved). IsVacant r × Unspent s r) rs
  both [] holds unspent = tt
  both (r ∷ rs) holds unspent = ((holds.0, unspent.0), both rs holds.1 unspent.1)

  second : (rs : List Reserved) → AllByRecursion (λ (r : Reserved). IsVacant r × Unspent s r) rs →
      AllByRecursion (Unspent s) rs
  second [] all = tt
  second (r ∷ rs) all = (all.0.1, second rs all.1)

pub fitting : (s : Store) (v : ViewValue) (entries numbers : Bool) → HoldsReserved v → entries ≡ true
    → Decides entries (AllByRecursion (Stands s) v.entries)
    → Decides numbers (AllByRecursion (Unspent s) v.reserved)
    → Decides numbers (Fits v s)
fitting s v entries numbers kept shown shows gives = (
  λ t. record { entries = shows.0 shown; reserved = both s v.entries v.reserved kept (gives.0 t) },
  λ fits. gives.1 (second s v.entries v.reserved fits.reserved),
)
