-- What a call wants to read next.
use Rattle.std.specs.Prelude.{ℕ, List}
use Rattle.nfs_objects.specs.Asks.{Asks, AsksNumbers, MayAsk}
use Rattle.nfs_objects.specs.Values.{ModesValue, ViewValue}
use Rattle.nfs_objects.specs.declared.address.Addr.{Addr}
use Rattle.nfs_inodes.specs.declared.wishes.Want.{Want}
use Rattle.nfs_inodes.specs.declared.wishes.Want.TheVariants.{Address, Addresses, Numbers}

-- who names these, and may want so many numbers, may ask for it on the view, all at once
abbrev pub IsWanted : ModesValue → (named : List Addr) → (numbers : ℕ) → ViewValue → Want → Type 0
IsWanted modes named numbers view (Address a) = MayAsk modes named view a
IsWanted modes named numbers view (Addresses asked) = Asks modes named view asked.items
IsWanted modes named numbers view (Numbers count) = AsksNumbers numbers view count
