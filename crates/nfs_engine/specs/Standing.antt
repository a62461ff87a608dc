-- At how many addresses of a store something stands.
use Rattle.std.specs.Prelude.{◌≡◌, ℕ, ◌+◌, ◌-◌, ◌^◌, Bool, true, false, List, is_some, length, min}
use Rattle.std.specs.List.{IsDistinct}
use Rattle.std.specs.Set.{is_member}
use Rattle.nfs_objects.specs.Store.{Store}
use Rattle.nfs_objects.specs.Values.{is_addr}
use Rattle.nfs_objects.specs.declared.address.Addr.{Addr}

-- something stands at so many addresses of the store: at these, each once, and at no other
pub record HasObjects (s : Store) (count : ℕ) : Type 0 where
  pub addresses : List Addr
  pub once : IsDistinct is_addr addresses
  pub which : (a : Addr) → is_member is_addr addresses a ≡ is_some (s.at a)
  pub count_is : count ≡ length addresses

-- how many they are once something stands at an address or not, where something stood there or not
abbrev pub count_after : ℕ → (stood stands : Bool) → ℕ
count_after count true true = count
count_after count true false = count - 1
count_after count false true = min (count + 1) (2 ^ 64 - 1)
count_after count false false = count
