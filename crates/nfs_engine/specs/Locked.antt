-- How many addresses of a shard are held.
use Rattle.std.specs.Prelude.{◌≡◌, ℕ, ◌-◌, ◌^◌, Bool, true, false, List, [], ◌∷◌, Option, Some}
use Rattle.std.specs.Prelude.{None, map, min, count_by}
use Rattle.std.specs.List.{IsDistinct}
use Rattle.nfs_objects.specs.declared.address.Addr.{Addr}
use Rattle.nfs_objects.specs.Values.{is_addr}
use Rattle.nfs_engine.specs.Found.{found}
use Rattle.nfs_engine.specs.Shards.{ShardValue, SlotValue, slot_of}

abbrev pub is_anybody : Option ℕ → List ℕ → Bool
is_anybody (Some h) hs = true
is_anybody None (h ∷ hs) = true
is_anybody None [] = false

-- somebody holds it
abbrev pub is_held : SlotValue → Bool
is_held v = is_anybody v.holders.alone v.holders.beside

-- These are the slots, each address once; so many of them are held, where that is a u64.
pub record IsLocked (s : ShardValue) (count : ℕ) : Type 0 where
  pub slots : List (Addr × SlotValue)
  pub once : IsDistinct is_addr (map (λ e. e.0) slots)
  pub all : (a : Addr) → found slots a ≡ slot_of s a
  pub held : count ≡ min (count_by (λ e. is_held e.1) slots) (2 ^ 64 - 1)
