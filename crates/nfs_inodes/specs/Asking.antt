-- Addresses that are asked for at once.
use Rattle.std.specs.Prelude.{◌≡◌, List, ◌++◌, ◌∷◌, [], Some, None, IsSome}
use Rattle.std.specs.List.{AllByRecursion}
use Rattle.nfs_objects.specs.Asks.{EachOnce, MayAsk}
use Rattle.nfs_objects.specs.Modes.{held_mode}
use Rattle.nfs_objects.specs.Values.{DraftValue, known_at}
use Rattle.nfs_objects.specs.declared.address.Addr.{Addr}
use Rattle.nfs_objects.specs.declared.modes.Mode.{Mode}

-- an address besides, where the draft does not know it, in the mode in which it is wanted
abbrev pub with_wish : DraftValue → Addr → List (Addr × Mode) → List (Addr × Mode)
with_wish d a asked = elim (known_at d a) [
  | Some object ↦ asked
  | None ↦ asked ++ (a, held_mode d.modes d.view a) ∷ []
]

-- each address of these is asked for once, and each may be by who names some
pub record IsAsking (d : DraftValue) (named : List Addr) (asked : List (Addr × Mode)) : Type 0 where
  pub once : EachOnce asked
  pub each : AllByRecursion (MayAsk d.modes named d.view) asked

-- a wish for such an address, which the draft does not know, in the mode in which it is wanted
pub record IsWish (d : DraftValue) (May : Addr → Type 0) (a : Addr × Mode) : Type 0 where
  pub unknown : known_at d a.0 ≡ None
  pub mode : a.1 ≡ held_mode d.modes d.view a.0
  pub may : May a.0

-- what is asked for has grown by wishes for addresses that may be asked for, each once; where it has not, the draft
-- knows what must be known
pub record AsksFor (d : DraftValue) (May Must : Addr → Type 0) (old new : List (Addr × Mode)) : Type 0 where
  pub more : List (Addr × Mode)
  pub grown : new ≡ old ++ more
  pub once : EachOnce more
  pub each : AllByRecursion (IsWish d May) more
  pub known : more ≡ [] → (a : Addr) → Must a → IsSome (known_at d a)
