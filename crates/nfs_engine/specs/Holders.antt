-- Who holds an address, and in which mode.
use Rattle.std.specs.Prelude.{◌≡◌, ◌≢◌, ℕ, Bool, true, false, List, [], ◌∷◌, Option, Some, None}
use Rattle.std.specs.Prelude.{IsSome}
use Rattle.std.specs.Prelude.{if◌then◌else◌, ◌==◌}
use Rattle.nfs_objects.specs.declared.modes.Mode.{Mode}
use Rattle.nfs_objects.specs.declared.modes.Mode.TheVariants.{Shared, Exclusive}
use Rattle.nfs_engine.specs.declared.holders.Holders.{Holders}
use Rattle.nfs_engine.specs.declared.holders.Holders.TheVariants as holders

-- one alone, or any number beside each other
pub record HoldersValue : Type 0 where
  pub alone : Option ℕ
  pub beside : List ℕ

abbrev pub nobody : HoldersValue
nobody = record { alone = None; beside = [] }

abbrev pub holders_value : Holders → HoldersValue
holders_value holders.Nobody = nobody
holders_value (holders.One h) = record { alone = Some h; beside = [] }
holders_value (holders.Sharer h) = record { alone = None; beside = h ∷ [] }
holders_value (holders.Several hs) = record { alone = None; beside = hs }

abbrev pub is_among : List ℕ → ℕ → Bool
is_among [] j = false
is_among (h ∷ hs) j = if h == j then true else is_among hs j

abbrev pub hold_in : Option ℕ → List ℕ → ℕ → Option Mode
hold_in (Some h) hs j = if h == j then Some Exclusive else None
hold_in None hs j = if is_among hs j then Some Shared else None

-- how this one holds the address, if it does
abbrev pub hold_of : HoldersValue → ℕ → Option Mode
hold_of v j = hold_in v.alone v.beside j

-- nobody holds it in a mode that excludes this one
abbrev pub CanHold : Mode → HoldersValue → Type 0
CanHold Exclusive v = (j : ℕ) → hold_of v j ≡ None
CanHold Shared v = (j : ℕ) → hold_of v j ≢ Some Exclusive

-- this one holds it in a mode that excludes
abbrev pub Excludes : Mode → HoldersValue → ℕ → Type 0
Excludes Exclusive v h = IsSome (hold_of v h)
Excludes Shared v h = hold_of v h ≡ Some Exclusive

abbrev pub IsExcluder : Mode → HoldersValue → Option ℕ → Type 0
IsExcluder mode v None = CanHold mode v
IsExcluder mode v (Some h) = Excludes mode v h

-- one holder now holds it so, and each other as before
abbrev pub Reholds : HoldersValue → HoldersValue → ℕ → Option Mode → Type 0
Reholds old new id m = (j : ℕ) → hold_of new j ≡ (if id == j then m else hold_of old j)
