-- The roots of new exports, as numbers were reserved for them.
use Rattle.std.specs.Prelude.{ℕ, suc, ◌-◌, List, Option, Some, None, slice_get}
use Rattle.nfs_machine.specs.Replacing.{RootChoice}
use Rattle.nfs_objects.specs.declared.view.Reserved.{Reserved}

-- a reserved number with its generation; where there is none, no matter which
abbrev pub choice_of : Option Reserved → RootChoice
choice_of None = record { number = 0; generation = 0 }
choice_of (Some r) = record { number = r.number; generation = r.generation }

-- the root of the export with a number above the last: the reserved numbers are taken in order
abbrev pub root_choice : List Reserved → (last : ℕ) → (number : ℕ) → RootChoice
root_choice reserved last number = choice_of (slice_get reserved (number - suc last))
