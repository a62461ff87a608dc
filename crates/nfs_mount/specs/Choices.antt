-- Exports that lead to a path (RFC 1813, 5.2.1).
use Rattle.std.specs.Prelude.{◌≡◌, ℕ, true, List, ◌++◌, length}
use Rattle.std.specs.Prelude.{Option, Some, None, nat_lt, if◌then◌else◌}
use Rattle.nfs_machine.specs.Exports.{LivingExport, admits}
use Rattle.nfs_machine.specs.MountSteps.{LongestMatch}
use Rattle.nfs_machine.specs.Paths.{parts}
use Rattle.nfs_mount.specs.declared.choice.Choice.{Choice}

-- the export does not admit the host, or its names do not begin these
abbrev pub LeadsNot : LivingExport → List ℕ → List (List ℕ) → Type 0
LeadsNot export host names =
    (rest : List (List ℕ)) → admits export.value host ≡ true → names ≡ parts export.path ++ rest → ⊥

-- the choice is this export: it admits the host, its names begin these, and the rest is left
pub record IsLead (export : LivingExport) (host : List ℕ) (names : List (List ℕ)) (choice : Choice) : Type 0 where
  pub root_is : choice.root ≡ export.root
  pub admitted : admits export.value host ≡ true
  pub begins : names ≡ parts export.path ++ choice.rest
  pub depth_is : choice.depth ≡ length (parts export.path)

-- the one of the two that has more names
abbrev pub deeper_of : Option Choice → Option Choice → Option Choice
deeper_of None other = other
deeper_of (Some best) None = Some best
deeper_of (Some best) (Some other) = if nat_lt best.depth other.depth then Some other else Some best

-- the longest of the exports that lead there has this root, and leaves these names
abbrev pub IsChosen : List LivingExport → List ℕ → List (List ℕ) → Choice → Type 0
IsChosen exports host names choice =
    (number : ℕ) × (longest : LongestMatch exports host names number choice.rest)
    × (longest.matches.export.root ≡ choice.root)
