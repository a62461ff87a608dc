-- The table of exports: which live, and how far numbers were used.
use Rattle.std.specs.Prelude.{◌≡◌, ◌≤◌, ◌==◌, ℕ, false, List, [], ◌∷◌, Option, length, unwrap_or}
use Rattle.std.specs.List.{AllByRecursion}
use Rattle.nfs_machine.specs.Exports.{LivingExport}
use Rattle.nfs_machine.specs.Paths.{parts}
use Rattle.nfs_machine.specs.WellFormed.{IsNumbered}

pub record ExportTableValue : Type 0 where
  -- the living exports in the order given
  pub exports : List LivingExport
  -- the greatest number that an export ever had
  pub last : ℕ

-- a table with no export, of which no number was used
abbrev pub no_exports : ExportTableValue
no_exports = record { exports = []; last = 0 }

-- an absent table is empty
abbrev pub table_in : Option ExportTableValue → ExportTableValue
table_in table = unwrap_or table no_exports

-- two exports have not the same number or path (parts between slashes); that no two have one root the state tells
pub record AreNamedApart (a b : LivingExport) : Type 0 where
  pub numbers : (a.number == b.number) ≡ false
  pub paths : parts a.path ≡ parts b.path → ⊥

abbrev pub AllNamedApart : List LivingExport → Type 0
AllNamedApart [] = Unit {0}
AllNamedApart (e ∷ exports) = AllByRecursion (AreNamedApart e) exports × AllNamedApart exports

-- what is true of every table: at most 64 exports, and no two have the same number or path
pub record IsExportTable (t : ExportTableValue) : Type 0 where
  pub few : length t.exports ≤ 64
  pub numbered : AllByRecursion (IsNumbered t.last) t.exports
  pub apart : AllNamedApart t.exports
