-- What the call that replaces the exports does to the state.
use Rattle.std.specs.Prelude.{◌≡◌, ◌<◌, ◌≤◌, ◌+◌, ℕ, true, List, [], Some, None, length}
use Rattle.std.specs.List.{AllByRecursion}
use Rattle.nfs_machine.specs.Exports.{ExportValue}
use Rattle.nfs_machine.specs.Replacing.{ReplaceStep}
use Rattle.nfs_machine.specs.WellFormed.{WellFormed}
use Rattle.nfs_machine.specs.declared.calls.Call.TheVariants as calls
use Rattle.nfs_objects.specs.Attempt.{StopsCall}
use Rattle.nfs_objects.specs.Calls.{named_by, new_numbers}
use Rattle.nfs_objects.specs.ExportTables.{ExportTableValue}
use Rattle.nfs_objects.specs.Fits.{NumbersApart}
use Rattle.nfs_objects.specs.Knows.{Possible, Turns}
use Rattle.nfs_objects.specs.Modes.{replacing}
use Rattle.nfs_objects.specs.Promise.{IsReserved}
use Rattle.nfs_objects.specs.Sound.{Sound}
use Rattle.nfs_objects.specs.Stands.{StoreMeaning, lives_in}
use Rattle.nfs_objects.specs.Store.{Store}
use Rattle.nfs_objects.specs.Values.{DraftValue, known_at}
use Rattle.nfs_objects.specs.declared.address.Addr.TheVariants as addresses
use Rattle.nfs_objects.specs.declared.change.Missing.{Missing}
use Rattle.nfs_objects.specs.declared.object.Object.TheVariants as objects
use Rattle.nfs_objects.specs.declared.view.Reserved.{Reserved}

-- in each sound state that is the machine's step, and what is kept stays sound
pub record ReplacesExports (old new : DraftValue) (exports : List ExportValue) : Type 0 where
  pub op : StoreMeaning → StoreMeaning
  pub turns : Turns old new op
  pub sound : (s : Store) (k : StoreMeaning) → Possible old s k → WellFormed k.state → Sound (op k)
  pub steps : (s : Store) (k : StoreMeaning) → Possible old s k → WellFormed k.state →
      ReplaceStep k.state old.ctx exports [] (op k).state

-- the call asks for what it names, or for all its new numbers
abbrev pub StopsReplacing : DraftValue → List ExportValue → Missing → Type 0
StopsReplacing d exports halt = StopsCall d.modes (named_by (calls.Replace exports) d.view)
    (new_numbers (calls.Replace exports) d.view) d.view halt

-- The draft has the table with the exports that are numbered behind the last, and their roots may be made: their
-- numbers are reserved and apart, and nothing stands there.
pub record AwaitsRoots (d : DraftValue) (last : ℕ) (roots : List Reserved) : Type 0 where
  pub modes : d.modes ≡ replacing
  pub table : ExportTableValue
  pub known : known_at d addresses.Exports ≡ Some (Some (objects.Exports table))
  pub lives : (e : ℕ) → last < e → e ≤ last + length roots → lives_in table.exports e ≡ true
  pub vacant : AllByRecursion (λ (r : Reserved). known_at d (addresses.Inode r.number) ≡ Some None) roots
  pub reserved : AllByRecursion (λ (r : Reserved). IsReserved d.view r.number r.generation) roots
  pub apart : NumbersApart roots
