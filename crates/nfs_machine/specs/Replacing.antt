-- Exports that are replaced while a server runs.
use Rattle.std.specs.Prelude.{◌≡◌, ℕ, zero, suc, ◌+◌, ◌<◌, ◌≤◌, ◌^◌, ◌&&◌, Bool, true, false, List, [], ◌∷◌, Option}
use Rattle.std.specs.Prelude.{Some, None, find, is_none, is_some, count_by, nat_le, ◌==◌, if◌then◌else◌}
use Rattle.std.specs.FinMap.{FinMap, get, insert, retain_keys}
use Rattle.std.specs.Option.{option_map_or}
use Rattle.std.specs.Ordering.{nat_cmp}
use Rattle.nfs_wire.specs.declared.attributes.Time.{Time}
use Rattle.side_wire.specs.declared.message.Message.{Message}
use Rattle.nfs_machine.specs.Bytes.{same_bytes}
use Rattle.nfs_machine.specs.ExportFaults.{AreFaultless}
use Rattle.nfs_machine.specs.Exports.{ExportValue, LivingExport, export_at}
use Rattle.nfs_machine.specs.FileLists.{grants_but, relisted}
use Rattle.nfs_machine.specs.Making.{IsFresh}
use Rattle.nfs_machine.specs.Opening.{opening_root}
use Rattle.nfs_machine.specs.State.{Living, PendingGrant, State}
use Rattle.nfs_machine.specs.Times.{time_of}
use Rattle.nfs_machine.specs.declared.context.Ctx.{Ctx}

-- ---- exports
-- the living export with a path
abbrev pub export_with_path : List LivingExport → List ℕ → Option LivingExport
export_with_path exports path = find (λ (e : LivingExport). same_bytes e.path path) exports

abbrev pub is_new : List LivingExport → ExportValue → Bool
is_new living e = is_none (export_with_path living e.path)

-- how many of these have a path that was not exported
abbrev pub new_count : List LivingExport → List ExportValue → ℕ
new_count living exports = count_by (is_new living) exports

-- The exports in the order given. One whose path was exported keeps its number and its root; a new one has the next
-- number above the last that was used, and the root that is chosen for it.
abbrev pub renumbered : List LivingExport → (root : ℕ → ℕ) → (last : ℕ) → List ExportValue → List LivingExport
renumbered living root last [] = []
renumbered living root last (e ∷ exports) = elim (export_with_path living e.path) [
  | Some was ↦ record { number = was.number; root = was.root; value = e } ∷ renumbered living root last exports
  | None ↦ record { number = suc last; root = root (suc last); value = e } ∷
      renumbered living root (suc last) exports
]

-- a new number would not fit 32 bits
abbrev pub is_exhausted : List LivingExport → (last : ℕ) → List ExportValue → Bool
is_exhausted living last exports =
    nat_le 1 (new_count living exports) && nat_le (2 ^ 32) (last + new_count living exports)

-- ---- objects
-- what the machine chooses for the root of a new export
pub record RootChoice : Type 0 where
  pub number : ℕ
  pub generation : ℕ

-- as a root is that a server opens with
abbrev pub new_root : (export generation : ℕ) → Time → Living
new_root export generation time = record (opening_root export time) { generation = generation }

-- what lives where only these exports do
abbrev pub staying : List LivingExport → FinMap nat_cmp Living → FinMap nat_cmp Living
staying exports objects = retain_keys objects
    (λ number. option_map_or (λ (o : Living). is_some (export_at exports o.export)) (get objects number) false)

-- with the roots of so many exports that are numbered behind the last
abbrev pub with_roots : (choose : ℕ → RootChoice) → Time → (last count : ℕ) → FinMap nat_cmp Living →
    FinMap nat_cmp Living
with_roots choose time last zero objects = objects
with_roots choose time last (suc count) objects =
    insert (with_roots choose time last count objects) (choose (last + suc count)).number
    (new_root (last + suc count) (choose (last + suc count)).generation time)

-- the lists of the files that live
abbrev pub of_living : {A : Type 0} → FinMap nat_cmp Living → FinMap nat_cmp (List A) → FinMap nat_cmp (List A)
of_living objects lists = relisted (λ file list. if is_some (get objects file) then list else []) lists

-- Roots are chosen for so many exports numbered behind the last: each is fresh, and no two have one number.
pub record AreFreshRoots (m : State) (choose : ℕ → RootChoice) (spent : ℕ → ℕ → Bool) (last count : ℕ) :
    Type 0 where
  pub fresh : (e : ℕ) → last < e → e ≤ last + count →
      IsFresh m (record { number = (choose e).number; generation = (choose e).generation; spent = spent })
  pub apart : (e f : ℕ) → last < e → e < f → f ≤ last + count →
      ((choose e).number == (choose f).number) ≡ false
  pub kept : (n g : ℕ) → m.spent n g ≡ true → spent n g ≡ true

-- ---- the state
-- The exports are these. Of a path that is not among them all goes, with its locks, shares, requests that wait and
-- pending grants. Mounts stay, and so do numbers that were given.
abbrev pub replaced : State → List ExportValue → (choose : ℕ → RootChoice) → (spent : ℕ → ℕ → Bool) → Time → State
replaced m exports choose spent time =
    let living = renumbered m.exports (λ e. (choose e).number) m.last_export exports in
    let count = new_count m.exports exports in
    let objects = staying living m.objects in
    record m {
      exports = living;
      last_export = m.last_export + count;
      objects = with_roots choose time m.last_export count objects;
      spent = spent;
      locks = of_living objects m.locks;
      shares = of_living objects m.shares;
      waiting = of_living objects m.waiting;
      granted = grants_but (λ (g : PendingGrant). is_none (get objects g.file)) m.granted;
    }

pub record Replaces (old : State) (time : Time) (exports : List ExportValue) (new : State) : Type 0 where
  pub choose : ℕ → RootChoice
  pub spent : ℕ → ℕ → Bool
  pub fresh : AreFreshRoots old choose spent old.last_export (new_count old.exports exports)
  pub state_is : new ≡ replaced old exports choose spent time

-- A list that a server may be started with replaces the exports; where a number would not fit nothing changes.
unfoldable pub ReplaceStep : State → Ctx → List ExportValue → List Message → State → Type 0
ReplaceStep old ctx exports messages new = AreFaultless exports × (messages ≡ []) ×
    elim (is_exhausted old.exports old.last_export exports) [
      | true ↦ new ≡ old
      | false ↦ Replaces old (time_of ctx.moment) exports new
    ]
