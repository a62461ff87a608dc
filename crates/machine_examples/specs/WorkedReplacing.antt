-- Exports that are replaced, worked through by hand: a path that stays, a new one, one that goes, one that comes back,
-- and numbers that are used up.
use Rattle.std.specs.Prelude.{◌≡◌, ℕ, ◌+◌, Bool, true, false, List, [], ◌∷◌, Some, None, codes}
use Rattle.std.specs.FinMap.{get}
use Rattle.nfs_wire.specs.declared.attributes.Time.{Time}
use Rattle.side_wire.specs.declared.mount.MountCall.TheVariants as mount
use Rattle.side_wire.specs.declared.mount.MountReply.TheVariants as mount_replies
use Rattle.nfs_machine.specs.ExportFaults.{AreFaultless}
use Rattle.nfs_machine.specs.Exports.{ExportValue, LivingExport}
use Rattle.nfs_machine.specs.MountSteps.{MountStep}
use Rattle.nfs_machine.specs.Replacing.{ReplaceStep, RootChoice, is_exhausted, new_root, renumbered, replaced}
use Rattle.nfs_machine.specs.Resolve.{Names, Stale, resolve}
use Rattle.nfs_machine.specs.State.{Living, State}
use Rattle.machine_examples.specs.WorkedExports.{handle}
use Rattle.machine_examples.specs.WorkedRun.{nobody}

-- `/data` for all; `/new` for all; and both again, read only
abbrev pub to_all : List ℕ → (read_only : Bool) → ExportValue
to_all path read_only = record { path = path; read_only = read_only; hosts = codes "*" ∷ [] }

abbrev pub data_export : ExportValue
data_export = to_all (codes "/data") false

abbrev pub data_fixed : ExportValue
data_fixed = to_all (codes "/data") true

abbrev pub new_export : ExportValue
new_export = to_all (codes "/new") false

abbrev pub new_fixed : ExportValue
new_fixed = to_all (codes "/new") true

-- `/data` lives under the number 1, with the root 1
abbrev pub living_as : (number root : ℕ) → ExportValue → LivingExport
living_as number root value = record { number = number; root = root; value = value }

abbrev pub only_data : List LivingExport
only_data = living_as 1 1 data_export ∷ []

-- the numbers and the roots that exports get, where a new export e gets the root of this number
pub record WorkedNumbers (root : ℕ → ℕ) : Type 0 where
  -- what stays keeps both, and is as it is given now
  pub kept : renumbered only_data root 1 (data_fixed ∷ []) ≡ living_as 1 1 data_fixed ∷ []
  -- what is new stands where it is given
  pub new : renumbered only_data root 1 (new_export ∷ data_export ∷ []) ≡
      living_as 2 (root 2) new_export ∷ living_as 1 1 data_export ∷ []
  pub two_new : renumbered only_data root 1 (new_export ∷ data_export ∷ to_all (codes "/") false ∷ []) ≡
      living_as 2 (root 2) new_export ∷ living_as 1 1 data_export ∷
      living_as 3 (root 3) (to_all (codes "/") false) ∷ []
  pub below : renumbered only_data root 1 (to_all (codes "/data/x") false ∷ []) ≡
      living_as 2 (root 2) (to_all (codes "/data/x") false) ∷ []
  -- what goes leaves its number behind, and has another where it comes back
  pub gone : renumbered only_data root 1 (new_export ∷ []) ≡ living_as 2 (root 2) new_export ∷ []
  pub back : renumbered (living_as 2 9 new_export ∷ []) root 2 (new_fixed ∷ data_export ∷ []) ≡
      living_as 2 9 new_fixed ∷ living_as 3 (root 3) data_export ∷ []
  pub none : renumbered only_data root 1 [] ≡ []
  -- numbers have 32 bits; what stays needs none
  pub last_number : is_exhausted only_data 4294967294 (new_export ∷ []) ≡ false
  pub used_up : is_exhausted only_data 4294967295 (new_export ∷ []) ≡ true
  pub one_too_many : is_exhausted only_data 4294967294 (new_export ∷ to_all (codes "/") false ∷ []) ≡ true
  pub none_wanted : is_exhausted only_data 4294967295 (data_fixed ∷ []) ≡ false

abbrev pub WorkedNumberings : Type 0
WorkedNumberings = (root : ℕ → ℕ) → WorkedNumbers root

-- a state in which `/data` alone is exported
abbrev pub with_data : (last : ℕ) → State → State
with_data last m = record m { exports = only_data; last_export = last }

-- and one in which `/new` alone is, under the number 2 and with the root 9, and `/data` was
abbrev pub with_new : State → State
with_new m = record m { exports = living_as 2 9 new_export ∷ []; last_export = 2 }

-- new export e gets the root e + 100
abbrev pub roots : ℕ → RootChoice
roots e = record { number = e + 100; generation = 1 }

-- Steps from such states, in which this lives at the number 9.
pub record WorkedReplacing (m : State) (spent : ℕ → ℕ → Bool) (time : Time) (o : Living) : Type 0 where
  -- what is of `/data` lives on where `/data` stays, and is gone where it is not given
  pub lives_on : get m.objects 9 ≡ Some o → o.export ≡ 1 →
      get (replaced (with_data 1 m) (data_fixed ∷ []) roots spent time).objects 9 ≡ Some o
  pub goes : get m.objects 9 ≡ Some o → o.export ≡ 1 →
      get (replaced (with_data 1 m) (new_export ∷ []) roots spent time).objects 9 ≡ None
  pub root_lives : get (replaced (with_data 1 m) (new_export ∷ []) roots spent time).objects 102 ≡
      Some (new_root 2 1 time)
  pub handle_goes : resolve (replaced (with_data 1 m) (new_export ∷ []) roots spent time) nobody (handle 1 9) ≡ Stale
  -- where `/data` comes back its handles don't, and those of `/new` name what they named
  pub stays_gone : resolve (replaced (with_new m) (new_fixed ∷ data_export ∷ []) roots spent time) nobody
      (handle 1 9) ≡ Stale
  pub handle_stays : get m.objects 9 ≡ Some o → o.export ≡ 2 → o.generation ≡ 1 →
      resolve (replaced (with_new m) (new_fixed ∷ data_export ∷ []) roots spent time) nobody (handle 2 9) ≡ Names 9 o
  pub listed : MountStep (replaced (with_new m) (new_fixed ∷ data_export ∷ []) roots spent time) nobody mount.Export
      (mount_replies.Export (record { directory = codes "/new"; groups = [] } ∷
      record { directory = codes "/data"; groups = [] } ∷ [])) []
      (replaced (with_new m) (new_fixed ∷ data_export ∷ []) roots spent time)
  -- where the numbers are used up nothing changes, a mode as little as a path
  pub used_up : AreFaultless (new_export ∷ data_fixed ∷ []) →
      ReplaceStep (with_data 4294967295 m) nobody (new_export ∷ data_fixed ∷ []) [] (with_data 4294967295 m)

abbrev pub WorkedReplacings : Type 0
WorkedReplacings = (m : State) (spent : ℕ → ℕ → Bool) (time : Time) (o : Living) → WorkedReplacing m spent time o
