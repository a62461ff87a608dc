-- Which calls are in progress.
use Rattle.std.specs.Prelude.{◌≡◌, ◌≢◌, ℕ, ◌+◌, ◌-◌, ◌^◌, ◌==◌, List, Option, Some, None}
use Rattle.std.specs.Prelude.{Result, Ok, Err}
use Rattle.std.specs.Prelude.{slice_index_or, slice_set, if◌then◌else◌, count_by, is_some}
use Rattle.std.specs.Bool.{Decides}
use Rattle.nfs_replies.specs.Origins.{is_among}
use Rattle.nfs_replies.specs.declared.origins.Origin.{Origin}
use Rattle.nfs_engine.specs.declared.running.AdmitError.{AdmitError}
use Rattle.nfs_engine.specs.declared.running.AdmitError.TheVariants.{Memory, Spent}
use Rattle.nfs_engine.specs.declared.running.CallSlot.{CallSlot}
use Rattle.nfs_engine.specs.declared.running.Running.{Running}

pub record CallsValue : Type 0 where
  -- by their places
  pub living : List (Option Running)
  -- above the number of each call that ever came in
  pub next_id : ℕ

-- the call in progress at a place
abbrev pub running_at : List (Option Running) → ℕ → Option Running
running_at living key = slice_index_or living key None

-- the call with this number, if it is at this place, is no longer in progress
abbrev pub without_call : List (Option Running) → (key id : ℕ) → List (Option Running)
without_call living key id = elim (running_at living key) [
  | None ↦ living
  | Some running ↦ if running.id == id then slice_set living key None else living
]

-- what the call with this number came with, if it is at this place and changes something
abbrev pub origin_at : List (Option Running) → (key id : ℕ) → Option Origin
origin_at living key id = elim (running_at living key) [
  | None ↦ None
  | Some running ↦ if running.id == id then running.origin else None
]

-- the call at a place changes something, and came with this
pub record CameWith (living : List (Option Running)) (key : ℕ) (origin : Origin) : Type 0 where
  pub running : Running
  pub there : running_at living key ≡ Some running
  pub came : running.origin ≡ Some origin

-- a call in progress changes something, and came with this
abbrev pub IsInProgress : List (Option Running) → Origin → Type 0
IsInProgress living origin = (key : ℕ) × CameWith living key origin

-- these are what the calls in progress came with that change something, and no two came with the same
pub record AreOrigins (origins : List Origin) (living : List (Option Running)) : Type 0 where
  pub exactly : (origin : Origin) → Decides (is_among origins origin) (IsInProgress living origin)
  pub apart : (key other : ℕ) (origin : Origin) → CameWith living key origin → CameWith living other origin →
      key ≡ other

-- how many calls are in progress
abbrev pub living_count : List (Option Running) → ℕ
living_count living = count_by is_some living

-- one call more is in progress, at a place where there was none
pub record Joins (old new : List (Option Running)) (key id : ℕ) (origin : Option Origin) : Type 0 where
  pub vacant : running_at old key ≡ None
  pub running : running_at new key ≡ Some (record { id = id; origin = origin })
  pub others : (k : ℕ) → k ≢ key → running_at new k ≡ running_at old k
  pub count : living_count new ≡ living_count old + 1

-- the call joins them under the next number, or nothing changed; numbers are spent just at their end
abbrev pub IsBegun : CallsValue → CallsValue → Option Origin → Result CallSlot AdmitError → Type 0
IsBegun old new origin (Ok place) =
    (place.id ≡ old.next_id) × (new.next_id ≡ old.next_id + 1) ×
    Joins old.living new.living place.key place.id origin
IsBegun old new origin (Err Memory) = (new ≡ old) × (old.next_id ≢ 2 ^ 64 - 1)
IsBegun old new origin (Err Spent) = (new ≡ old) × (old.next_id ≡ 2 ^ 64 - 1)
