-- An engine is at rest where none is counted.
use Rattle.std.proofs.Common.{◌≡◌, ℕ, zero, suc, cond, is_some, List, [], ◌∷◌}
use Rattle.std.proofs.Common.{Option, Some, None, refl, arith}
use Rattle.std.proofs.lemmas.List.Sums.{sum_by-cons}
use Rattle.nfs_engine.proofs.HeldCountLemmas.{nothing_held}
use Rattle.nfs_engine.specs.Engine.{CountsLocked, EngineValue}
use Rattle.nfs_engine.specs.Running.{living_count, running_at}
use Rattle.nfs_engine.specs.declared.running.Running.{Running}
use Rattle.nfs_schedule.specs.Worlds.{IsAtRest}

-- none is in progress at any place
none_running : (living : List (Option Running)) → living_count living ≡ 0 → (key : ℕ) →
    running_at living key ≡ None
none_running [] none key = refl
none_running (Some r ∷ living) none key =
    let one = sum_by-cons (λ (o : Option Running). cond {A = ℕ} (is_some o) 1 0) (Some r) living in
    absurd (omega (arith, none, one))
none_running (None ∷ living) none zero = refl
none_running (None ∷ living) none (suc key) =
    let rest = sum_by-cons (λ (o : Option Running). cond {A = ℕ} (is_some o) 1 0) None living in
    none_running living (omega (arith, none, rest)) key

pub rest_by_counts : (e : EngineValue) → living_count e.book.living ≡ 0 → CountsLocked e.shards 0 → IsAtRest e
rest_by_counts e living locked = record {
  running = none_running e.book.living living;
  held = nothing_held e.shards locked;
}
