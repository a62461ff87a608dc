-- How long a peer is waited for.
use Rattle.std.specs.Prelude.{ℕ, ◌-◌, ◌/◌, ◌^◌, ◌&&◌, ◌||◌, Bool, List, Option, Some, None, nat_lt, if◌then◌else◌}
use Rattle.std.specs.Time.{instant_nanos}
use Rattle.std.specs.declared.time.Instant.{Instant}
use Rattle.nfs_server.specs.Stages.{has_ended, is_between}
use Rattle.nfs_server.specs.declared.patience.Patience.{Patience}
use Rattle.nfs_server.specs.declared.patience.Watch.{Watch}

-- how many seconds are left of so many, where these nanoseconds have passed; a second that has begun is left
abbrev pub seconds_left : (passed limit : ℕ) → Option ℕ
seconds_left passed limit =
    if nat_lt (passed / 10 ^ 9) limit then Some (limit - passed / 10 ^ 9) else None

-- the next record is waited for, where whole ones came
abbrev pub is_idle : Watch → Bool
is_idle watch = watch.has_sent && is_between watch.stage

-- how long it is waited for; else a first record is, or the rest of one
abbrev pub limit_of : Patience → Watch → ℕ
limit_of patience watch = if is_idle watch then patience.idle else patience.record

abbrev pub left_of : Patience → Watch → Instant → Option ℕ
left_of patience watch now = seconds_left (instant_nanos now - instant_nanos watch.since) (limit_of patience watch)

-- with these bytes something else is waited for: a record ended, or one began
abbrev pub begins_anew : Watch → List ℕ → Bool
begins_anew watch bytes = has_ended watch.stage bytes || is_idle watch
