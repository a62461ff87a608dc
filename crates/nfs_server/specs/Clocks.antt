-- What the server's clocks give.
use Rattle.std.specs.Prelude.{◌≡◌, ◌+◌, ◌*◌, ◌^◌, ◌<◌, ◌≤◌, ℕ, Option, Some, None}
use Rattle.std.specs.Prelude.{nat_lt, if◌then◌else◌}
use Rattle.std.specs.Duration.{as_nanos}
use Rattle.std.specs.declared.time.Duration.{Duration}
use Rattle.nfs_machine.specs.declared.moment.Moment.{Moment}
use Rattle.nfs_server.specs.declared.clock.FixedClock.{FixedClock}
use Rattle.nfs_server.specs.declared.clock.MachineClock.{MachineClock}
use Rattle.nfs_server.specs.declared.clock.ServerClock.{ServerClock}
use Rattle.nfs_server.specs.declared.clock.ServerClock.TheVariants.{Fixed, Machine}

-- the moment is the beginning of the clock's second, which stays
abbrev pub StandsStill : FixedClock → Moment → FixedClock → Type 0
StandsStill old moment new = (moment.seconds ≡ old.seconds) × (moment.nanoseconds ≡ 0) × (new ≡ old)

-- any moment may come, and is the clock's last from then on
abbrev pub RemembersLast : {C : Type 0} → MachineClock C → Moment → MachineClock C → Type 0
RemembersLast old moment new = new.last ≡ moment

abbrev pub Gives : {C : Type 0} → ServerClock C → Moment → ServerClock C → Type 0
Gives (Fixed old) moment (Fixed new) = StandsStill old moment new
Gives (Machine old) moment (Machine new) = RemembersLast old moment new
Gives _ moment _ = ⊥

-- the clock stands still at the second that is given, or where none is, it has given no moment yet
abbrev pub IsClockOf : {C : Type 0} → Option ℕ → ServerClock C → Type 0
IsClockOf (Some seconds) (Fixed clock) = clock.seconds ≡ seconds
IsClockOf None (Machine clock) = (clock.last.seconds ≡ 0) × (clock.last.nanoseconds ≡ 0)
IsClockOf _ _ = ⊥

-- so many nanoseconds as a start number
abbrev pub number_of : ℕ → ℕ
number_of nanoseconds = if nat_lt nanoseconds (2 ^ 64) then nanoseconds else 0

abbrev pub number_after : Option Duration → ℕ
number_after None = 0
number_after (Some since) = number_of (as_nanos since)

-- The moment that is so long after 1970 began. It is the last one again where that is not known, or where its seconds
-- are no u32.
abbrev pub IsMomentAfter : Option Duration → Moment → Moment → Type 0
IsMomentAfter None last moment = moment ≡ last
IsMomentAfter (Some since) last moment =
    (as_nanos since < 2 ^ 32 * 1000000000 → moment.seconds * 1000000000 + moment.nanoseconds ≡ as_nanos since)
    × (2 ^ 32 * 1000000000 ≤ as_nanos since → moment ≡ last)

-- a moment as a number, which rises with it
abbrev pub word_of : Moment → ℕ
word_of moment = moment.seconds * 2 ^ 32 + moment.nanoseconds

abbrev pub IsNotBefore : (earlier later : Moment) → Type 0
IsNotBefore earlier later = word_of earlier ≤ word_of later

-- the next moment of the machine's clock is not before the one that the machine tells, and not before the last one
pub record GoesOn (since : Option Duration) (last moment : Moment) : Type 0 where
  pub told : Moment
  pub is_told : IsMomentAfter since last told
  pub behind_told : IsNotBefore told moment
  pub behind_last : IsNotBefore last moment
