-- Addresses that are passed over for a while after a failure.
use Rattle.std.specs.Prelude.{◌≡◌, ◌≤◌, ◌<◌, ◌+◌, ◌*◌, ◌^◌, ℕ, List, length}
use Rattle.std.specs.List.{AllWithin, HoldsAt}
use Rattle.std.specs.Time.{instant_nanos}
use Rattle.std.specs.declared.net.socket_addr.SocketAddr.{SocketAddr}
use Rattle.std.specs.declared.time.Instant.{Instant}
use Rattle.nfs_server.specs.declared.network.failures.Failure.{Failure}

-- by this failure the address is passed over at this moment
abbrev pub Stops : SocketAddr → Instant → Failure → Type 0
Stops address now failure = (failure.address ≡ address) × (instant_nanos now ≤ instant_nanos failure.until)

-- it is by one of them
abbrev pub IsPassedOver : List Failure → SocketAddr → Instant → Type 0
IsPassedOver failures address now = (k : ℕ) × (k < length failures) × HoldsAt (Stops address now) failures k

-- it is by none
abbrev pub IsCalled : List Failure → SocketAddr → Instant → Type 0
IsCalled failures address now = AllWithin (λ failure. Stops address now failure → ⊥) failures 0 (length failures)

-- 10 seconds after this moment
abbrev pub rest_end : Instant → ℕ
rest_end now = instant_nanos now + 10 * 10 ^ 9
