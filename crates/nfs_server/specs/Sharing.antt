-- How places are shared out by host: which of the open connections gives its place to one that comes.
use Rattle.std.specs.Prelude.{◌≡◌, ◌<◌, ◌≤◌, ◌+◌, ◌/◌, ◌==◌, ℕ, Bool, List, [], ◌∷◌, length, Option, Some, None}
use Rattle.std.specs.Prelude.{All, HoldsAt, MatchBool, count_by, max, nat_le, if◌then◌else◌}
use Rattle.std.specs.List.{list_any}
use Rattle.nfs_server.specs.declared.network.sharing.Seen.{Seen}

-- for how many milliseconds it has rested; for none, where a call is in progress
abbrev pub rest_of : Seen → ℕ
rest_of seen = elim seen.idle as (λ _. ℕ) [
  | Some idle ↦ idle
  | None ↦ 0
]

abbrev pub is_of : (host : ℕ) → Seen → Bool
is_of host seen = seen.host == host

-- how many connections the host has
abbrev pub count_of : List Seen → (host : ℕ) → ℕ
count_of present host = count_by (is_of host) present

-- how many hosts have some: each is counted with its last one
abbrev pub hosts_of : List Seen → ℕ
hosts_of [] = 0
hosts_of (seen ∷ others) = if list_any (is_of seen.host) others then hosts_of others else hosts_of others + 1

-- each host's share of the places, one at least
abbrev pub share_of : (places : ℕ) → List Seen → ℕ
share_of places present = max (places / max (hosts_of present) 1) 1

-- the host has its share
abbrev pub has_share : (places host : ℕ) → List Seen → Bool
has_share places host present = nat_le (share_of places present) (count_of present host)

-- the host of this connection has as many as any other
abbrev pub HasMost : List Seen → Seen → Type 0
HasMost present seen = All (λ other. count_of present other.host ≤ count_of present seen.host) present

-- This connection may give way to one of the host: where the host has its share, one of its own; else one of a host that
-- has the most. It has rested for five seconds at least.
pub record MayGiveWay (places host : ℕ) (present : List Seen) (seen : Seen) : Type 0 where
  pub rested : 5000 ≤ rest_of seen
  pub of_host : MatchBool (has_share places host present) (seen.host ≡ host) (HasMost present seen)

-- of those that may, the one that has rested longest gives way; none only where none may
abbrev pub GivesWay : (places host : ℕ) → List Seen → Option ℕ → Type 0
GivesWay places host present None = All (λ seen. ¬ MayGiveWay places host present seen) present
GivesWay places host present (Some k) =
    (k < length present)
    × HoldsAt (λ seen. MayGiveWay places host present seen
    × All (λ other. MayGiveWay places host present other → rest_of other ≤ rest_of seen) present) present k
