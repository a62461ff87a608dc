-- Messages that wait to be sent to one host, and how many may at most.
use Rattle.std.specs.Prelude.{◌≡◌, ◌+◌, ℕ, Bool, true, false, List, [], ◌∷◌, ◌++◌, length, Option, Some, None}
use Rattle.std.specs.Prelude.{if◌then◌else◌, nat_lt}
use Rattle.nfs_engine.specs.declared.outbox.Posted.{Posted}
use Rattle.side_wire.specs.declared.message.Callback.{Callback}
use Rattle.side_wire.specs.declared.message.Callback.TheVariants.{Granted, GrantedMsg}
use Rattle.nfs_server.specs.declared.network.queue.TheConstants.{MOST_WAITING}

-- what waits, the oldest of each kind first
pub record Waiting : Type 0 where
  -- grants, which tell a host of locks that it waited for
  pub grants : List Posted
  -- all others, the results of calls
  pub results : List Posted

abbrev pub is_grant_call : Callback → Bool
is_grant_call (Granted arguments) = true
is_grant_call (GrantedMsg arguments) = true
is_grant_call _ = false

abbrev pub is_grant : Posted → Bool
is_grant posted = is_grant_call posted.message.call

-- how many wait
abbrev pub count_of : Waiting → ℕ
count_of waiting = length waiting.grants + length waiting.results

-- a message waits as the last of its kind
abbrev pub with_last : Waiting → Posted → Waiting
with_last waiting posted =
    if is_grant posted then record waiting { grants = waiting.grants ++ posted ∷ [] }
    else record waiting { results = waiting.results ++ posted ∷ [] }

-- a grant comes for the oldest result; where grants alone wait it is dropped
abbrev pub with_grant : Waiting → Posted → Waiting
with_grant waiting grant = elim waiting.results as (λ _. Waiting) [
  | [] ↦ waiting
  | oldest ∷ rest ↦ record { grants = waiting.grants ++ grant ∷ []; results = rest }
]

-- What waits once a message came: it too, where fewer wait than may. Else a result is dropped, and a grant comes for a
-- result.
abbrev pub put : Waiting → Posted → Waiting
put waiting posted =
    if nat_lt (count_of waiting) MOST_WAITING then with_last waiting posted
    else if is_grant posted then with_grant waiting posted else waiting

-- the oldest of a list is taken; none only where none waits
abbrev pub IsFirst : List Posted → List Posted → Option Posted → Type 0
IsFirst old new None = (old ≡ []) × (new ≡ [])
IsFirst old new (Some posted) = old ≡ posted ∷ new

-- the oldest grant is taken, or where none waits the oldest result
abbrev pub IsTaken : Waiting → Waiting → Option Posted → Type 0
IsTaken old new taken = elim old.grants as (λ _. Type 0) [
  | [] ↦ (new.grants ≡ []) × IsFirst old.results new.results taken
  | _ ∷ _ ↦ IsFirst old.grants new.grants taken × (new.results ≡ old.results)
]
