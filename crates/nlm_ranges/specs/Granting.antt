-- What becomes of a file where its locks change: which requests are granted, and what is left where a caller has
-- nothing more (RFC 1813, appendix II, 6.2).
use Rattle.std.specs.Prelude.{◌≡◌, ◌+◌, ◌<◌, ◌≤◌, ℕ, Bool, true, false, List, [], ◌∷◌, ◌++◌, Some, length, map}
use Rattle.std.specs.Arc.{arc_value}
use Rattle.nfs_machine.specs.Locks.{HasModes, Mode, modes_with, modes_without}
use Rattle.nfs_machine.specs.OneFile.{AreHeldUp, FileLocks, SetsMode, Settles, requested, requests_without}
use Rattle.nfs_machine.specs.OneFile.{shares_without}
use Rattle.nfs_machine.specs.State.{Lock, Range, Request}
use Rattle.nlm_ranges.specs.Files.{FileValue}
use Rattle.nlm_ranges.specs.Held.{HasNoneAlone}
use Rattle.nlm_ranges.specs.declared.file.Settled.{Settled}
use Rattle.nlm_ranges.specs.declared.settling.Settling.{Settling}

-- the requests that were granted, one after the other
abbrev pub granted_in : Settled → List Request
granted_in settled = map arc_value settled.granted.items

-- what waits was tried, and each that was granted is to be answered
pub record IsSettled (old : FileValue) (settled : Settled) : Type 0 where
  pub settles : Settles old.held (granted_in settled) settled.file.held
  pub pending : settled.file.pending ≡ old.pending ++ granted_in settled

-- the range's owner got this mode on it, then what waits was tried, and each that was granted is to be answered
pub record IsSet (old : FileValue) (r : Range) (mode : Mode) (settled : Settled) : Type 0 where
  pub sets : SetsMode old.held r mode (granted_in settled) settled.file.held
  pub pending : settled.file.pending ≡ old.pending ++ granted_in settled

-- a caller has nothing more; what waits was not tried
pub record IsFreed (old : FileValue) (caller_name : List ℕ) (new : FileValue) : Type 0 where
  pub locks : HasModes new.held.locks (modes_without old.held.locks caller_name)
  pub shares : new.held.shares ≡ shares_without caller_name old.held.shares
  pub waiting : new.held.waiting ≡ requests_without caller_name old.held.waiting
  pub pending : new.pending ≡ requests_without caller_name old.pending

-- ---- the same while it goes on
-- a file of which this is held, and for which this waits
abbrev pub holding : List Lock → List Request → FileLocks
holding locks waiting = record { locks = locks; shares = []; waiting = waiting }

-- the requests that are held up so far
abbrev pub kept_in : Settling → List Request
kept_in settling = map arc_value settling.waiting.items

abbrev pub held_in : Settling → FileLocks
held_in settling = holding (arc_value settling.locks) (kept_in settling)

-- all that can be granted was
abbrev pub ComesTo : FileLocks → Settling → Type 0
ComesTo old settling = Settles old (map arc_value settling.granted.items) (held_in settling)

-- whatever it comes to where these are left, the first file comes to that behind what was granted
abbrev pub IsOnWay : (first : FileLocks) (locks : List Lock) (granted left : List Request) → Type 0
IsOnWay first locks granted left = (more : List Request) (end : FileLocks) →
    Settles (holding locks left) more end → Settles first (granted ++ more) end

-- it is on its way where these are left, if it was where those were
abbrev pub LeadsOn : (old : Settling) (left : List Request) (new : Settling) (rest : List Request) → Type 0
LeadsOn old left new rest = (first : FileLocks) →
    IsOnWay first (arc_value old.locks) (map arc_value old.granted.items) left →
    IsOnWay first (arc_value new.locks) (map arc_value new.granted.items) rest

-- a request that conflicts with nothing is granted
pub record Grants (old : Settling) (request : Request) (weakens : Bool) (new : Settling) : Type 0 where
  pub lists : HasModes (arc_value new.locks)
      (modes_with (arc_value old.locks) (requested request) (Some request.exclusive))
  pub waiting : new.waiting.items ≡ old.waiting.items
  pub granted : map arc_value new.granted.items ≡ map arc_value old.granted.items ++ request ∷ []
  -- its owner had nothing of it exclusively, if it is shared
  pub stays : weakens ≡ false → request.exclusive ≡ false → HasNoneAlone (arc_value old.locks) (requested request)

-- a request behind those that are held up is granted, or is held up too
pub record Tries (old : Settling) (request : Request) (anew : Bool) (new : Settling) : Type 0 where
  pub held_up : anew ≡ false → AreHeldUp (held_in new)
  pub most : length new.waiting.items ≤ length old.waiting.items + 1
  pub fewer : anew ≡ true → length new.waiting.items ≤ length old.waiting.items
  pub leads : (rest : List Request) → LeadsOn old (kept_in old ++ request ∷ rest) new (kept_in new ++ rest)

-- each of these was tried, and what is left is held up
pub record AllTried (old : Settling) (requests : List Request) (new : Settling) : Type 0 where
  pub held_up : AreHeldUp (held_in new)
  pub leads : LeadsOn old requests new (kept_in new)

-- some of these were granted, and all that are left are to be tried
pub record TriesAnew (old : Settling) (requests : List Request) (new : Settling) (left : List Request) : Type 0 where
  pub none : new.waiting.items ≡ []
  pub fewer : length left < length requests
  pub leads : LeadsOn old requests new left

-- those that are held up are all that is left, with these behind them
pub record IsEmptied (old : Settling) (behind : List Request) (new : Settling) (left : List Request) : Type 0 where
  pub none : new.waiting.items ≡ []
  pub locks : new.locks ≡ old.locks
  pub granted : new.granted.items ≡ old.granted.items
  pub left_is : left ≡ kept_in old ++ behind
