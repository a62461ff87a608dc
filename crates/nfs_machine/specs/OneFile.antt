-- What one file has of locks, shares and requests that wait for a lock, and what becomes of it by itself (RFC 1813,
-- appendix II, 6.2).
use Rattle.std.specs.Prelude.{◌≡◌, ℕ, Bool, List, [], ◌∷◌, ◌++◌, Some}
use Rattle.std.specs.List.{AllByRecursion, list_any}
use Rattle.nfs_machine.specs.Bytes.{same_bytes}
use Rattle.nfs_machine.specs.FileLists.{all_but}
use Rattle.nfs_machine.specs.Locks.{Conflicts, HasModes, Mode, modes_with, range_of, same_sharer, shares_conflict}
use Rattle.nfs_machine.specs.State.{Lock, Range, Request, Share}

-- requests wait in order of arrival
pub record FileLocks : Type 0 where
  pub locks : List Lock
  pub shares : List Share
  pub waiting : List Request

-- ---- locks: LOCK, UNLOCK, and what waits

abbrev pub requested : Request → Range
requested r = range_of r.asked

-- the request conflicts with what is held of its file
abbrev pub IsHeldUp : List Lock → Request → Type 0
IsHeldUp locks r = Conflicts locks (requested r) (Some r.exclusive)

-- each request that waits conflicts with what is held
abbrev pub AreHeldUp : FileLocks → Type 0
AreHeldUp f = AllByRecursion (IsHeldUp f.locks) f.waiting

-- the earliest request that conflicts with nothing is held, and waits no more
pub record IsGranted (old : FileLocks) (request : Request) (new : FileLocks) : Type 0 where
  pub earlier : List Request
  pub later : List Request
  pub waits : old.waiting ≡ earlier ++ request ∷ later
  pub held_up : AllByRecursion (IsHeldUp old.locks) earlier
  pub free : IsHeldUp old.locks request → ⊥
  pub lists : HasModes new.locks (modes_with old.locks (requested request) (Some request.exclusive))
  pub waiting : new.waiting ≡ earlier ++ later
  pub shares : new.shares ≡ old.shares

-- requests are granted one after the other, in this order, until none of those that wait can be
abbrev pub Settles : FileLocks → (granted : List Request) → FileLocks → Type 0
Settles old [] new = AreHeldUp old × (new ≡ old)
Settles old (request ∷ granted) new =
    (mid : FileLocks) × IsGranted old request mid × Settles mid granted new

-- the range's owner gets this mode on it, and then what waits is tried
pub record SetsMode (old : FileLocks) (r : Range) (mode : Mode) (granted : List Request) (new : FileLocks) :
    Type 0 where
  pub locks : List Lock
  pub lists : HasModes locks (modes_with old.locks r mode)
  pub settles : Settles (record old { locks = locks }) granted new

-- ---- shares: SHARE and UNSHARE

abbrev pub is_denied : Share → List Share → Bool
is_denied share shares = list_any (shares_conflict share) shares

-- the sharer has no share
abbrev pub unshared : Share → List Share → List Share
unshared share shares = all_but (same_sharer share) shares

-- the sharer has this share, in the place of its own
abbrev pub shared : Share → List Share → List Share
shared share shares = unshared share shares ++ share ∷ []

-- ---- a caller has nothing more: FREE_ALL, beside the locks without it (modes_without)

abbrev pub shares_without : (caller_name : List ℕ) → List Share → List Share
shares_without name = all_but (λ (s : Share). same_bytes s.caller_name name)

abbrev pub requests_without : (caller_name : List ℕ) → List Request → List Request
requests_without name = all_but (λ (r : Request). same_bytes r.asked.caller_name name)
