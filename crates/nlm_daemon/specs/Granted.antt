-- Grants that are not answered yet, and which of them a host answers (RFC 1813, appendix II, 6.2: procedure 15).
use Rattle.std.specs.Prelude.{◌≡◌, ℕ, ◌==◌, Contains, List, [], Option, Some, None, if◌then◌else◌}
use Rattle.std.specs.Prelude.{length, true}
use Rattle.std.specs.Arc.{arc_value}
use Rattle.std.specs.FinMap.{get}
use Rattle.std.specs.Int.{w64, from_be_bytes}
use Rattle.nfs_machine.specs.Exports.{LivingExport}
use Rattle.nfs_machine.specs.LockSteps.{is_answered}
use Rattle.nfs_machine.specs.State.{PendingGrant, Request, State}
use Rattle.nfs_objects.specs.Calls.{locks_at}
use Rattle.nlm_ranges.specs.Buckets.{LockedValue}
use Rattle.nfs_objects.specs.Stands.{lives_in}
use Rattle.nfs_objects.specs.declared.address.Addr.{Addr}
use Rattle.nfs_inodes.specs.Locks.{HasLocks, IsFileAt}
use Rattle.nlm_daemon.specs.declared.granting.FoundGrant.{FoundGrant}

-- the grant that a host answers with this cookie, if one was made for it
abbrev pub grant_answered : State → (host cookie : List ℕ) → Option PendingGrant
grant_answered m host cookie =
    let number = from_be_bytes w64 cookie in let found = get m.granted number in
    if is_answered host cookie number found then found else None

-- where it is looked for
abbrev pub grant_places : (cookie : List ℕ) → List Addr
grant_places cookie = if length cookie == 8 then locks_at (from_be_bytes w64 cookie) else []

abbrev pub grant_of : FoundGrant → PendingGrant
grant_of pending = record { file = pending.file.number; request = arc_value pending.request }

-- the grant is not answered yet, and its file has this, and lives
pub record IsPendingNow (m : State) (pending : FoundGrant) : Type 0 where
  pub stands : get m.granted (arc_value pending.request).number ≡ Some (grant_of pending)
  pub file : HasLocks m pending.file.number pending.file.file
  pub lives : IsFileAt m pending.file.number pending.file.export

abbrev pub FindsGrant : State → (host cookie : List ℕ) → Option FoundGrant → Type 0
FindsGrant m host cookie None = grant_answered m host cookie ≡ None
FindsGrant m host cookie (Some pending) =
    (grant_answered m host cookie ≡ Some (grant_of pending)) × IsPendingNow m pending

-- among these files, of those whose exports live, there is a grant with this number, or none
pub record HasGrant (exports : List LivingExport) (files : List LockedValue) (number : ℕ) (f : LockedValue)
    (r : Request) : Type 0 where
  pub listed : Contains files f
  pub lives : lives_in exports f.export ≡ true
  pub pending : Contains f.file.pending r
  pub number_is : r.number ≡ number

abbrev pub FindsPending : List LivingExport → List LockedValue → (number : ℕ) → Option FoundGrant → Type 0
FindsPending exports files number None = (f : LockedValue) (r : Request) → HasGrant exports files number f r → ⊥
FindsPending exports files number (Some pending) =
    HasGrant exports files number pending.file (arc_value pending.request)
