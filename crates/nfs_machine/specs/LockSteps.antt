-- What the calls of NLM come to (RFC 1813, appendix II, 6.2): a status, the messages that they put, and the state
-- that they leave.
use Rattle.std.specs.Prelude.{◌≡◌, ℕ, ◌+◌, ◌-◌, ◌%◌, ◌^◌, Bool, true, false, not, ◌&&◌}
use Rattle.std.specs.Prelude.{◌||◌, List, [], ◌∷◌, ◌++◌, Option, Some, None, Result, Ok, Err, is_ok}
use Rattle.std.specs.Prelude.{nat_lt, if◌then◌else◌, ◌⊎◌, ◌==◌}
use Rattle.std.specs.FinMap.{get, remove}
use Rattle.std.specs.Int.{w64, from_be_bytes}
use Rattle.std.specs.List.{list_any}
use Rattle.side_wire.specs.declared.message.Message.{Message}
use Rattle.side_wire.specs.declared.message.NlmLock.{NlmLock}
use Rattle.side_wire.specs.declared.nlm.CancelArguments.{CancelArguments}
use Rattle.side_wire.specs.declared.nlm.LockArguments.{LockArguments}
use Rattle.side_wire.specs.declared.nlm.LockHolder.{LockHolder}
use Rattle.side_wire.specs.declared.nlm.NlmShare.{NlmShare}
use Rattle.side_wire.specs.declared.nlm.NlmStatus.{NlmStatus}
use Rattle.side_wire.specs.declared.nlm.NlmStatus.TheVariants as status
use Rattle.side_wire.specs.declared.nlm.ShareArguments.{ShareArguments}
use Rattle.side_wire.specs.declared.nlm.ShareMode.TheVariants as mode
use Rattle.side_wire.specs.declared.nlm.TestArguments.{TestArguments}
use Rattle.side_wire.specs.declared.nlm.TestStatus.{TestStatus}
use Rattle.side_wire.specs.declared.nlm.TestStatus.TheVariants as tested
use Rattle.side_wire.specs.declared.nlm.UnlockArguments.{UnlockArguments}
use Rattle.nfs_machine.specs.Answers.{Answers}
use Rattle.nfs_machine.specs.Bytes.{same_bytes}
use Rattle.nfs_machine.specs.Checks.{◌>>=◌, bytes_in, holding, is_writable}
use Rattle.nfs_machine.specs.FileLists.{all_but, grants_but, of_file, relisted, with_list}
use Rattle.nfs_machine.specs.Grants.{ChangesLocks, SettleInOrder, ending_grants, grant_cookie}
use Rattle.nfs_machine.specs.Locks.{Conflicts, HasModes, Mode, denies, fits_offsets, is_within, mode_at, modes_without}
use Rattle.nfs_machine.specs.Locks.{range_of, same_owner}
use Rattle.nfs_machine.specs.OneFile.{is_denied, requested, requests_without, shared, shares_without, unshared}
use Rattle.nfs_machine.specs.Resolve.{Names, resolve}
use Rattle.nfs_machine.specs.State.{Lock, PendingGrant, Request, Share, State, Range}
use Rattle.nfs_machine.specs.declared.context.Ctx.{Ctx}

-- ---- checks

-- why a call is refused before any conflict is looked for
pub data LockFault : Type 0 where
  StaleHandle : LockFault
  NotRegular : LockFault
  RangeTooBig : LockFault
  ReadOnly : LockFault

-- as TEST answers it (6.1.2: nlm4_stats)
abbrev pub test_status_of : LockFault → TestStatus
test_status_of StaleHandle = tested.StaleHandle
test_status_of NotRegular = tested.Failed
test_status_of RangeTooBig = tested.FileTooBig
test_status_of ReadOnly = tested.ReadOnly

-- and as all other procedures do
abbrev pub nlm_status_of : LockFault → NlmStatus
nlm_status_of StaleHandle = status.StaleHandle
nlm_status_of NotRegular = status.Failed
nlm_status_of RangeTooBig = status.FileTooBig
nlm_status_of ReadOnly = status.ReadOnly

-- The number of the file that a call names. It is checked in this order: the handle names an object (else
-- NLM4_STALE_FH, 6.3.2), and that is a regular file (NLM4_FAILED); the range fits offsets (NLM4_FBIG, 6.3.1); and the
-- export is not read only, where the call asks to write (NLM4_ROFS)
abbrev pub file_checked : State → Ctx → List ℕ → (fits writes : Bool) → Result ℕ LockFault
file_checked old ctx handle fits writes = elim (resolve old ctx handle) as (λ r. Result ℕ LockFault) [
  | Names number object ↦
      holding (is_ok (bytes_in object.content)) NotRegular >>= λ _.
      holding fits RangeTooBig >>= λ _.
      holding (not writes || is_writable old.exports object) ReadOnly >>= λ _.
      Ok number
  | other ↦ Err StaleHandle
]

-- the file of the lock that a call names
abbrev pub lock_checked : State → Ctx → (writes : Bool) → NlmLock → Result ℕ LockFault
lock_checked old ctx writes l = file_checked old ctx l.file (fits_offsets l) writes

-- a call at fault is answered its status and changes nothing; any other goes on with the file that it names
abbrev pub Checked : {Status : Type 0} → (LockFault → Status) → State → Result ℕ LockFault →
    (ℕ → Status → List Message → State → Type 0) → Status → List Message → State → Type 0
Checked status_of old checked goes_on s messages new = elim checked as (λ c. Type 0) [
  | Ok file ↦ goes_on file s messages new
  | Err fault ↦ Answers (status_of fault) old s messages new
]

-- ---- TEST, procedure 1

-- 0 where the range runs to the last offset of all
abbrev pub length_shown : (first last : ℕ) → ℕ
length_shown first last = if last == 2 ^ 64 - 1 then 0 else last + 1 - first

-- a holder that stands in the way, among the locks of a file: an owner that conflicts has each offset of the range
-- that is shown in the mode that is shown, and where it conflicts is one of them
pub record IsHolder (locks : List Lock) (r : Range) (mode : Mode) (h : LockHolder) : Type 0 where
  pub conflict : Conflicts locks r mode
  pub owner_is : h.owner ≡ conflict.other.owner
  pub process_is : h.process ≡ conflict.other.process
  pub last : ℕ
  pub length_is : h.length ≡ length_shown h.offset last
  pub is_shown : is_within h.offset last conflict.offset ≡ true
  pub has : (offset : ℕ) → is_within h.offset last offset ≡ true →
      mode_at locks conflict.other offset ≡ Some h.exclusive

abbrev pub Tests : List Lock → Range → Mode → TestStatus → Type 0
Tests locks r mode s = elim s as (λ s. Type 0) [
  | tested.Granted ↦ Conflicts locks r mode → ⊥
  | tested.Denied holder ↦ IsHolder locks r mode holder
  | _ ↦ ⊥
]

-- TEST changes nothing
abbrev pub TestEnds : State → Ctx → TestArguments → TestStatus → List Message → State → Type 0
TestEnds old ctx a = Checked test_status_of old (lock_checked old ctx false a.lock) (λ file s messages new.
    Tests (of_file old.locks file) (range_of a.lock) (Some a.exclusive) s × (messages ≡ []) × (new ≡ old))

-- ---- LOCK and NM_LOCK, procedures 2 and 22; reclaim and state are not looked at

-- the request is one for this lock of its file, asked in the same terms
abbrev pub is_request : Bool → NlmLock → Request → Bool
is_request exclusive l request =
    same_owner (requested request).owner (range_of l).owner && (request.asked.offset == l.offset) &&
    (request.asked.length == l.length) && (if request.exclusive then exclusive else not exclusive)

-- two requests are equal: of one owner, for one offset and length, and both exclusive or neither
abbrev pub same_request : Request → Request → Bool
same_request a b = is_request b.exclusive b.asked a

-- a number for a grant on a file: its remainder by 64 is that of the file's fileid
abbrev pub is_grant_number : (file number : ℕ) → Bool
is_grant_number file number = nat_lt number (2 ^ 64) && (number % 64 == file % 64)

-- the request waits last from now on, under a number that was never given
pub record BeginsToWait (old : State) (ctx : Ctx) (a : LockArguments) (by_message : Bool) (file : ℕ)
    (s : NlmStatus) (messages : List Message) (new : State) : Type 0 where
  pub number : ℕ
  pub suits : is_grant_number file number ≡ true
  pub unspent : old.spent_grants number ≡ false
  pub answers : Answers status.Blocked (record old {
    waiting = with_list old.waiting file (of_file old.waiting file ++
        record {
          number = number;
          host = ctx.host;
          exclusive = a.exclusive;
          asked = a.lock;
          by_message = by_message;
        } ∷ []);
    spent_grants = λ n. (n == number) || old.spent_grants n;
  }) s messages new

-- every number for a grant on a file was given
abbrev pub NoneLeft : State → (file : ℕ) → Type 0
NoneLeft m file = (number : ℕ) → is_grant_number file number ≡ true → m.spent_grants number ≡ true

-- a call that conflicts: it waits, where it would and does not wait already, if a number is left for it
abbrev pub HeldUp : State → Ctx → LockArguments → Bool → ℕ → (block : Bool) → (waits : Bool) →
    NlmStatus → List Message → State → Type 0
HeldUp old ctx a by_message file false waits s messages new = Answers status.Denied old s messages new
HeldUp old ctx a by_message file true true s messages new = Answers status.Blocked old s messages new
HeldUp old ctx a by_message file true false s messages new =
    BeginsToWait old ctx a by_message file s messages new
    ⊎ (NoneLeft old file × Answers status.DeniedNoLocks old s messages new)

-- The lock is granted where it conflicts with nothing; an exclusive one asks to write. Its owner knows so from the
-- answer, and its pending grants within the range end (a choice: the standard says nothing of them)
abbrev pub LockEnds : State → Ctx → LockArguments → Bool → NlmStatus → List Message → State → Type 0
LockEnds old ctx a by_message = Checked nlm_status_of old (lock_checked old ctx a.exclusive a.lock)
    (λ file s messages new.
    let Stands = Conflicts (of_file old.locks file) (range_of a.lock) (Some a.exclusive) in
    ((Stands → ⊥) × (s ≡ status.Granted) ×
    ChangesLocks (ending_grants old file (range_of a.lock)) file (range_of a.lock) (Some a.exclusive) messages new)
    ⊎ (Stands × HeldUp old ctx a by_message file a.block
    (list_any (is_request a.exclusive a.lock) (of_file old.waiting file)) s messages new))

-- ---- CANCEL and UNLOCK, procedures 3 and 4

-- an equal request, if one waits, waits no more
abbrev pub CancelEnds : State → Ctx → CancelArguments → NlmStatus → List Message → State → Type 0
CancelEnds old ctx a = Checked nlm_status_of old (lock_checked old ctx false a.lock) (λ file.
    let goes = is_request a.exclusive a.lock in let waiting = of_file old.waiting file in
    let cancels = list_any goes waiting in
    Answers (if cancels then status.Granted else status.Denied)
    (if cancels then record old { waiting = with_list old.waiting file (all_but goes waiting) } else old))

-- the owner has the range no more, whether it had it or not, and its pending grants within it end
abbrev pub UnlockEnds : State → Ctx → UnlockArguments → NlmStatus → List Message → State → Type 0
UnlockEnds old ctx a = Checked nlm_status_of old (lock_checked old ctx false a.lock) (λ file s messages new.
    (s ≡ status.Granted) ×
    ChangesLocks (ending_grants old file (range_of a.lock)) file (range_of a.lock) None messages new)

-- ---- GRANTED_RES, procedure 15: the answer to GRANTED

-- the pending grant, if there is one, was made for this host, and this is its cookie
abbrev pub is_answered : (host cookie : List ℕ) → (number : ℕ) → Option PendingGrant → Bool
is_answered host cookie number None = false
is_answered host cookie number (Some grant) =
    same_bytes grant.request.host host && same_bytes (grant_cookie number) cookie

-- a grant that is answered is pending no more, and a status other than NLM4_GRANTED gives its lock back
abbrev pub GrantEnds : State → (number : ℕ) → Option PendingGrant → NlmStatus → List Message → State →
    Type 0
GrantEnds old number None s messages new = (messages ≡ []) × (new ≡ old)
GrantEnds old number (Some grant) status.Granted messages new = (messages ≡ []) ×
    (new ≡ record old { granted = remove old.granted number })
GrantEnds old number (Some grant) s messages new = ChangesLocks (record old { granted = remove old.granted number })
    grant.file (requested grant.request) None messages new

-- an answer of no pending grant of this host changes nothing
abbrev pub GrantAnswered : State → Ctx → (cookie : List ℕ) → NlmStatus → List Message → State → Type 0
GrantAnswered old ctx cookie =
    let number = from_be_bytes w64 cookie in let found = get old.granted number in
    GrantEnds old number (if is_answered ctx.host cookie number found then found else None)

-- ---- SHARE and UNSHARE, procedures 20 and 21

-- the share that a call names
abbrev pub share_of : NlmShare → Share
share_of s = record { caller_name = s.caller_name; owner = s.owner; mode = s.mode; access = s.access }

-- a share that conflicts is denied, and any other takes the place of the sharer's own of the file; access that
-- DenyWrite denies is access to write
abbrev pub ShareEnds : State → Ctx → ShareArguments → NlmStatus → List Message → State → Type 0
ShareEnds old ctx a = Checked nlm_status_of old
    (file_checked old ctx a.share.file true (denies mode.DenyWrite a.share.access)) (λ file.
    let share = share_of a.share in let shares = of_file old.shares file in
    let denied = is_denied share shares in
    Answers (if denied then status.Denied else status.Granted)
    (if denied then old else record old { shares = with_list old.shares file (shared share shares) }))

-- the sharer has no share of the file any more
abbrev pub UnshareEnds : State → Ctx → ShareArguments → NlmStatus → List Message → State → Type 0
UnshareEnds old ctx a = Checked nlm_status_of old (file_checked old ctx a.share.file true false) (λ file.
    Answers status.Granted (record old
    { shares = with_list old.shares file (unshared (share_of a.share) (of_file old.shares file)) }))

-- ---- FREE_ALL, procedure 23; its state is not looked at

-- the caller has no share, no request that waits and no grant that is to be answered, and these locks are listed
abbrev pub freed_with : State → (name : List ℕ) → (ℕ → List Lock) → State
freed_with m name locks = record m {
  locks = relisted (λ file _. locks file) m.locks;
  shares = relisted (λ file. shares_without name) m.shares;
  waiting = relisted (λ file. requests_without name) m.waiting;
  granted = grants_but (λ (g : PendingGrant). same_bytes g.request.asked.caller_name name) m.granted;
}

-- the caller has nothing more, and then what waits is tried
pub record Frees (old : State) (name : List ℕ) (messages : List Message) (new : State) : Type 0 where
  pub locks : ℕ → List Lock
  pub lists : (file : ℕ) → HasModes (locks file) (modes_without (of_file old.locks file) name)
  pub files : List ℕ
  pub settle : SettleInOrder (freed_with old name locks) files messages new
