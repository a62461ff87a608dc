-- The tests of `Same` tell values apart: they pass where the two are one, and nowhere else.
use Rattle.std.specs.Prelude.{◌≡◌, ℕ, Bool, true, false, ◌==◌, ◌&&◌, List}
use Rattle.std.specs.Bool.{Decides, beq}
use Rattle.std.specs.Cmp.{first_so, second_so, signed_Decides, unsigned_Decides}
use Rattle.std.specs.Cmp.Lexicographic.{bytes_decides, pointwise, pointwise_decides}
use Rattle.std.specs.Ordering.{int_eq}
use Rattle.std.proofs.Common.{refl, subst, sym}
use Rattle.side_wire.specs.declared.message.NlmLock.{NlmLock}
use Rattle.side_wire.specs.declared.nlm.ShareAccess.{ShareAccess}
use Rattle.side_wire.specs.declared.nlm.ShareAccess.TheVariants as access
use Rattle.side_wire.specs.declared.nlm.ShareMode.{ShareMode}
use Rattle.side_wire.specs.declared.nlm.ShareMode.TheVariants as mode
use Rattle.nfs_machine.specs.Bytes.{same_bytes}
use Rattle.nfs_machine.specs.State.{Lock, Request, Share}
use Rattle.nfs_machine.proofs.ModesLemmas.{one-owner, owner-itself}
use Rattle.nlm_ranges.specs.Buckets.{BucketValue, LockedValue}
use Rattle.nlm_ranges.specs.Files.{FileValue}
use Rattle.nlm_ranges.specs.Same.{equal_locks, equal_requests, same_access, same_bucket}
use Rattle.nlm_ranges.specs.Same.{same_file, same_lock, same_locked, same_mode, same_share}

-- a test decides that values are one, if it passes where they are and only there
from_self : {X : Type 0} (test : X → X → Bool) → ((a b : X) → test a b ≡ true → a ≡ b) →
    ((a : X) → test a a ≡ true) → (a b : X) → Decides (test a b) (a ≡ b)
from_self test same own a b = (same a b, λ e. subst (λ x. test a x ≡ true) e (own a))

-- so does each answer that is the test's
pub told_so : {X : Type 0} {test : X → X → Bool} → ((a b : X) → Decides (test a b) (a ≡ b)) →
    (r : Bool) (a b : X) → r ≡ test a b → Decides r (a ≡ b)
told_so decides r a b is = subst (λ t. Decides t (a ≡ b)) (sym is) (decides a b)

both : (a b : Bool) → a ≡ true → b ≡ true → (a && b) ≡ true
both a b x y = λ i. x i && y i

bool_same : (a b : Bool) → beq a b ≡ true → a ≡ b
bool_same true true e = refl
bool_same true false e = cc
bool_same false true e = cc
bool_same false false e = refl

bool_own : (a : Bool) → beq a a ≡ true
bool_own true = refl
bool_own false = refl

-- ---- locks
lock_same : (a b : Lock) → same_lock a b ≡ true → a ≡ b
lock_same a b e =
    let after = second_so (a.first == b.first) _ e in
    let then = second_so (a.last == b.last) _ after in
    λ i. record {
      range = record {
        owner = one-owner a.owner b.owner (second_so (beq a.exclusive b.exclusive) _ then) i;
        first = (unsigned_Decides a.first b.first).0 (first_so (a.first == b.first) _ e) i;
        last = (unsigned_Decides a.last b.last).0 (first_so (a.last == b.last) _ after) i;
      };
      exclusive = bool_same a.exclusive b.exclusive (first_so (beq a.exclusive b.exclusive) _ then) i;
    }

pub lock_decides : (a b : Lock) → Decides (same_lock a b) (a ≡ b)
lock_decides = from_self same_lock lock_same (λ a. both _ _ ((unsigned_Decides a.first a.first).1 refl)
    (both _ _ ((unsigned_Decides a.last a.last).1 refl) (both _ _ (bool_own a.exclusive) (owner-itself a.owner))))

pub locks_decide : (a b : List Lock) → Decides (pointwise same_lock a b) (a ≡ b)
locks_decide = pointwise_decides lock_decides

-- ---- shares
mode_same : (a b : ShareMode) → same_mode a b ≡ true → a ≡ b
mode_same mode.DenyNone mode.DenyNone e = refl
mode_same mode.DenyRead mode.DenyRead e = refl
mode_same mode.DenyWrite mode.DenyWrite e = refl
mode_same mode.DenyReadWrite mode.DenyReadWrite e = refl
mode_same a b e = cc

mode_own : (a : ShareMode) → same_mode a a ≡ true
mode_own mode.DenyNone = refl
mode_own mode.DenyRead = refl
mode_own mode.DenyWrite = refl
mode_own mode.DenyReadWrite = refl

access_same : (a b : ShareAccess) → same_access a b ≡ true → a ≡ b
access_same access.Neither access.Neither e = refl
access_same access.Read access.Read e = refl
access_same access.Write access.Write e = refl
access_same access.ReadWrite access.ReadWrite e = refl
access_same a b e = cc

access_own : (a : ShareAccess) → same_access a a ≡ true
access_own access.Neither = refl
access_own access.Read = refl
access_own access.Write = refl
access_own access.ReadWrite = refl

share_same : (a b : Share) → same_share a b ≡ true → a ≡ b
share_same a b e =
    let after = second_so (same_mode a.mode b.mode) _ e in
    let then = second_so (same_access a.access b.access) _ after in
    λ i. record {
      caller_name = (bytes_decides a.caller_name b.caller_name).0
          (first_so (same_bytes a.caller_name b.caller_name) _ then) i;
      owner = (bytes_decides a.owner b.owner).0 (second_so (same_bytes a.caller_name b.caller_name) _ then) i;
      mode = mode_same a.mode b.mode (first_so (same_mode a.mode b.mode) _ e) i;
      access = access_same a.access b.access (first_so (same_access a.access b.access) _ after) i;
    }

pub share_decides : (a b : Share) → Decides (same_share a b) (a ≡ b)
share_decides = from_self same_share share_same (λ a. both _ _ (mode_own a.mode) (both _ _ (access_own a.access)
    (both _ _ ((bytes_decides a.caller_name a.caller_name).1 refl) ((bytes_decides a.owner a.owner).1 refl))))

pub shares_decide : (a b : List Share) → Decides (pointwise same_share a b) (a ≡ b)
shares_decide = pointwise_decides share_decides

-- ---- requests
bytes_own : (bs : List ℕ) → same_bytes bs bs ≡ true
bytes_own bs = (bytes_decides bs bs).1 refl

nat_own : (n : ℕ) → (n == n) ≡ true
nat_own n = (unsigned_Decides n n).1 refl

locks_same : (a b : NlmLock) → equal_locks a b ≡ true → a ≡ b
locks_same a b e =
    let places = second_so (int_eq a.process b.process) _ e in
    let lengths = second_so (a.offset == b.offset) _ places in
    let texts = second_so (a.length == b.length) _ lengths in
    let rest = second_so (same_bytes a.caller_name b.caller_name) _ texts in
    λ i. record {
      caller_name = (bytes_decides a.caller_name b.caller_name).0
          (first_so (same_bytes a.caller_name b.caller_name) _ texts) i;
      file = (bytes_decides a.file b.file).0 (first_so (same_bytes a.file b.file) _ rest) i;
      owner = (bytes_decides a.owner b.owner).0 (second_so (same_bytes a.file b.file) _ rest) i;
      process = (signed_Decides a.process b.process).0 (first_so (int_eq a.process b.process) _ e) i;
      offset = (unsigned_Decides a.offset b.offset).0 (first_so (a.offset == b.offset) _ places) i;
      length = (unsigned_Decides a.length b.length).0 (first_so (a.length == b.length) _ lengths) i;
    }

locks_own : (a : NlmLock) → equal_locks a a ≡ true
locks_own a = both _ _ ((signed_Decides a.process a.process).1 refl) (both _ _ (nat_own a.offset)
    (both _ _ (nat_own a.length) (both _ _ (bytes_own a.caller_name)
    (both _ _ (bytes_own a.file) (bytes_own a.owner)))))

request_same : (a b : Request) → equal_requests a b ≡ true → a ≡ b
request_same a b e =
    let flags = second_so (a.number == b.number) _ e in
    let more = second_so (beq a.exclusive b.exclusive) _ flags in
    let texts = second_so (beq a.by_message b.by_message) _ more in
    λ i. record {
      number = (unsigned_Decides a.number b.number).0 (first_so (a.number == b.number) _ e) i;
      host = (bytes_decides a.host b.host).0 (first_so (same_bytes a.host b.host) _ texts) i;
      exclusive = bool_same a.exclusive b.exclusive (first_so (beq a.exclusive b.exclusive) _ flags) i;
      asked = locks_same a.asked b.asked (second_so (same_bytes a.host b.host) _ texts) i;
      by_message = bool_same a.by_message b.by_message (first_so (beq a.by_message b.by_message) _ more) i;
    }

pub requests_equal : (a b : Request) → Decides (equal_requests a b) (a ≡ b)
requests_equal = from_self equal_requests request_same (λ a. both _ _ (nat_own a.number)
    (both _ _ (bool_own a.exclusive) (both _ _ (bool_own a.by_message)
    (both _ _ (bytes_own a.host) (locks_own a.asked)))))

pub lists_equal : (a b : List Request) → Decides (pointwise equal_requests a b) (a ≡ b)
lists_equal = pointwise_decides requests_equal

-- ---- files
file_same : (a b : FileValue) → same_file a b ≡ true → a ≡ b
file_same a b e =
    let rest = second_so (pointwise same_lock a.held.locks b.held.locks) _ e in
    let requests = second_so (pointwise same_share a.held.shares b.held.shares) _ rest in
    λ i. record {
      held = record {
        locks = (locks_decide a.held.locks b.held.locks).0
            (first_so (pointwise same_lock a.held.locks b.held.locks) _ e) i;
        shares = (shares_decide a.held.shares b.held.shares).0
            (first_so (pointwise same_share a.held.shares b.held.shares) _ rest) i;
        waiting = (lists_equal a.held.waiting b.held.waiting).0
            (first_so (pointwise equal_requests a.held.waiting b.held.waiting) _ requests) i;
      };
      pending = (lists_equal a.pending b.pending).0
          (second_so (pointwise equal_requests a.held.waiting b.held.waiting) _ requests) i;
    }

pub file_decides : (a b : FileValue) → Decides (same_file a b) (a ≡ b)
file_decides = from_self same_file file_same (λ a. both _ _ ((locks_decide a.held.locks a.held.locks).1 refl)
    (both _ _ ((shares_decide a.held.shares a.held.shares).1 refl)
    (both _ _ ((lists_equal a.held.waiting a.held.waiting).1 refl) ((lists_equal a.pending a.pending).1 refl))))

-- ---- buckets
locked_same : (a b : LockedValue) → same_locked a b ≡ true → a ≡ b
locked_same a b e =
    let rest = second_so (a.number == b.number) _ e in
    λ i. record {
      number = (unsigned_Decides a.number b.number).0 (first_so (a.number == b.number) _ e) i;
      export = (unsigned_Decides a.export b.export).0 (first_so (a.export == b.export) _ rest) i;
      file = (file_decides a.file b.file).0 (second_so (a.export == b.export) _ rest) i;
    }

pub locked_decides : (a b : LockedValue) → Decides (same_locked a b) (a ≡ b)
locked_decides = from_self same_locked locked_same
    (λ a. both _ _ (nat_own a.number) (both _ _ (nat_own a.export) ((file_decides a.file a.file).1 refl)))

all_locked_decide : (a b : List LockedValue) → Decides (pointwise same_locked a b) (a ≡ b)
all_locked_decide = pointwise_decides locked_decides

bucket_same : (a b : BucketValue) → same_bucket a b ≡ true → a ≡ b
bucket_same a b e = λ i. record {
  given = (unsigned_Decides a.given b.given).0 (first_so (a.given == b.given) _ e) i;
  files = (all_locked_decide a.files b.files).0 (second_so (a.given == b.given) _ e) i;
}

pub bucket_decides : (a b : BucketValue) → Decides (same_bucket a b) (a ≡ b)
bucket_decides = from_self same_bucket bucket_same
    (λ a. both _ _ (nat_own a.given) ((all_locked_decide a.files a.files).1 refl))
