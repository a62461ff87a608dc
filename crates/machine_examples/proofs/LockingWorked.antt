-- The steps of MOUNT and NLM that are worked through: the lists of locks at every offset, and what the handle names.
use Rattle.std.proofs.Common.{◌≡◌, ◌==◌, ℕ, ◌+◌, ◌<◌, ◌≤◌, Bool, true, false, not}
use Rattle.std.proofs.Common.{◌&&◌, ◌||◌, cond, ◌-◌, ◌^◌, codes, List, [], ◌∷◌, ◌++◌}
use Rattle.std.proofs.Common.{Option, Some, None, Result, Ok, Err, is_ok, nat_le, inl, inr, refl, sym, ◌∙◌, ap}
use Rattle.std.proofs.Common.{subst, arith}
use Rattle.std.proofs.Math.Bool.{and-false}
use Rattle.std.proofs.lemmas.Bool.{and_parts, le-leb, leb-true, lt-leb}
use Rattle.std.proofs.lemmas.List.Sums.{sum_by-cons}
use Rattle.std.specs.FinMap.{FinMap, empty}
use Rattle.std.specs.List.{AllByRecursion, count_by, list_any, sum_by}
use Rattle.std.specs.Ordering.{nat_cmp}
use Rattle.side_wire.specs.declared.nlm.NlmStatus.TheVariants as status
use Rattle.side_wire.specs.declared.nlm.TestStatus.TheVariants as tested
use Rattle.side_wire.specs.declared.message.NlmLock.{NlmLock}
use Rattle.nfs_machine.specs.Checks.{◌>>=◌, bytes_in, holding, is_writable}
use Rattle.nfs_machine.specs.FileLists.{all_but, grants_but, of_file, with_list}
use Rattle.nfs_machine.specs.Grants.{ChangesLocks, at_file, ending_grants}
use Rattle.nfs_machine.specs.OneFile.{IsHeldUp, is_denied, requested, shared, unshared}
use Rattle.nfs_machine.specs.Locks.{Conflicts, HasModes, fits_offsets, is_within, lies_within, mode_at, modes_with}
use Rattle.nfs_machine.specs.Locks.{same_owner}
use Rattle.nfs_machine.specs.LockSteps.{CancelEnds, TestEnds, UnlockEnds}
use Rattle.nfs_machine.specs.LockSteps.{HeldUp, IsHolder, LockFault, NotRegular, RangeTooBig, ReadOnly, StaleHandle}
use Rattle.nfs_machine.specs.LockSteps.{is_request, share_of}
use Rattle.side_wire.specs.declared.mount.MountStatus.{MountStatus}
use Rattle.side_wire.specs.declared.mount.MountStatus.TheVariants as mount_status
use Rattle.nfs_machine.specs.MountSteps.{MountStep, directory_at, walk, ◌>>=◌ as ◌>>=m◌}
use Rattle.nfs_machine.specs.Exports.{LivingExport}
use Rattle.machine_examples.specs.WorkedCreate.{writable}
use Rattle.machine_examples.specs.WorkedSetting.{unwritable}
use Rattle.nfs_machine.specs.Resolve.{Named, Resolved, Names, living_at, resolve}
use Rattle.side_wire.specs.declared.nlm.ShareAccess.TheVariants as access
use Rattle.side_wire.specs.declared.nlm.ShareMode.TheVariants as mode
use Rattle.nfs_machine.specs.State.{Living, Lock, Owner, PendingGrant, Range, Request, Share, State}
use Rattle.machine_examples.specs.Worked.{open_export, root_bytes, root_handle}
use Rattle.machine_examples.specs.WorkedLocks.{a, b, holder, lock, range_at, reading, reading_too, split, whole}
use Rattle.machine_examples.specs.WorkedLocks.{Unlocked}
use Rattle.machine_examples.specs.WorkedLocks.{Exclusive}
use Rattle.machine_examples.specs.WorkedLocking.{WorkedChecks, WorkedLocking, cancelling, giving_back, locking, on_x}
use Rattle.machine_examples.specs.WorkedLocking.{sharing, testing, waiting, with_reader, with_readers, with_split}
use Rattle.machine_examples.specs.WorkedLocking.{with_waiting, with_whole}
use Rattle.machine_examples.specs.WorkedRun.{nobody, read_only, root_with_x, with_hi, x_bytes, x_written}
use Rattle.nfs_machine.specs.NlmSteps.{NlmStep}
use Rattle.nfs_machine.proofs.NlmChecksLemmas.{
  CancelOf,
  Cancels,
  LockOf,
  ShareOf,
  ShareAnswers,
  TestOf,
  UnlockOf,
  UnshareOf,
}
use Rattle.nfs_machine.proofs.FileMapLemmas.{grants-none, no-list, of-there}
use Rattle.machine_examples.proofs.OneFileLemmas.{first-list, next-list, with-again}
use Rattle.nfs_machine.proofs.ModesLemmas.{listed_locks_tell, holds, mode_by}
use Rattle.nfs_machine.proofs.OpeningStateLemmas.{le_or, none_of}
use Rattle.machine_examples.proofs.RangesWorked.{at-30, locked}
use Rattle.machine_examples.proofs.RunWorked.{root-named, root-written, x-lives, x-named}
use Rattle.nfs_machine.proofs.ChecksPassedLemmas.{numbered}

-- ---- 0 to 99 without 40 to 59
module _ (offset : ℕ) where
  among : (low high : ℕ) → low ≤ offset → offset ≤ high → is_within low high offset ≡ true
  among low high h k = ap (λ t. t && nat_le offset high) (le-leb low offset h) ∙ le-leb offset high k

  under : (low high : ℕ) → offset < low → is_within low high offset ≡ false
  under low high h = ap (λ t. t && nat_le offset high) (lt-leb low offset h)

  over : (low high : ℕ) → high < offset → is_within low high offset ≡ false
  over low high h = ap (λ t. nat_le low offset && t) (lt-leb offset high h) ∙ and-false (nat_le low offset)

  abbrev Agree : Bool → Bool → Bool → Bool → Type 0
  Agree low high out all = mode_by
      (cond low (Some (lock a 0 39 true)) (cond high (Some (lock a 60 99 true)) None)) ≡ cond out Unlocked
      (mode_by (cond all (Some (lock a 0 99 true)) None))

  alike : (t : Bool) → Agree false t false t
  alike true = refl
  alike false = refl

  agree : Agree (is_within 0 39 offset) (is_within 60 99 offset) (is_within 40 59 offset) (is_within 0 99 offset)
  agree = elim (le_or offset 39) [
    | inl h ↦
        subst (λ t. Agree t (is_within 60 99 offset) (is_within 40 59 offset) (is_within 0 99 offset))
        (sym (among 0 39 (omega arith) h))
        (subst (λ t. Agree true (is_within 60 99 offset) t (is_within 0 99 offset))
        (sym (under 40 59 (omega (arith, h))))
        (subst (λ t. Agree true (is_within 60 99 offset) false t)
        (sym (among 0 99 (omega arith) (omega (arith, h)))) refl))
    | inr h ↦
        subst (λ t. Agree t (is_within 60 99 offset) (is_within 40 59 offset) (is_within 0 99 offset))
        (sym (over 0 39 h)) (elim (le_or offset 59) [
          | inl k ↦
              subst (λ t. Agree false t (is_within 40 59 offset) (is_within 0 99 offset))
              (sym (under 60 99 (omega (arith, k))))
              (subst (λ t. Agree false false t (is_within 0 99 offset)) (sym (among 40 59 (omega (arith, h)) k)) refl)
          | inr k ↦
              subst (λ t. Agree false (is_within 60 99 offset) t (is_within 0 99 offset)) (sym (over 40 59 k))
              (subst (λ t. Agree false t false (is_within 0 99 offset))
              (sym (ap (λ t. t && nat_le offset 99) (le-leb 60 offset (omega (arith, k)))))
              (subst (λ t. Agree false (nat_le offset 99) false t)
              (sym (ap (λ t. t && nat_le offset 99) (le-leb 0 offset (omega arith)))) (alike (nat_le offset 99))))
        ])
  ]

  apart : is_within 0 39 offset ≡ true → is_within 60 99 offset ≡ true → ⊥
  apart e f =
      let x = and_parts (nat_le 0 offset) (nat_le offset 39) e in
      let y = and_parts (nat_le 60 offset) (nat_le offset 99) f in
      let below : offset ≤ 39 = leb-true offset 39 x.1 in
      let above : 60 ≤ offset = leb-true 60 offset y.0 in
      omega (arith, below, above)

given-back : HasModes split (modes_with whole (range_at a 40 20) Unlocked)
given-back = record {
  modes_are = modes;
  listed = record {
    ranges = (
      record { rises = omega arith; fits = omega arith },
      (record { rises = omega arith; fits = omega arith }, tt),
    );
    once = once;
  };
}
  where
    modes : (owner : Owner) (offset : ℕ) →
        mode_at split owner offset ≡ modes_with whole (range_at a 40 20) Unlocked owner offset
    modes owner offset =
        elim (same_owner a owner) as (λ t. Agree offset (t && is_within 0 39 offset) (t && is_within 60 99 offset)
        (t && is_within 40 59 offset) (t && is_within 0 99 offset)) [
          | true ↦ agree offset
          | false ↦ refl
        ]

    few : (t : Bool) (offset : ℕ) →
        cond {A = ℕ} (t && is_within 0 39 offset) 1 0 + cond {A = ℕ} (t && is_within 60 99 offset) 1 0 ≤ 1
    few false offset = omega arith
    few true offset =
        elim (is_within 0 39 offset) as (λ t. is_within 0 39 offset ≡ t
        → cond {A = ℕ} t 1 0 + cond {A = ℕ} (is_within 60 99 offset) 1 0 ≤ 1) [
          | true ↦ λ e. elim (is_within 60 99 offset) as
              (λ t. is_within 60 99 offset ≡ t → 1 + cond {A = ℕ} t 1 0 ≤ 1) [
                | true ↦ λ f. absurd (apart offset e f)
                | false ↦ λ f. omega arith
              ] refl
          | false ↦ λ e. elim (is_within 60 99 offset) as (λ t. 0 + cond {A = ℕ} t 1 0 ≤ 1) [
            | true ↦ omega arith
            | false ↦ omega arith
          ]
        ] refl

    once : (owner : Owner) (offset : ℕ) → count_by (holds owner offset) split ≤ 1
    once owner offset =
        let f : Lock → ℕ = λ (l : Lock). cond {A = ℕ} (holds owner offset l) 1 0 in
        let nil : sum_by f [] ≡ 0 = refl in
        let two : f (lock a 0 39 true) + f (lock a 60 99 true) ≤ 1 = few (same_owner a owner) offset in
        omega (
          arith,
          nil,
          two,
          sum_by-cons f (lock a 0 39 true) (lock a 60 99 true ∷ []),
          sum_by-cons f (lock a 60 99 true) [],
        )

-- ---- NLM
abbrev file_by : List LivingExport → (fits writes : Bool) → Resolved → Result ℕ LockFault
file_by exports fits writes r = elim r as (λ r. Result ℕ LockFault) [
  | Names number object ↦
      holding (is_ok (bytes_in object.content)) NotRegular >>= λ _.
      holding fits RangeTooBig >>= λ _.
      holding (not writes || is_writable exports object) ReadOnly >>= λ _.
      Ok number
  | other ↦ Err StaleHandle
]

abbrev lock_under : List LivingExport → Bool → NlmLock → Resolved → Result ℕ LockFault
lock_under exports writes l = file_by exports (fits_offsets l) writes

abbrev pub lock_by : Bool → NlmLock → Resolved → Result ℕ LockFault
lock_by = lock_under writable

-- where a path without parts leads
abbrev walked_by : Option Living → Result Named MountStatus
walked_by o = directory_at o >>=m λ d. Ok (numbered 1 d)

pub is-x : resolve with_hi nobody x_bytes ≡ Names 5 x_written
is-x = x-named with_hi refl x_written refl refl x-lives

-- the same under a read-only export
is-x-read : resolve (read_only with_hi) nobody x_bytes ≡ Names 5 x_written
is-x-read = ap (λ (l : Option Living). living_at l (record root_handle { fileid = 5 })) x-lives

is-root : resolve with_hi nobody root_bytes ≡ Names 1 root_with_x
is-root = root-named with_hi refl root_with_x refl refl root-written

pub worked-checks : WorkedChecks
worked-checks = record {
  good = ap (lock_by true (on_x a 0 100)) is-x;
  last_byte = ap (lock_by true (on_x a (2 ^ 64 - 1) 1)) is-x;
  no_handle = refl;
  other_start = refl;
  directory = ap (lock_by true (on_x a (2 ^ 64 - 1) 2)) is-root;
  above = ap (lock_under unwritable true (on_x a (2 ^ 64 - 1) 2)) is-x-read;
  exclusive = ap (lock_under unwritable true (on_x a 0 1)) is-x-read;
  shared = ap (lock_under unwritable false (on_x a 0 1)) is-x-read;
  statuses = refl;
  test_statuses = refl;
}

-- ---- what file 5 has
abbrev none_held : List Lock
none_held = of_file empty 5

abbrev locks_whole : FinMap nat_cmp (List Lock)
locks_whole = with_list empty 5 whole

abbrev locks_split : FinMap nat_cmp (List Lock)
locks_split = with_list empty 5 split

is-whole : of_file locks_whole 5 ≡ whole
is-whole = of-there empty 5 whole

is-split : of_file locks_split 5 ≡ split
is-split = of-there empty 5 split

abbrev waits_b : FinMap nat_cmp (List Request)
waits_b = with_list empty 5 (waiting ∷ [])

abbrev one_reads : FinMap nat_cmp (List Share)
one_reads = with_list empty 5 (reading ∷ [])

abbrev both_read : FinMap nat_cmp (List Share)
both_read = with_list empty 5 (reading ∷ reading_too ∷ [])

-- where nothing waits, nothing does behind it
still-none : empty ≡ with_list {A = Request} empty 5 (of_file empty 5)
still-none = sym (ap (with_list empty 5) (none_of 5) ∙ no-list 5)

-- nothing waits
quiet : (locks : List Lock) → AllByRecursion (IsHeldUp locks) (of_file empty 5)
quiet locks = subst (AllByRecursion (IsHeldUp locks)) (sym (none_of 5)) tt

-- B asks for byte 30 alone, which A has
pub held : Conflicts (of_file locks_split 5) (range_at b 30 1) Exclusive
held = subst (λ l. Conflicts l (range_at b 30 1) Exclusive) (sym is-split)
    (record { other = a; offset = 30; is_other = refl; is_inside = refl; conflict = refl })

-- A's LOCK of the first 100 bytes
locks-free : Conflicts none_held (range_at a 0 100) Exclusive → ⊥
locks-free = subst (λ l. Conflicts l (range_at a 0 100) Exclusive → ⊥) (sym (none_of 5))
    (listed_locks_tell [] (range_at a 0 100) Exclusive refl)

-- no pending grant ends where there is none
pub none-ends : (m : State) (r : Range) → m.granted ≡ empty → m ≡ ending_grants m 5 r
none-ends m r none =
    let ends : PendingGrant → Bool = λ (g : PendingGrant). (g.file == 5) && lies_within r (requested g.request) in
    λ i. record m { granted = sym (ap (grants_but ends) none ∙ grants-none ends ∙ sym none) i }

locks-whole : ChangesLocks (ending_grants with_hi 5 (range_at a 0 100)) 5 (range_at a 0 100) Exclusive [] with_whole
locks-whole = subst (λ m. ChangesLocks m 5 (range_at a 0 100) Exclusive [] with_whole)
    (none-ends with_hi (range_at a 0 100) refl) (record {
      after = record (at_file with_hi 5) { locks = whole };
      granted = [];
      sets = record {
        locks = whole;
        lists = subst (λ l. HasModes whole (modes_with l (range_at a 0 100) Exclusive)) (sym (none_of 5)) locked;
        settles = (quiet whole, refl);
      };
      grants = record { messages_are = refl; state_is = ap (λ x. record with_whole { waiting = x }) still-none };
    })

locks-split : ChangesLocks (ending_grants with_whole 5 (range_at a 40 20)) 5 (range_at a 40 20) Unlocked [] with_split
locks-split = subst (λ m. ChangesLocks m 5 (range_at a 40 20) Unlocked [] with_split)
    (none-ends with_whole (range_at a 40 20) refl) (record {
      after = record (at_file with_whole 5) { locks = split };
      granted = [];
      sets = record {
        locks = split;
        lists = subst (λ l. HasModes split (modes_with l (range_at a 40 20) Unlocked)) (sym is-whole) given-back;
        settles = (quiet split, refl);
      };
      grants = record {
        messages_are = refl;
        state_is = λ i. record with_hi { locks = sym (with-again empty 5 whole split) i; waiting = still-none i };
      };
    })

-- a MSG call and an NM_LOCK that are denied
is-denied : (by_message : Bool) →
    LockOf with_split nobody (locking b 30 1 false) by_message (Ok 5) status.Denied [] with_split
is-denied by_message = inr (held, record { reply_is = refl; no_message = refl; state_is = refl })

abbrev pub goes : Request → Bool
goes = is_request true (on_x b 30 1)

-- what A's share and B's are to what stands
abbrev a_reads : Share
a_reads = share_of (sharing a mode.DenyWrite access.Read).share

abbrev b_writes : Share
b_writes = share_of (sharing b mode.DenyNone access.Write).share

abbrev b_reads : Share
b_reads = share_of (sharing b mode.DenyNone access.Read).share

abbrev a_denies : Share
a_denies = share_of (sharing a mode.DenyRead access.Read).share

abbrev c_sharer : Share
c_sharer = share_of (sharing (record a { caller_name = codes "c3" }) mode.DenyNone access.Neither).share

-- whether a share conflicts with those of the file
conflicts-is : (s : Share) (shares : List Share) (b : Bool) → is_denied s shares ≡ b
    → is_denied s (of_file (with_list empty 5 shares) 5) ≡ b
conflicts-is s shares b is = ap (is_denied s) (of-there empty 5 shares) ∙ is

-- A gives a part of its range back
pub unlocks-part : UnlockEnds with_whole nobody giving_back status.Granted [] with_split
unlocks-part =
    subst (λ r. UnlockOf with_whole giving_back (lock_by false giving_back.lock r) status.Granted [] with_split)
    (sym is-x) (refl, locks-split)

-- B cancels what waits
pub cancels-b : CancelEnds with_waiting nobody cancelling status.Granted [] (record with_waiting { waiting = empty })
cancels-b =
    subst (λ r. CancelOf with_waiting cancelling (lock_by false cancelling.lock r) status.Granted []
    (record with_waiting { waiting = empty })) (sym is-x)
    (subst (λ some. Cancels with_waiting 5 goes some status.Granted [] (record with_waiting { waiting = empty }))
    (sym (ap (list_any goes) (of-there empty 5 (waiting ∷ [])))) (record {
      reply_is = refl;
      no_message = refl;
      state_is = ap (λ x. record with_waiting { waiting = x })
          (sym (next-list 5 (waiting ∷ []) (all_but goes) ∙ no-list 5));
    }))

-- B's test meets A's lock
pub tests-b : TestEnds with_split nobody testing (tested.Denied (holder 0 40)) [] with_split
tests-b =
    subst (λ r. TestOf with_split testing (lock_by false testing.lock r) (tested.Denied (holder 0 40)) [] with_split)
    (sym is-x) (
      subst (λ l. IsHolder l (range_at b 30 1) Exclusive (holder 0 40)) (sym is-split) at-30,
      refl,
      refl,
    )

pub worked-locking : WorkedLocking
unfolding NlmStep MountStep walk
worked-locking = record {
  locks = (
    status.Granted,
    subst (λ r. LockOf with_hi nobody (locking a 0 100 true) false (lock_by true ((locking a 0 100 true)).lock r)
        status.Granted [] with_whole) (sym is-x) (inl (locks-free, refl, locks-whole)),
    refl,
  );
  unlocks = (status.Granted, unlocks-part, refl);
  waits = (
    status.Blocked,
    subst (λ r. LockOf with_split nobody (locking b 30 1 true) false (lock_by true ((locking b 30 1 true)).lock r)
        status.Blocked [] with_waiting) (sym is-x)
        (inr (
          held,
          subst (λ l. HeldUp with_split nobody (locking b 30 1 true) false 5 true (list_any goes l)
              status.Blocked [] with_waiting) (sym (none_of 5)) (inl (record {
                number = 5;
                suits = refl;
                unspent = refl;
                answers = record {
                  reply_is = refl;
                  no_message = refl;
                  state_is = ap (λ x. record with_split
                      { waiting = x; spent_grants = λ n. (n == 5) || with_hi.spent_grants n })
                      (sym (first-list 5 (λ l. l ++ waiting ∷ [])));
                };
              })),
        )),
    refl,
  );
  waits_once = (
    status.Blocked,
    subst (λ r. LockOf with_waiting nobody (locking b 30 1 true) false (lock_by true ((locking b 30 1 true)).lock r)
        status.Blocked [] with_waiting) (sym is-x)
        (inr (
          held,
          subst (λ l. HeldUp with_waiting nobody (locking b 30 1 true) false 5 true (list_any goes l)
              status.Blocked [] with_waiting) (sym (of-there empty 5 (waiting ∷ [])))
              (record { reply_is = refl; no_message = refl; state_is = refl }),
        )),
    refl,
  );
  cancels = (status.Granted, cancels-b, refl);
  cancels_none = (
    status.Denied,
    subst (λ r. CancelOf with_split cancelling (lock_by false cancelling.lock r) status.Denied [] with_split)
        (sym is-x)
        (subst (λ some. Cancels with_split 5 goes some status.Denied [] with_split)
        (sym (ap (list_any goes) (none_of 5))) (record { reply_is = refl; no_message = refl; state_is = refl })),
    refl,
  );
  tests = (tested.Denied (holder 0 40), tests-b, refl);
  posts = (
    status.Granted,
    [],
    subst (λ r. LockOf with_hi nobody (locking a 0 100 true) true (lock_by true ((locking a 0 100 true)).lock r)
        status.Granted [] with_whole) (sym is-x) (inl (locks-free, refl, locks-whole)),
    refl,
    refl,
  );
  posts_denied = (
    status.Denied,
    [],
    subst (λ r. LockOf with_split nobody (locking b 30 1 false) true (lock_by true ((locking b 30 1 false)).lock r)
        status.Denied [] with_split) (sym is-x) (is-denied true),
    refl,
    refl,
  );
  shares = (
    status.Granted,
    subst (λ r. ShareOf with_hi (sharing a mode.DenyWrite access.Read).share (file_by writable true false r)
        status.Granted [] with_reader) (sym is-x)
        (subst (λ some. ShareAnswers with_hi 5 a_reads some status.Granted [] with_reader)
        (sym (ap (is_denied a_reads) (none_of 5))) (record {
          reply_is = refl;
          no_message = refl;
          state_is = ap (λ x. record with_hi { shares = x })
              (sym (first-list 5 (λ l. shared a_reads l)));
        })),
    refl,
  );
  share_denied = (
    status.Denied,
    subst (λ r. ShareOf with_reader (sharing b mode.DenyNone access.Write).share (file_by writable true true r)
        status.Denied [] with_reader) (sym is-x)
        (subst (λ some. ShareAnswers with_reader 5 b_writes some status.Denied [] with_reader)
        (sym (conflicts-is b_writes (reading ∷ []) true refl))
        (record { reply_is = refl; no_message = refl; state_is = refl })),
    refl,
  );
  shares_too = (
    status.Granted,
    subst (λ r. ShareOf with_reader (sharing b mode.DenyNone access.Read).share (file_by writable true false r)
        status.Granted [] with_readers) (sym is-x)
        (subst (λ some. ShareAnswers with_reader 5 b_reads some status.Granted [] with_readers)
        (sym (conflicts-is b_reads (reading ∷ []) false refl)) (record {
          reply_is = refl;
          no_message = refl;
          state_is = ap (λ x. record with_hi { shares = x })
              (sym (next-list 5 (reading ∷ []) (λ l. shared b_reads l)));
        })),
    refl,
  );
  own_denied = (
    status.Denied,
    subst (λ r. ShareOf with_readers (sharing a mode.DenyRead access.Read).share (file_by writable true false r)
        status.Denied [] with_readers) (sym is-x)
        (subst (λ some. ShareAnswers with_readers 5 a_denies some status.Denied [] with_readers)
        (sym (conflicts-is a_denies (reading ∷ reading_too ∷ []) true refl))
        (record { reply_is = refl; no_message = refl; state_is = refl })),
    refl,
  );
  unshares_none = (
    status.Granted,
    subst (λ r. UnshareOf with_readers
        (sharing (record a { caller_name = codes "c3" }) mode.DenyNone access.Neither).share
        (file_by writable true false r) status.Granted [] with_readers) (sym is-x) (record {
          reply_is = refl;
          no_message = refl;
          state_is = ap (λ x. record with_hi { shares = x })
              (sym (next-list 5 (reading ∷ reading_too ∷ []) (unshared c_sharer)));
        }),
    refl,
  );
  unshares = (
    status.Granted,
    subst (λ r. UnshareOf with_readers (sharing a mode.DenyWrite access.Read).share (file_by writable true false r)
        status.Granted [] (record with_hi { shares = with_list empty 5 (reading_too ∷ []) })) (sym is-x) (record {
          reply_is = refl;
          no_message = refl;
          state_is = ap (λ x. record with_hi { shares = x })
              (sym (next-list 5 (reading ∷ reading_too ∷ []) (unshared a_reads)));
        }),
    refl,
  );
  denied = (
    status.Denied,
    subst (λ r. LockOf with_split nobody (locking b 30 1 false) false (lock_by true ((locking b 30 1 false)).lock r)
        status.Denied [] with_split) (sym is-x) (is-denied false),
    refl,
  );
  mounts = (
    Ok root_bytes,
    refl,
    refl,
    (
      numbered 1 root_with_x,
      (
        refl,
        1,
        [],
        record {
          matches = record {
            export = record { number = 1; root = 1; value = open_export };
            stands = refl;
            admitted = refl;
            begins = refl;
          };
          longest = λ other more leads. omega arith;
        },
        sym (ap walked_by root-written),
      ),
      refl,
      refl,
    ),
  );
  not_mounted = (Err mount_status.Invalid, refl, refl, (inl refl, refl));
}
