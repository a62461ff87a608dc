-- Pending grants that end before they are answered, worked through: each change of locks, at every offset.
use Rattle.std.proofs.Common.{◌≡◌, ◌==◌, ℕ, ◌≤◌, Bool, true, false, ◌&&◌, cond, if◌then◌else◌, List, []}
use Rattle.std.proofs.Common.{Some, None, inl, refl, sym, ◌∙◌, ap, subst, arith}
use Rattle.std.proofs.lemmas.Bool.{and_parts}
use Rattle.std.specs.FinMap.{FinMap, empty, get-empty}
use Rattle.std.specs.Ordering.{nat_cmp}
use Rattle.side_wire.specs.declared.nlm.NlmStatus.TheVariants as status
use Rattle.nfs_machine.specs.FileLists.{of_file, with_list}
use Rattle.nfs_machine.specs.Grants.{ChangesLocks, at_file, ending_grants, grant_cookie}
use Rattle.nfs_machine.specs.Locks.{Conflicts, HasModes, Mode, is_in, is_within, lies_within, mode_at, modes_with}
use Rattle.nfs_machine.specs.Locks.{same_owner}
use Rattle.nfs_machine.specs.LockSteps.{GrantEnds, is_answered}
use Rattle.nfs_machine.specs.NlmSteps.{NlmStep}
use Rattle.nfs_machine.specs.OneFile.{SetsMode, requested}
use Rattle.nfs_machine.specs.State.{Lock, Owner, PendingGrant, Range}
use Rattle.nfs_machine.proofs.NlmChecksLemmas.{LockOf, UnlockOf}
use Rattle.nfs_machine.proofs.FileMapLemmas.{no-list, of-there}
use Rattle.nfs_machine.proofs.FirmLemmas.{none-listed}
use Rattle.nfs_machine.proofs.ModesLemmas.{holds, inside, listed_locks_tell, mode_by, narrower}
use Rattle.nfs_machine.proofs.OpeningStateLemmas.{none_of}
use Rattle.machine_examples.proofs.LockingWorked.{is-x, lock_by, none-ends}
use Rattle.machine_examples.proofs.OneFileLemmas.{grant-gone, grant-stays, with-again}
use Rattle.machine_examples.proofs.RangesWorked.{one-has, one-listed}
use Rattle.machine_examples.proofs.SettlingWorked.{having}
use Rattle.machine_examples.specs.WorkedEnding.{WorkedEnding, asking, b_has, unlocking, with_none, with_pending}
use Rattle.machine_examples.specs.WorkedLocking.{locking}
use Rattle.machine_examples.specs.WorkedLocks.{Exclusive, Unlocked, a, b, lock, range_at}
use Rattle.machine_examples.specs.WorkedRun.{nobody, with_hi}
use Rattle.machine_examples.specs.WorkedSettling.{pending}

abbrev b_lock : Lock
b_lock = lock b 30 39 true

-- B's own lock is not in its way, nor is anything where nothing is held
own-free : (offset length : ℕ) → Conflicts (of_file with_pending.locks 5) (range_at b offset length) Exclusive → ⊥
own-free offset length = subst (λ l. Conflicts l (range_at b offset length) Exclusive → ⊥)
    (sym (of-there empty 5 b_has)) (listed_locks_tell b_has (range_at b offset length) Exclusive refl)

nothing-held : Conflicts (of_file with_hi.locks 5) (range_at b 30 10) Exclusive → ⊥
nothing-held = subst (λ l. Conflicts l (range_at b 30 10) Exclusive → ⊥) (sym (none_of 5))
    (listed_locks_tell [] (range_at b 30 10) Exclusive refl)

-- ---- modes
-- B has as much as it asks for
module _ (first last : ℕ) (low : 30 ≤ first) (high : last ≤ 39) where
  abbrev part : Range
  part = record { owner = b; first = first; last = last }

  wider : (owner : Owner) (offset : ℕ) → is_in part owner offset ≡ true → holds owner offset b_lock ≡ true
  wider owner offset e =
      let all = and_parts (same_owner b owner) (is_within first last offset) e in
      ap (λ t. t && is_within 30 39 offset) all.0 ∙ narrower first last 30 39 offset low high all.1

  has-part : HasModes b_has (modes_with b_has part Exclusive)
  has-part = record { modes_are = modes; listed = one-listed b_lock (omega arith) (omega arith) }
    where
      modes : (owner : Owner) (offset : ℕ) → mode_at b_has owner offset ≡ modes_with b_has part Exclusive owner offset
      modes owner offset =
          elim (is_in part owner offset) as (λ t. is_in part owner offset ≡ t →
          mode_at b_has owner offset ≡ cond t Exclusive (mode_at b_has owner offset)) [
            | true ↦ λ is. ap (λ t. mode_by (cond t (Some b_lock) None)) (wider owner offset is)
            | false ↦ λ out. refl
          ] refl

-- B gives all back
gives-back : HasModes [] (modes_with b_has (range_at b 30 10) Unlocked)
gives-back = record {
  modes_are = λ owner offset. elim (holds owner offset b_lock) as
      (λ t. Unlocked ≡ cond t Unlocked (mode_by (cond t (Some b_lock) None))) [
        | true ↦ refl
        | false ↦ refl
      ];
  listed = none-listed;
}

-- A has nothing to give back
gives-nothing : HasModes b_has (modes_with b_has (range_at a 30 10) Unlocked)
gives-nothing = record { modes_are = modes; listed = one-listed b_lock (omega arith) (omega arith) }
  where
    modes : (owner : Owner) (offset : ℕ) →
        mode_at b_has owner offset ≡ modes_with b_has (range_at a 30 10) Unlocked owner offset
    modes owner offset =
        elim (is_in (range_at a 30 10) owner offset) as (λ t. is_in (range_at a 30 10) owner offset ≡ t →
        mode_at b_has owner offset ≡ cond t Unlocked (mode_at b_has owner offset)) [
          | true ↦ λ is. subst (λ o. mode_at b_has o offset ≡ Unlocked)
              (inside (range_at a 30 10) owner offset is).owner_is refl
          | false ↦ λ out. refl
        ] refl

-- ---- what is pending
abbrev ends_by : Range → PendingGrant → Bool
ends_by r g = (g.file == 5) && lies_within r (requested g.request)

-- what file 5 has stays, or goes
module _ (r : Range) (mode : Mode) (locks : List Lock) (lists : HasModes locks (modes_with b_has r mode))
    (left : FinMap nat_cmp PendingGrant) (ends : (ending_grants with_pending 5 r).granted ≡ left) where
  changes : ChangesLocks (ending_grants with_pending 5 r) 5 r mode []
      (record with_pending { locks = with_list empty 5 locks; granted = left })
  changes =
      let has : having [] b_has [] ≡ at_file with_pending 5 =
      λ i. having (sym (none_of 5) i) (sym (of-there empty 5 b_has) i) (sym (none_of 5) i) in record {
        after = having [] locks [];
        granted = [];
        sets = subst (λ x. SetsMode x r mode [] (having [] locks [])) has
            (record { locks = locks; lists = lists; settles = (tt, refl) });
        grants = record {
          messages_are = refl;
          state_is = λ i. record with_pending {
            locks = sym (with-again empty 5 b_has locks) i;
            waiting = sym (no-list 5) i;
            granted = sym ends i;
          };
        };
      }

-- B locks what it gave back
locks-again : ChangesLocks (ending_grants with_hi 5 (range_at b 30 10)) 5 (range_at b 30 10) Exclusive [] with_none
locks-again = subst (λ m. ChangesLocks m 5 (range_at b 30 10) Exclusive [] with_none)
    (none-ends with_hi (range_at b 30 10) refl) (record {
      after = having [] b_has [];
      granted = [];
      sets = subst (λ x. SetsMode x (range_at b 30 10) Exclusive [] (having [] b_has []))
          (λ i. having (sym (none_of 5) i) (sym (none_of 5) i) (sym (none_of 5) i))
          (record { locks = b_has; lists = one-has b_lock (omega arith) (omega arith); settles = (tt, refl) });
      grants = record { messages_are = refl; state_is = ap (λ x. record with_none { waiting = x }) (sym (no-list 5)) };
    })

pub worked-ending : WorkedEnding
unfolding NlmStep
worked-ending = record {
  polls = (
    status.Granted,
    subst (λ r. LockOf with_pending nobody (locking b 30 10 true) false (lock_by true (locking b 30 10 true).lock r)
        status.Granted [] with_none) (sym is-x)
        (inl (
          own-free 30 10,
          refl,
          changes (range_at b 30 10) Exclusive b_has (has-part 30 39 (omega arith) (omega arith)) empty
              (grant-gone 5 (pending asking) (ends_by (range_at b 30 10)) refl),
        )),
    refl,
  );
  late = (
    refl,
    subst (λ f. GrantEnds with_none 5 (if is_answered nobody.host (grant_cookie 5) 5 f then f else None)
        status.Denied [] with_none) (sym (get-empty nat_cmp 5)) (refl, refl),
  );
  unlocks = (
    status.Granted,
    subst (λ r. UnlockOf with_pending (unlocking b 10) (lock_by false (unlocking b 10).lock r) status.Granted []
        with_hi) (sym is-x) (
          refl,
          subst (ChangesLocks (ending_grants with_pending 5 (range_at b 30 10)) 5 (range_at b 30 10) Unlocked [])
              (ap (λ l. record with_hi { locks = l }) (no-list 5))
              (changes (range_at b 30 10) Unlocked [] gives-back empty
              (grant-gone 5 (pending asking) (ends_by (range_at b 30 10)) refl)),
        ),
    refl,
  );
  locks_again = (
    status.Granted,
    subst (λ r. LockOf with_hi nobody (locking b 30 10 true) false (lock_by true (locking b 30 10 true).lock r)
        status.Granted [] with_none) (sym is-x) (inl (nothing-held, refl, locks-again)),
    refl,
  );
  of_other = (
    status.Granted,
    subst (λ r. UnlockOf with_pending (unlocking a 10) (lock_by false (unlocking a 10).lock r) status.Granted []
        with_pending) (sym is-x) (
          refl,
          changes (range_at a 30 10) Unlocked b_has gives-nothing with_pending.granted
              (grant-stays 5 (pending asking) (ends_by (range_at a 30 10)) refl),
        ),
    refl,
  );
  part = (
    status.Granted,
    subst (λ r. LockOf with_pending nobody (locking b 31 9 true) false (lock_by true (locking b 31 9 true).lock r)
        status.Granted [] with_pending) (sym is-x)
        (inl (
          own-free 31 9,
          refl,
          changes (range_at b 31 9) Exclusive b_has (has-part 31 39 (omega arith) (omega arith)) with_pending.granted
              (grant-stays 5 (pending asking) (ends_by (range_at b 31 9)) refl),
        )),
    refl,
  );
}
