-- The calls of NLM whose results are messages, worked through: the steps of the calls that answer in their replies, and
-- a range that is given back while a request waits for a part of it.
use Rattle.std.proofs.Common.{◌≡◌, ℕ, ◌≤◌, true, false, ◌&&◌, cond, List, [], ◌∷◌, Some}
use Rattle.std.proofs.Common.{None, refl, sym, ◌∙◌, ap, subst}
use Rattle.std.proofs.Common.{arith}
use Rattle.std.specs.FinMap.{empty}
use Rattle.side_wire.specs.declared.nlm.NlmStatus.TheVariants as status
use Rattle.side_wire.specs.declared.nlm.TestStatus.TheVariants as tested
use Rattle.nfs_machine.specs.Grants.{ChangesLocks, at_file, ending_grants, grant_message}
use Rattle.nfs_machine.specs.Locks.{HasModes, is_within, modes_with, same_owner}
use Rattle.nfs_machine.specs.NlmSteps.{NlmStep}
use Rattle.nfs_machine.specs.OneFile.{FileLocks, SetsMode, requested}
use Rattle.nfs_machine.specs.State.{Lock, Owner}
use Rattle.nfs_machine.proofs.NlmChecksLemmas.{UnlockOf}
use Rattle.nfs_machine.proofs.FileMapLemmas.{no-list, of-there}
use Rattle.nfs_machine.proofs.FirmLemmas.{none-listed}
use Rattle.nfs_machine.proofs.ModesLemmas.{listed_locks_tell, mode_by, narrower}
use Rattle.nfs_machine.proofs.OpeningStateLemmas.{none_of}
use Rattle.machine_examples.proofs.LockingWorked.{cancels-b, is-x, lock_by, none-ends, tests-b, unlocks-part}
use Rattle.machine_examples.proofs.OneFileLemmas.{with-again}
use Rattle.machine_examples.proofs.RangesWorked.{one-has}
use Rattle.machine_examples.proofs.SettlingWorked.{grants-one, having}
use Rattle.machine_examples.specs.WorkedLocking.{waiting, with_waiting}
use Rattle.machine_examples.specs.WorkedLocks.{a, b, holder, lock, range_at, split, Unlocked}
use Rattle.machine_examples.specs.WorkedPosting.{WorkedPosting, giving_all, with_granted}

-- A has nothing more
all-given : HasModes [] (modes_with split (range_at a 0 100) Unlocked)
all-given = record { modes_are = modes; listed = none-listed }
  where
    outside : (offset low high : ℕ) → high ≤ 99 → is_within 0 99 offset ≡ false →
        is_within low high offset ≡ false
    outside offset low high to out =
        elim (is_within low high offset) as (λ t. is_within low high offset ≡ t → t ≡ false) [
          | true ↦ λ e.
              let no : true ≡ false = sym (narrower low high 0 99 offset (omega arith) to e) ∙ out in
              cc
          | false ↦ λ e. refl
        ] refl

    modes : (owner : Owner) (offset : ℕ) → Unlocked ≡ modes_with split (range_at a 0 100) Unlocked owner offset
    modes owner offset =
        elim (same_owner a owner) as (λ o. Unlocked ≡ cond (o && is_within 0 99 offset) Unlocked
        (mode_by (cond (o && is_within 0 39 offset) (Some (lock a 0 39 true))
        (cond (o && is_within 60 99 offset) (Some (lock a 60 99 true)) None)))) [
          | true ↦ elim (is_within 0 99 offset) as (λ t. is_within 0 99 offset ≡ t → Unlocked ≡ cond t Unlocked
              (mode_by (cond (is_within 0 39 offset) (Some (lock a 0 39 true))
              (cond (is_within 60 99 offset) (Some (lock a 60 99 true)) None)))) [
                | true ↦ λ e. refl
                | false ↦ λ e. sym (
                    ap (λ t. mode_by (cond t (Some (lock a 0 39 true))
                    (cond (is_within 60 99 offset) (Some (lock a 60 99 true)) None)))
                    (outside offset 0 39 (omega arith) e)
                    ∙ ap (λ t. mode_by (cond t (Some (lock a 60 99 true)) None))
                    (outside offset 60 99 (omega arith) e)
                    )
              ] refl
          | false ↦ refl
        ]

gives-it : ChangesLocks with_waiting 5 (range_at a 0 100) Unlocked (grant_message waiting ∷ []) with_granted
gives-it =
    let b_has : List Lock = lock b 30 30 true ∷ [] in
    let after : FileLocks = having [] b_has [] in
    let has : having [] split (waiting ∷ []) ≡ at_file with_waiting 5 =
    λ i. having (sym (none_of 5) i) (sym (of-there empty 5 split) i)
    (sym (of-there empty 5 (waiting ∷ [])) i) in record {
      after = after;
      granted = waiting ∷ [];
      sets = subst (λ x. SetsMode x (range_at a 0 100) Unlocked (waiting ∷ []) after) has (record {
        locks = [];
        lists = all-given;
        settles = (
          after,
          grants-one [] [] b_has [] waiting [] tt
              (λ held. listed_locks_tell [] (requested waiting) (Some true) refl held)
              (one-has (lock b 30 30 true) (omega arith) (omega arith)),
          (tt, refl),
        );
      });
      grants = record {
        messages_are = refl;
        state_is = λ i. record with_granted {
          locks = sym (with-again empty 5 split b_has) i;
          waiting = sym (with-again empty 5 (waiting ∷ []) [] ∙ no-list 5) i;
        };
      };
    }

-- no grant is pending before
gives-all : ChangesLocks (ending_grants with_waiting 5 (range_at a 0 100)) 5 (range_at a 0 100) Unlocked
    (grant_message waiting ∷ []) with_granted
gives-all =
    subst (λ m. ChangesLocks m 5 (range_at a 0 100) Unlocked (grant_message waiting ∷ []) with_granted)
    (none-ends with_waiting (range_at a 0 100) refl) gives-it

pub worked-posting : WorkedPosting
unfolding NlmStep
worked-posting = record {
  tests = (tested.Denied (holder 0 40), [], tests-b, refl, refl);
  cancels = (status.Granted, [], cancels-b, refl, refl);
  unlocks = (status.Granted, [], unlocks-part, refl, refl);
  unlocks_all = (
    status.Granted,
    grant_message waiting ∷ [],
    subst (λ r. UnlockOf with_waiting giving_all (lock_by false giving_all.lock r) status.Granted
        (grant_message waiting ∷ []) with_granted) (sym is-x) (refl, gives-all),
    refl,
    refl,
  );
  granted = (status.Denied, record { reply_is = refl; no_message = refl; state_is = refl }, refl);
  granted_by_message =
      (status.Denied, [], record { reply_is = refl; no_message = refl; state_is = refl }, refl, refl);
  test_result = record { reply_is = refl; no_message = refl; state_is = refl };
  lock_result = record { reply_is = refl; no_message = refl; state_is = refl };
}
