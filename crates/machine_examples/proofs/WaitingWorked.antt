-- Steps over requests that wait, worked through: two files of which each grants one, a request without a number, and a
-- file that goes.
use Rattle.std.proofs.Common.{◌≡◌, ◌==◌, ℕ, ◌%◌, ◌^◌, true, false, List, [], ◌∷◌, Some, None}
use Rattle.std.proofs.Common.{inr, nat_lt, codes, Ok, refl, sym, ◌∙◌, ap, subst, arith}
use Rattle.std.proofs.lemmas.Bool.{and_parts}
use Rattle.std.specs.FinMap.{FinMap, empty, get, get-empty, insert}
use Rattle.std.specs.List.{list_any}
use Rattle.std.specs.Ordering.{nat_cmp}
use Rattle.nfs_wire.specs.declared.calls.NfsCall.TheVariants as nfs
use Rattle.nfs_wire.specs.declared.replies.NfsReply.TheVariants as nfs_replies
use Rattle.side_wire.specs.declared.nlm.NlmStatus.TheVariants as status
use Rattle.nfs_machine.specs.FileLists.{of_file, with_list}
use Rattle.nfs_machine.specs.Grants.{SettleInOrder, SettlesFile, at_file, grant_message}
use Rattle.nfs_machine.specs.Locks.{HasModes, modes_without}
use Rattle.nfs_machine.specs.LockSteps.{Frees, HeldUp, NoneLeft, freed_with}
use Rattle.nfs_machine.specs.NfsSteps.{NfsStep}
use Rattle.nfs_machine.specs.NlmSteps.{NlmStep}
use Rattle.nfs_machine.specs.OneFile.{FileLocks, Settles, requests_without, shares_without}
use Rattle.nfs_machine.specs.RemoveSteps.{without_object}
use Rattle.nfs_machine.specs.Resolve.{resolve}
use Rattle.nfs_machine.specs.Shown.{wcc, with_object}
use Rattle.nfs_machine.specs.State.{Lock, PendingGrant, Request, State}
use Rattle.nfs_machine.proofs.NlmChecksLemmas.{LockOf}
use Rattle.nfs_machine.proofs.FileMapLemmas.{each-with, grants-none, no-list, of-other, of-there, with-same}
use Rattle.nfs_machine.proofs.OpeningStateLemmas.{none_of}
use Rattle.machine_examples.proofs.LockingWorked.{goes, held, is-x, lock_by}
use Rattle.machine_examples.proofs.OneFileLemmas.{
  get-one,
  relisted-gone,
  relisted-kept,
  relisted-none,
  with-again,
  with-some,
}
use Rattle.machine_examples.proofs.RunWorked.{takes-of}
use Rattle.machine_examples.proofs.SettlingWorked.{
  all-freed,
  c_caller,
  freed,
  grants-first,
  having,
  no-waits,
  nothing_listed,
}
use Rattle.machine_examples.specs.Worked.{root_bytes}
use Rattle.machine_examples.specs.WorkedLocking.{locking, waiting, with_waiting}
use Rattle.machine_examples.specs.WorkedLocks.{a, b, lock, split}
use Rattle.machine_examples.specs.WorkedRun.{in_root, nobody, root_after}
use Rattle.machine_examples.specs.WorkedSettling.{alone}
use Rattle.machine_examples.specs.WorkedWaiting.{WorkedWaiting, gone_reply, in_both, none_left, of_c}
use Rattle.machine_examples.specs.WorkedWaiting.{two_granted, two_held_by_c}
use Rattle.machine_examples.specs.WorkedWaiting.{without_waiting}

-- ---- two files
abbrev a_waits : List Request
a_waits = alone a 3 ∷ []

abbrev b_waits : List Request
b_waits = alone b 69 ∷ []

abbrev a_has : List Lock
a_has = lock a 0 19 true ∷ []

abbrev b_has : List Lock
b_has = lock b 0 19 true ∷ []

-- C's caller has nothing more
abbrev left_by_c : State → State
left_by_c m = record m { locks = empty; shares = empty; waiting = in_both a_waits b_waits; granted = empty }

abbrev no_requests : FinMap nat_cmp (List Request)
no_requests = empty

none-empty : (q : ℕ) → get (in_both a_waits b_waits) q ≡ Some [] → ⊥
none-empty = with-some (with_list empty 5 b_waits) (with-some empty none 5 b_waits) 3 a_waits
  where
    none : (q : ℕ) → get no_requests q ≡ Some [] → ⊥
    none q at = (let no : None ≡ Some [] = sym (get-empty nat_cmp q) ∙ at in cc)

all-wait : (q : ℕ) →
    requests_without (codes "c3") (of_file (in_both a_waits b_waits) q) ≡ of_file (in_both a_waits b_waits) q
all-wait = each-with (with_list empty 5 b_waits) 3 a_waits (λ q l. requests_without (codes "c3") l ≡ l) refl
    (each-with empty 5 b_waits (λ q l. requests_without (codes "c3") l ≡ l) refl
    (λ q. subst (λ l. requests_without (codes "c3") l ≡ l) (sym (none_of q)) refl))

left-is : (m : State) → left_by_c m ≡ freed_with (two_held_by_c m) (codes "c3") nothing_listed
left-is m =
    let locks = relisted-gone (λ file (_ : List Lock). nothing_listed file) (in_both of_c of_c) (λ q l. refl) in
    let shares = relisted-none 5 (λ file. shares_without (codes "c3")) in
    let waits = relisted-kept (λ file. requests_without (codes "c3")) (in_both a_waits b_waits) none-empty all-wait in
    let granted = grants-none (λ (g : PendingGrant). c_caller g.request) in
    λ i. record m {
      locks = sym locks i;
      shares = sym shares i;
      waiting = sym waits i;
      granted = sym granted i;
    }

-- A has its bytes of the third file, and B waits still
abbrev third_granted : State → State
third_granted m = record m {
  locks = with_list empty 3 a_has;
  shares = empty;
  waiting = with_list empty 5 b_waits;
  granted = insert empty 3 (record { file = 3; request = alone a 3 });
}

third : (m : State) → SettlesFile (left_by_c m) 3 (grant_message (alone a 3) ∷ []) (third_granted m)
third m =
    let after : FileLocks = having [] a_has [] in
    let has : having [] [] a_waits ≡ at_file (left_by_c m) 3 =
    λ i. having (sym (none_of 3) i) (sym (none_of 3) i)
    (sym (of-there (with_list empty 5 b_waits) 3 a_waits) i) in record {
      after = after;
      granted = a_waits;
      settles = subst (λ x. Settles x a_waits after) has (after, grants-first a 3 true [], (tt, refl));
      grants = record {
        messages_are = refl;
        state_is = ap (λ x. record (third_granted m) { waiting = x })
            (sym (with-again (with_list empty 5 b_waits) 3 a_waits []
            ∙ with-same (with_list empty 5 b_waits) 3 [] (get-one 5 b_waits 3)));
      };
    }

fifth : (m : State) → SettlesFile (third_granted m) 5 (grant_message (alone b 69) ∷ []) (two_granted m)
fifth m =
    let after : FileLocks = having [] b_has [] in
    let has : having [] [] b_waits ≡ at_file (third_granted m) 5 =
    λ i. having (sym (none_of 5) i) (sym (of-other empty 3 a_has 5 refl ∙ none_of 5) i)
    (sym (of-there empty 5 b_waits) i) in record {
      after = after;
      granted = b_waits;
      settles = subst (λ x. Settles x b_waits after) has (after, grants-first b 69 true [], (tt, refl));
      grants = record {
        messages_are = refl;
        state_is = ap (λ x. record (two_granted m) { waiting = x })
            (sym (with-again empty 5 b_waits [] ∙ no-list 5));
      };
    }

frees : (m : State) → Frees (two_held_by_c m) (codes "c3")
    (grant_message (alone a 3) ∷ grant_message (alone b 69) ∷ []) (two_granted m)
frees m = record {
  locks = nothing_listed;
  lists = each-with (with_list empty 5 of_c) 3 of_c
      (λ q (l : List Lock). HasModes [] (modes_without l (codes "c3"))) freed all-freed;
  files = 3 ∷ 5 ∷ [];
  settle = subst (λ s. SettleInOrder s (3 ∷ 5 ∷ [])
      (grant_message (alone a 3) ∷ grant_message (alone b 69) ∷ [])
      (two_granted m)) (left-is m) (
        (omega arith, tt),
        third_granted m,
        grant_message (alone a 3) ∷ [],
        grant_message (alone b 69) ∷ [],
        refl,
        third m,
        (
          tt,
          two_granted m,
          grant_message (alone b 69) ∷ [],
          [],
          refl,
          fifth m,
          (no-waits (two_granted m).locks, refl, refl),
        ),
      );
}

-- ---- no number
all-given : NoneLeft none_left 5
all-given number suits = (and_parts (nat_lt number (2 ^ 64)) (number % 64 == 5) suits).1

-- ---- the file goes
removes : NfsStep with_waiting nobody (nfs.Remove (in_root (codes "x")))
    gone_reply
    [] without_waiting
removes =
    let left : State = without_object (with_object with_waiting 1 root_after) 5 in
    let locks : left.locks ≡ empty = with-again empty 5 split [] ∙ no-list 5 in
    let waits : left.waiting ≡ empty = with-again empty 5 (waiting ∷ []) [] ∙ no-list 5 in
    let same : left ≡ without_waiting = λ i. record left { locks = locks i; waiting = waits i } in
    subst (λ s. NfsStep with_waiting nobody (nfs.Remove (in_root (codes "x")))
    (nfs_replies.Remove (record { directory = wcc s (resolve with_waiting nobody root_bytes); result = Ok tt })) [] s)
    same (takes-of with_waiting)

pub worked-waiting : WorkedWaiting
unfolding NlmStep
worked-waiting = record {
  frees = λ m. (refl, frees m);
  no_number = (
    status.DeniedNoLocks,
    subst (λ r. LockOf none_left nobody (locking b 30 1 true) false (lock_by true (locking b 30 1 true).lock r)
        status.DeniedNoLocks [] none_left) (sym is-x)
        (inr (
          held,
          subst (λ l. HeldUp none_left nobody (locking b 30 1 true) false 5 true (list_any goes l)
              status.DeniedNoLocks [] none_left) (sym (none_of 5))
              (inr (all-given, record { reply_is = refl; no_message = refl; state_is = refl })),
        )),
    refl,
  );
  removes = removes;
}
