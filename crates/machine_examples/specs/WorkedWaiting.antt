-- Whole steps over requests that wait, worked through by hand: in two files at once, where no number is left, and
-- where the file goes (RFC 1813, 3.3.12; appendix II, 6.2: procedures 2 and 23).
use Rattle.std.specs.Prelude.{◌%◌, ◌==◌, true, List, [], ◌∷◌, Ok, codes, pos}
use Rattle.std.specs.FinMap.{FinMap, empty, insert}
use Rattle.std.specs.Ordering.{nat_cmp}
use Rattle.nfs_wire.specs.declared.calls.NfsCall.TheVariants as nfs
use Rattle.nfs_wire.specs.declared.replies.NfsReply.{NfsReply}
use Rattle.nfs_wire.specs.declared.replies.NfsReply.TheVariants as nfs_replies
use Rattle.side_wire.specs.declared.nlm.FreeAllArguments.{FreeAllArguments}
use Rattle.side_wire.specs.declared.nlm.NlmCall.TheVariants as nlm
use Rattle.side_wire.specs.declared.nlm.NlmReply.TheVariants as nlm_replies
use Rattle.side_wire.specs.declared.nlm.NlmStatus.TheVariants as status
use Rattle.nfs_machine.specs.FileLists.{with_list}
use Rattle.nfs_machine.specs.Grants.{grant_message}
use Rattle.nfs_machine.specs.NfsSteps.{NfsStep}
use Rattle.nfs_machine.specs.NlmSteps.{NlmStep, result_with}
use Rattle.nfs_machine.specs.Resolve.{resolve}
use Rattle.nfs_machine.specs.Shown.{wcc}
use Rattle.nfs_machine.specs.State.{Lock, State}
use Rattle.machine_examples.specs.Worked.{root_bytes}
use Rattle.machine_examples.specs.WorkedLocking.{locking, with_split, with_waiting}
use Rattle.machine_examples.specs.WorkedLocks.{a, b, lock}
use Rattle.machine_examples.specs.WorkedRun.{in_root, nobody, removed}
use Rattle.machine_examples.specs.WorkedSettling.{alone, c}

-- two files, of each the same
abbrev pub in_both : {A : Type 0} → (of_third of_fifth : List A) → FinMap nat_cmp (List A)
in_both of_third of_fifth = with_list (with_list empty 5 of_fifth) 3 of_third

-- C has the first 20 bytes of both; A waits for those of the third file, and B for those of the fifth
abbrev pub of_c : List Lock
of_c = lock c 0 19 true ∷ []

abbrev pub two_held_by_c : State → State
two_held_by_c m = record m {
  locks = in_both of_c of_c;
  shares = empty;
  waiting = in_both (alone a 3 ∷ []) (alone b 69 ∷ []);
  granted = empty;
}

-- A and B have them
abbrev pub two_granted : State → State
two_granted m = record m {
  locks = with_list (with_list empty 3 (lock a 0 19 true ∷ [])) 5 (lock b 0 19 true ∷ []);
  shares = empty;
  waiting = empty;
  granted = insert (insert empty 3 (record { file = 3; request = alone a 3 })) 69
      (record { file = 5; request = alone b 69 });
}

abbrev pub freeing : FreeAllArguments
freeing = record { name = codes "c3"; state = pos 0 }

-- the numbers for grants on the fifth file were all given
abbrev pub none_left : State
none_left = record with_split { spent_grants = λ n. n % 64 == 5 }

-- "x" went while B waited for it
abbrev pub without_waiting : State
without_waiting = record removed { locks = empty; waiting = empty; spent_grants = with_waiting.spent_grants }

abbrev pub gone_reply : NfsReply
gone_reply = nfs_replies.Remove
    (record { directory = wcc without_waiting (resolve with_waiting nobody root_bytes); result = Ok tt })

pub record WorkedWaiting : Type 0 where
  -- the third file before the fifth
  pub frees : (m : State) →
      NlmStep (two_held_by_c m) nobody (nlm.FreeAll freeing) nlm_replies.FreeAll
      (grant_message (alone a 3) ∷ grant_message (alone b 69) ∷ []) (two_granted m)
  -- it does not wait, though it would
  pub no_number : NlmStep none_left nobody (nlm.Lock (locking b 30 1 true))
      (nlm_replies.Lock (result_with (1 ∷ []) status.DeniedNoLocks)) [] none_left
  -- its lock goes, and so does the request, with no message
  pub removes : NfsStep with_waiting nobody (nfs.Remove (in_root (codes "x"))) gone_reply [] without_waiting
