-- Pending grants of an owner whose LOCK is granted, or who unlocks, before its host answers GRANTED, worked through by
-- hand (RFC 1813, appendix II, 6.2: procedures 2, 4 and 15).
use Rattle.std.specs.Prelude.{ℕ, true, List, [], ◌∷◌}
use Rattle.std.specs.FinMap.{empty, insert}
use Rattle.side_wire.specs.declared.nlm.NlmCall.TheVariants as nlm
use Rattle.side_wire.specs.declared.nlm.NlmReply.TheVariants as nlm_replies
use Rattle.side_wire.specs.declared.nlm.NlmStatus.TheVariants as status
use Rattle.side_wire.specs.declared.nlm.UnlockArguments.{UnlockArguments}
use Rattle.nfs_machine.specs.FileLists.{with_list}
use Rattle.nfs_machine.specs.NlmSteps.{NlmStep, result_with}
use Rattle.nfs_machine.specs.State.{Lock, Owner, Request, State}
use Rattle.machine_examples.specs.WorkedLocking.{locking, on_x, waiting}
use Rattle.machine_examples.specs.WorkedLocks.{a, b, lock}
use Rattle.machine_examples.specs.WorkedRun.{nobody, with_hi}
use Rattle.machine_examples.specs.WorkedSettling.{answer, pending}

-- B waited for bytes 30 to 39, and was granted them; its host has not answered
abbrev pub asking : Request
asking = record waiting { asked = on_x b 30 10 }

abbrev pub b_has : List Lock
b_has = lock b 30 39 true ∷ []

abbrev pub with_pending : State
with_pending = record with_hi { locks = with_list empty 5 b_has; granted = insert empty 5 (pending asking) }

-- no answer is waited for any more
abbrev pub with_none : State
with_none = record with_pending { granted = empty }

-- an UNLOCK of so many bytes from 30 on
abbrev pub unlocking : Owner → ℕ → UnlockArguments
unlocking o length = record { cookie = 7 ∷ []; lock = on_x o 30 length }

pub record WorkedEnding : Type 0 where
  -- B asks once more, and is granted what it has; then what its host answers to the message changes nothing
  pub polls : NlmStep with_pending nobody (nlm.Lock (locking b 30 10 true))
      (nlm_replies.Lock (result_with (1 ∷ []) status.Granted)) [] with_none
  pub late : NlmStep with_none nobody (nlm.GrantedRes (answer status.Denied)) nlm_replies.GrantedRes [] with_none
  -- nor does it where B gave the bytes back, and locked them again
  pub unlocks : NlmStep with_pending nobody (nlm.Unlock (unlocking b 10))
      (nlm_replies.Unlock (result_with (7 ∷ []) status.Granted)) [] with_hi
  pub locks_again : NlmStep with_hi nobody (nlm.Lock (locking b 30 10 true))
      (nlm_replies.Lock (result_with (1 ∷ []) status.Granted)) [] with_none
  -- what another owner unlocks ends no grant of B, nor does a LOCK without its first byte
  pub of_other : NlmStep with_pending nobody (nlm.Unlock (unlocking a 10))
      (nlm_replies.Unlock (result_with (7 ∷ []) status.Granted)) [] with_pending
  pub part : NlmStep with_pending nobody (nlm.Lock (locking b 31 9 true))
      (nlm_replies.Lock (result_with (1 ∷ []) status.Granted)) [] with_pending
