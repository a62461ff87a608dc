-- The calls of NLM whose results are messages, and those that this server never wants, worked through by hand
-- (RFC 1813, appendix II, 6.2: procedures 5 to 14).
use Rattle.std.specs.Prelude.{true, [], ◌∷◌, codes}
use Rattle.std.specs.FinMap.{empty, insert}
use Rattle.side_wire.specs.declared.message.Callback.{Callback}
use Rattle.side_wire.specs.declared.message.Callback.TheVariants as callbacks
use Rattle.side_wire.specs.declared.message.Message.{Message}
use Rattle.side_wire.specs.declared.nlm.NlmCall.TheVariants as nlm
use Rattle.side_wire.specs.declared.nlm.NlmReply.TheVariants as nlm_replies
use Rattle.side_wire.specs.declared.nlm.NlmStatus.TheVariants as status
use Rattle.side_wire.specs.declared.nlm.TestResult.{TestResult}
use Rattle.side_wire.specs.declared.nlm.TestStatus.TheVariants as tested
use Rattle.side_wire.specs.declared.nlm.UnlockArguments.{UnlockArguments}
use Rattle.nfs_machine.specs.FileLists.{with_list}
use Rattle.nfs_machine.specs.Grants.{grant_message}
use Rattle.nfs_machine.specs.NlmSteps.{NlmStep, result_with}
use Rattle.nfs_machine.specs.State.{State}
use Rattle.machine_examples.specs.WorkedLocking.{cancelling, giving_back, on_x, testing, waiting, with_split}
use Rattle.machine_examples.specs.WorkedLocking.{with_waiting, with_whole}
use Rattle.machine_examples.specs.WorkedLocks.{a, b, holder, lock}
use Rattle.machine_examples.specs.WorkedRun.{nobody}

-- the caller's host gets this
abbrev pub to_caller : Callback → Message
to_caller call = record { host = codes "10.0.0.1"; call = call }

-- A's lock stands in B's way
abbrev pub held_by_a : TestResult
held_by_a = record { cookie = 4 ∷ []; status = tested.Denied (holder 0 40) }

-- A gives all of its range back, for a part of which B waits
abbrev pub giving_all : UnlockArguments
giving_all = record { cookie = 6 ∷ []; lock = on_x a 0 100 }

abbrev pub with_granted : State
with_granted = record with_waiting {
  locks = with_list empty 5 (lock b 30 30 true ∷ []);
  waiting = empty;
  granted = insert empty 5 (record { file = 5; request = waiting });
}

pub record WorkedPosting : Type 0 where
  -- the reply of a MSG call is void, and its result goes to the caller's host
  pub tests : NlmStep with_split nobody (nlm.TestMsg testing) nlm_replies.TestMsg
      (to_caller (callbacks.TestRes held_by_a) ∷ []) with_split
  pub cancels : NlmStep with_waiting nobody (nlm.CancelMsg cancelling) nlm_replies.CancelMsg
      (to_caller (callbacks.CancelRes (result_with (3 ∷ []) status.Granted)) ∷ [])
      (record with_waiting { waiting = empty })
  pub unlocks : NlmStep with_whole nobody (nlm.UnlockMsg giving_back) nlm_replies.UnlockMsg
      (to_caller (callbacks.UnlockRes (result_with (2 ∷ []) status.Granted)) ∷ []) with_split
  -- behind GRANTED to the host whose request is held now
  pub unlocks_all : NlmStep with_waiting nobody (nlm.UnlockMsg giving_all) nlm_replies.UnlockMsg
      (grant_message waiting ∷ to_caller (callbacks.UnlockRes (result_with (6 ∷ []) status.Granted)) ∷ [])
      with_granted
  -- this server waits for no lock, so it takes none
  pub granted : NlmStep with_split nobody (nlm.Granted testing)
      (nlm_replies.Granted (result_with (4 ∷ []) status.Denied)) [] with_split
  pub granted_by_message : NlmStep with_split nobody (nlm.GrantedMsg testing) nlm_replies.GrantedMsg
      (to_caller (callbacks.GrantedRes (result_with (4 ∷ []) status.Denied)) ∷ []) with_split
  -- and it has asked nothing else
  pub test_result : NlmStep with_split nobody (nlm.TestRes held_by_a) nlm_replies.TestRes [] with_split
  pub lock_result : NlmStep with_split nobody (nlm.LockRes (result_with (1 ∷ []) status.Granted)) nlm_replies.LockRes
      [] with_split
