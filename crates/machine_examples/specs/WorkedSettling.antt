-- Requests that wait, worked through by hand (RFC 1813, appendix II, 6.2: procedures 2, 4 and 5).
use Rattle.std.specs.Prelude.{ℕ, true, false, List, [], ◌∷◌, codes, pos}
use Rattle.std.specs.FinMap.{empty, insert}
use Rattle.side_wire.specs.declared.nlm.NlmCall.TheVariants as nlm
use Rattle.side_wire.specs.declared.nlm.NlmReply.TheVariants as nlm_replies
use Rattle.side_wire.specs.declared.nlm.NlmResult.{NlmResult}
use Rattle.side_wire.specs.declared.nlm.NlmStatus.{NlmStatus}
use Rattle.side_wire.specs.declared.nlm.NlmStatus.TheVariants as nlm_status
use Rattle.side_wire.specs.declared.nlm.ShareAccess.TheVariants as access
use Rattle.side_wire.specs.declared.nlm.ShareMode.TheVariants as mode
use Rattle.nfs_machine.specs.FileLists.{with_list}
use Rattle.nfs_machine.specs.Grants.{ChangesLocks, grant_cookie, grant_message}
use Rattle.nfs_machine.specs.LockSteps.{Frees}
use Rattle.nfs_machine.specs.NlmSteps.{NlmStep}
use Rattle.nfs_machine.specs.State.{Lock, Owner, PendingGrant, Request, State}
use Rattle.machine_examples.specs.WorkedRun.{nobody}
use Rattle.machine_examples.specs.WorkedLocks.{a, asked, b, lock, range_at, reading, share, Unlocked}

abbrev pub c : Owner
c = record { caller_name = codes "c3"; owner = 3 ∷ []; process = pos 3 }

-- a shared lock of the first 20 bytes that waits under a number
abbrev pub waiting : Owner → ℕ → Request
waiting o number = record
    { number = number; host = o.caller_name; exclusive = false; asked = asked o 0 20; by_message = false }

-- where it is granted, and is not answered
abbrev pub pending : Request → PendingGrant
pending request = record { file = 5; request = request }

abbrev pub two_held : List Lock
two_held = lock a 0 9 true ∷ lock c 10 19 true ∷ []

abbrev pub both_shared : List Lock
both_shared = lock a 0 19 false ∷ lock b 0 19 false ∷ []

-- A has 0 to 9 and C 10 to 19, exclusively. B and then A wait for a shared lock of both. When C gives its lock back,
-- A is granted first, since A's own lock is in B's way, and then B.
abbrev pub WorkedSettling : Type 0
WorkedSettling = (m : State)
    → ChangesLocks (record m {
      locks = with_list m.locks 5 two_held;
      waiting = with_list m.waiting 5 (waiting b 5 ∷ waiting a 69 ∷ []);
    })
    5 (range_at c 10 10) Unlocked
    (grant_message (waiting a 69) ∷ grant_message (waiting b 5) ∷ [])
    (record m {
      locks = with_list m.locks 5 both_shared;
      waiting = with_list m.waiting 5 [];
      granted = insert (insert m.granted 69 (pending (waiting a 69))) 5 (pending (waiting b 5));
    })

-- C has the first 20 bytes, and A and B wait for them: both to share them, or each alone
abbrev pub alone : Owner → ℕ → Request
alone o number = record (waiting o number) { exclusive = true }

-- of all files the fifth alone has something
abbrev pub held_by_c : State → Request → Request → State
held_by_c m first second = record m {
  locks = with_list empty 5 (lock c 0 19 true ∷ []);
  shares = empty;
  waiting = with_list empty 5 (first ∷ second ∷ []);
  granted = empty;
}

-- A has them alone, and B waits
abbrev pub held_by_a : State → State
held_by_a m = record m {
  locks = with_list empty 5 (lock a 0 19 true ∷ []);
  shares = empty;
  waiting = with_list empty 5 (alone b 69 ∷ []);
  granted = insert empty 5 (pending (alone a 5));
}

abbrev pub held_by_b : State → State
held_by_b m = record m {
  locks = with_list empty 5 (lock b 0 19 true ∷ []);
  shares = empty;
  waiting = empty;
  granted = insert empty 69 (pending (alone b 69));
}

-- C has them with a share of the file and a grant that is not answered, another process of its caller waits, and A
-- has a share and such a grant
abbrev pub held_by_freed : State → State
held_by_freed m = record m {
  locks = with_list empty 5 (lock c 0 19 true ∷ []);
  shares = with_list empty 5 (share c mode.DenyNone access.Read ∷ reading ∷ []);
  waiting = with_list empty 5 (alone (record c { process = pos 4 }) 70 ∷ []);
  granted = insert (insert empty 9 (pending (alone a 9))) 6 (pending (alone c 6));
}

-- A's host answers its grant
abbrev pub answer : NlmStatus → NlmResult
answer s = record { cookie = grant_cookie 5; status = s }

pub record WorkedFreed : Type 0 where
  -- FREE_ALL of C's caller: both share, in order of asking; or A alone has them
  pub shared : (m : State) →
      Frees (held_by_c m (waiting a 5) (waiting b 69)) (codes "c3")
      (grant_message (waiting a 5) ∷ grant_message (waiting b 69) ∷ [])
      (record m {
        locks = with_list empty 5 both_shared;
        shares = empty;
        waiting = empty;
        granted = insert (insert empty 5 (pending (waiting a 5))) 69 (pending (waiting b 69));
      })
  pub first_alone : (m : State) →
      Frees (held_by_c m (alone a 5) (alone b 69)) (codes "c3") (grant_message (alone a 5) ∷ []) (held_by_a m)
  -- all that it has goes: its share, its pending grant, and what its other process waits for; A's stay
  pub all_of_it : (m : State) →
      Frees (held_by_freed m) (codes "c3") []
      (record m {
        locks = empty;
        shares = with_list empty 5 (reading ∷ []);
        waiting = empty;
        granted = insert empty 9 (pending (alone a 9));
      })
  -- A's host does not take it, so B has them; a second answer changes nothing
  pub refused : (m : State) →
      NlmStep (held_by_a m) (record nobody { host = codes "c1" })
      (nlm.GrantedRes (answer nlm_status.Denied)) nlm_replies.GrantedRes (grant_message (alone b 69) ∷ [])
      (held_by_b m)
  pub again : (m : State) →
      NlmStep (held_by_b m) (record nobody { host = codes "c1" })
      (nlm.GrantedRes (answer nlm_status.Denied)) nlm_replies.GrantedRes [] (held_by_b m)
  pub taken : (m : State) →
      NlmStep (held_by_a m) (record nobody { host = codes "c1" })
      (nlm.GrantedRes (answer nlm_status.Granted)) nlm_replies.GrantedRes [] (record (held_by_a m) { granted = empty })
  -- another host's answer is of no grant
  pub of_other : (m : State) →
      NlmStep (held_by_a m) (record nobody { host = codes "c2" })
      (nlm.GrantedRes (answer nlm_status.Denied)) nlm_replies.GrantedRes [] (held_by_a m)
