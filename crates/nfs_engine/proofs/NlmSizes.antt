-- How many bytes results of NLM have at most: the parts of a result add theirs one after the other.
use Rattle.std.proofs.Common.{ℕ, ℤ, ◌≤◌, nat_le, List, [], length, length-append, arith}
use Rattle.nfs_xdr.specs.Types.{Flag, Hyper, Int as IntType, Pair, Word}
use Rattle.nfs_xdr.specs.Writing.{appended, with_arm, with_word, write}
use Rattle.nfs_wire.proofs.ResultSizes.{Adds, adds-enum, adds-flag, adds-hyper, adds-opaque, adds-pair, adds-word}
use Rattle.side_wire.specs.Nlm.{HasNlmForm, HasTestStatusForm, IsNetobj, nlm_result_bytes}
use Rattle.side_wire.specs.NlmTypes.{holder_value, netobj, nlm4_holder, nlm4_res, nlm4_shareres, nlm4_stats}
use Rattle.side_wire.specs.NlmTypes.{nlm4_testrply, nlm_status_number, result_value, share_result_value}
use Rattle.side_wire.specs.NlmTypes.{test_status_value}
use Rattle.side_wire.specs.declared.nlm.LockHolder.{LockHolder}
use Rattle.side_wire.specs.declared.nlm.NlmReply.{NlmReply}
use Rattle.side_wire.specs.declared.nlm.NlmReply.TheVariants as reply
use Rattle.side_wire.specs.declared.nlm.NlmResult.{NlmResult}
use Rattle.side_wire.specs.declared.nlm.TestStatus.{TestStatus}
use Rattle.side_wire.specs.declared.nlm.TestStatus.TheVariants as tested

adds-netobj : (bytes : List ℕ) → IsNetobj bytes → Adds netobj bytes 1031
adds-netobj bytes small = adds-opaque 1024 bytes 1024 small

adds-int : (z : ℤ) → Adds IntType z 4
unfolding appended with_word
adds-int z old = simp length-append (omega arith)

adds-holder : (h : LockHolder) → IsNetobj h.owner → Adds nlm4_holder (holder_value h) 1055
adds-holder h small =
    adds-pair Flag (Pair IntType (Pair netobj (Pair Hyper Hyper))) h.exclusive
    (h.process, (h.owner, (h.offset, h.length))) 4 1051 (adds-flag h.exclusive)
    (adds-pair IntType (Pair netobj (Pair Hyper Hyper)) h.process (h.owner, (h.offset, h.length)) 4 1047
    (adds-int h.process)
    (adds-pair netobj (Pair Hyper Hyper) h.owner (h.offset, h.length) 1031 16 (adds-netobj h.owner small)
    (adds-pair Hyper Hyper h.offset h.length 8 8 (adds-hyper h.offset) (adds-hyper h.length))))

-- a status with its arm
adds-status : (s : TestStatus) → HasTestStatusForm s → Adds nlm4_testrply (test_status_value s) 1059
unfolding appended with_arm
adds-status (tested.Denied holder) form old =
    omega (arith, adds-holder holder form (appended Word 1 old), adds-word 1 old)
adds-status tested.Granted form old = omega (arith, adds-word 0 old)
adds-status tested.DeniedNoLocks form old = omega (arith, adds-word 2 old)
adds-status tested.Blocked form old = omega (arith, adds-word 3 old)
adds-status tested.DeniedGracePeriod form old = omega (arith, adds-word 4 old)
adds-status tested.Deadlock form old = omega (arith, adds-word 5 old)
adds-status tested.ReadOnly form old = omega (arith, adds-word 6 old)
adds-status tested.StaleHandle form old = omega (arith, adds-word 7 old)
adds-status tested.FileTooBig form old = omega (arith, adds-word 8 old)
adds-status tested.Failed form old = omega (arith, adds-word 9 old)

plain-size : (r : NlmResult) → IsNetobj r.cookie → length (write nlm4_res (result_value r)) ≤ 70000
plain-size r small =
    let all = adds-pair netobj nlm4_stats r.cookie (nlm_status_number r.status) 1031 4 (adds-netobj r.cookie small)
    (adds-enum (λ n. nat_le n 9) (nlm_status_number r.status)) [] in omega (arith, all)

share-size : (r : NlmResult) → IsNetobj r.cookie → length (write nlm4_shareres (share_result_value r)) ≤ 70000
share-size r small =
    let rest = (share_result_value r).1 in
    let all = adds-pair netobj (Pair nlm4_stats IntType) r.cookie rest 1031 8 (adds-netobj r.cookie small)
    (adds-pair nlm4_stats IntType rest.0 rest.1 4 4 (adds-enum (λ n. nat_le n 9) rest.0) (adds-int rest.1)) [] in
    omega (arith, all)

pub nlm-size : (r : NlmReply) → HasNlmForm r → length (nlm_result_bytes r) ≤ 70000
unfolding appended
nlm-size (reply.Test r) form =
    let all = adds-pair netobj nlm4_testrply r.cookie (test_status_value r.status) 1031 1059
    (adds-netobj r.cookie form.0) (adds-status r.status form.1) [] in omega (arith, all)
nlm-size (reply.Lock r) form = plain-size r form
nlm-size (reply.Cancel r) form = plain-size r form
nlm-size (reply.Unlock r) form = plain-size r form
nlm-size (reply.Granted r) form = plain-size r form
nlm-size (reply.NmLock r) form = plain-size r form
nlm-size (reply.Share r) form = share-size r form
nlm-size (reply.Unshare r) form = share-size r form
nlm-size reply.Null form = omega arith
nlm-size reply.TestMsg form = omega arith
nlm-size reply.LockMsg form = omega arith
nlm-size reply.CancelMsg form = omega arith
nlm-size reply.UnlockMsg form = omega arith
nlm-size reply.GrantedMsg form = omega arith
nlm-size reply.TestRes form = omega arith
nlm-size reply.LockRes form = omega arith
nlm-size reply.CancelRes form = omega arith
nlm-size reply.UnlockRes form = omega arith
nlm-size reply.GrantedRes form = omega arith
nlm-size reply.FreeAll form = omega arith
