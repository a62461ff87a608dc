-- The answer of a fault, as bytes.
use Rattle.std.proofs.Common.{◌≡◌, ℕ, List, Option, Some, None, unwrap_or, refl, ap}
use Rattle.std.specs.declared.alloc.Global.{Global}
use Rattle.std.specs.declared.vec.Vec.{Vec}
use Rattle.nfs_machine.specs.RpcReplies.{failure_message, fault_message}
use Rattle.nfs_rpc.specs.declared.faults.Early.{Early}
use Rattle.nfs_rpc.specs.declared.faults.Early.TheVariants.{Answer, Drop}
use Rattle.nfs_engine.specs.Answers.{answer_bytes, answer_of, fault_answer}

-- the bytes are those of the fault
pub fault_bytes : (answer : Option (Vec ℕ Global)) (fault : Early) → answer_of answer ≡ fault_answer fault →
    answer_bytes answer ≡ fault_message fault
fault_bytes None Drop is = refl
fault_bytes None (Answer xid fault) is = cc
fault_bytes (Some bytes) Drop is = cc
fault_bytes (Some bytes) (Answer xid fault) is =
    ap (λ (o : Option (List ℕ)). unwrap_or o (failure_message xid fault)) is
