-- The bytes of answers.
use Rattle.std.specs.Prelude.{ℕ, List, [], Option, Some, None, option_map}
use Rattle.std.specs.declared.alloc.Global.{Global}
use Rattle.std.specs.declared.vec.Vec.{Vec}
use Rattle.nfs_rpc.specs.declared.faults.Early.{Early}
use Rattle.nfs_rpc.specs.declared.faults.Early.TheVariants.{Answer, Drop}
use Rattle.nfs_machine.specs.RpcReplies.{failure_message}

-- the bytes of an answer; nothing for what is dropped
abbrev pub answer_bytes : Option (Vec ℕ Global) → List ℕ
answer_bytes None = []
answer_bytes (Some bytes) = bytes.items

-- the same, where there is an answer
abbrev pub answer_of : Option (Vec ℕ Global) → Option (List ℕ)
answer_of answer = option_map (λ (bytes : Vec ℕ Global). bytes.items) answer

-- the bytes that a record with a fault is answered by; none where it is dropped
abbrev pub fault_answer : Early → Option (List ℕ)
fault_answer Drop = None
fault_answer (Answer xid fault) = Some (failure_message xid fault)
