-- Arguments that spell no call of the procedure are a record's first fault.
use Rattle.std.proofs.Common.{◌≡◌, ℕ, List, Ok, inr, refl}
use Rattle.nfs_rpc.specs.Early.{call_of}
use Rattle.nfs_rpc.specs.Messages.{CallHeader}
use Rattle.nfs_rpc.specs.declared.faults.Early.TheVariants as early
use Rattle.nfs_rpc.specs.declared.faults.Fault.TheVariants as faults
use Rattle.nfs_machine.specs.declared.calls.Call.{Call}
use Rattle.nfs_machine.specs.Run.{IsCall}
use Rattle.nfs_machine.specs.RpcReplies.{FirstFault}

pub garbage_early : (bytes : List ℕ) (header : CallHeader) → call_of bytes ≡ Ok header
    → ((call : Call) → IsCall header.program header.procedure header.arguments call → ⊥)
    → FirstFault bytes (early.Answer header.xid faults.GarbageArguments)
garbage_early bytes header read none =
    inr (header, read, none, refl)
