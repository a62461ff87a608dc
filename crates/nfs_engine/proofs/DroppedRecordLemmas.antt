-- A record that is dropped asks nothing, and has no other fault.
use Rattle.std.proofs.Common.{◌≡◌, ◌≢◌, ℕ, List, Result, Ok, Err, inl, inr, sym, ◌∙◌}
use Rattle.nfs_rpc.specs.Early.{call_of}
use Rattle.nfs_rpc.specs.Messages.{CallHeader}
use Rattle.nfs_rpc.specs.declared.faults.Early.{Early}
use Rattle.nfs_rpc.specs.declared.faults.Early.TheVariants.{Drop}
use Rattle.nfs_machine.specs.RpcReplies.{FirstFault}
use Rattle.nfs_engine.specs.Arrivals.{IsDropped}
use Rattle.nfs_engine.specs.Asked.{ReadsRecord}
use Rattle.nfs_engine.specs.declared.asking.Unasked.TheVariants as unasked

dropped_reads : (bytes : List ℕ) → IsDropped bytes → call_of bytes ≡ Err Drop
dropped_reads bytes (inl read) = read
dropped_reads bytes (inr garbage) = absurd (let no = garbage.3 in cc)

no_header : (header : CallHeader) (bytes : List ℕ) → call_of bytes ≡ Ok header → IsDropped bytes → ⊥
no_header header bytes read dropped = (let no : Ok header ≡ Err Drop = sym read ∙ dropped_reads bytes dropped in cc)

same_fault : (x : Result CallHeader Early) (e f : Early) → x ≡ Err e → x ≡ Err f → e ≡ f
same_fault x e f first second = cc

pub other_fault : (bytes : List ℕ) (fault : Early) → FirstFault bytes fault → fault ≢ Drop → IsDropped bytes → ⊥
other_fault bytes fault (inl read) other dropped =
    other (same_fault (call_of bytes) fault Drop read (dropped_reads bytes dropped))
other_fault bytes fault (inr garbage) other dropped = no_header garbage.0 bytes garbage.1 dropped

pub no_memory : (bytes : List ℕ) → ReadsRecord bytes (Err unasked.Memory) → IsDropped bytes → ⊥
no_memory bytes reads dropped = no_header reads.0 bytes reads.1 dropped
