-- What a record asks, as it is read, and what exports ask that replace those before.
use Rattle.std.specs.Prelude.{◌≡◌, ℕ, List, Result, Ok, Err}
use Rattle.nfs_xdr.specs.Programs.{CallHoldsBytes}
use Rattle.nfs_xdr.specs.declared.arguments.ArgumentsError.{ArgumentsError}
use Rattle.nfs_xdr.specs.declared.arguments.ArgumentsError.TheVariants as unread
use Rattle.nfs_wire.specs.Calls as nfs
use Rattle.side_wire.specs.Mount.{mount_arguments}
use Rattle.side_wire.specs.Nlm.{nlm_arguments}
use Rattle.nfs_rpc.specs.Early.{call_of}
use Rattle.nfs_rpc.specs.Messages.{CallHeader}
use Rattle.nfs_rpc.specs.declared.programs.Program.{Program}
use Rattle.nfs_rpc.specs.declared.programs.Program.TheVariants.{Nfs, Mount, Nlm}
use Rattle.nfs_machine.specs.Run.{Arrival, FromHost, NewExports, IsCall, no_ids}
use Rattle.nfs_machine.specs.declared.calls.Call.{Call}
use Rattle.nfs_machine.specs.declared.calls.Call.TheVariants as calls
use Rattle.nfs_machine.specs.RpcReplies.{FirstFault}
use Rattle.nfs_engine.specs.declared.asking.Asked.{Asked}
use Rattle.nfs_engine.specs.declared.asking.Unasked.{Unasked}
use Rattle.nfs_engine.specs.declared.asking.Unasked.TheVariants as unasked

-- a front of the bytes spells arguments of the procedure that hold bytes
abbrev pub ArgumentsHoldBytes : Program → ℕ → List ℕ → Type 0
ArgumentsHoldBytes Nfs procedure bytes = nfs.CallHoldsBytes procedure bytes
ArgumentsHoldBytes Mount procedure bytes = CallHoldsBytes mount_arguments procedure bytes
ArgumentsHoldBytes Nlm procedure bytes = CallHoldsBytes nlm_arguments procedure bytes

-- garbage is what spells no call of the procedure; there is no memory only for one that is spelled and holds bytes
abbrev pub ReadsArguments : Program → ℕ → List ℕ → Result Call ArgumentsError → Type 0
ReadsArguments program procedure bytes (Ok call) = IsCall program procedure bytes call
ReadsArguments program procedure bytes (Err unread.Garbage) = (call : Call) → IsCall program procedure bytes call →
    ⊥
ReadsArguments program procedure bytes (Err unread.Memory) = ArgumentsHoldBytes program procedure bytes

-- the record is a call with this header
pub record IsAsked (bytes : List ℕ) (asked : Asked) : Type 0 where
  pub header : CallHeader
  pub read : call_of bytes ≡ Ok header
  pub is_call : IsCall header.program header.procedure header.arguments asked.call
  pub xid : header.xid ≡ asked.xid
  pub ids : header.ids ≡ asked.ids

-- what came in asks this call; exports ask that they replace those before, and nobody calls
abbrev pub IsAskedBy : Arrival → Asked → Type 0
IsAskedBy (FromHost received) asked = IsAsked received.bytes asked
IsAskedBy (NewExports exports moment) asked =
    asked ≡ record { xid = 0; ids = no_ids; call = calls.Replace exports }

-- a record asks a call, or has a fault, or there is no memory for the arguments of the call that it is
abbrev pub ReadsRecord : List ℕ → Result Asked Unasked → Type 0
ReadsRecord bytes (Ok asked) = IsAsked bytes asked
ReadsRecord bytes (Err (unasked.Early fault)) = FirstFault bytes fault
ReadsRecord bytes (Err unasked.Memory) =
    (header : CallHeader) × (call_of bytes ≡ Ok header) ×
    ArgumentsHoldBytes header.program header.procedure header.arguments
