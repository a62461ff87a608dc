-- What the readers of a call's header answer.
use Rattle.std.specs.Prelude.{◌≡◌, ℕ, List, Result, Ok, Err}
use Rattle.nfs_rpc.specs.declared.calls.RpcCall.{RpcCall}
use Rattle.nfs_rpc.specs.declared.programs.Program.{Program}
use Rattle.nfs_rpc.specs.declared.credentials.Ids.{Ids}
use Rattle.nfs_rpc.specs.declared.faults.Fault.{Fault}
use Rattle.nfs_rpc.specs.declared.faults.Early.{Early}
use Rattle.nfs_rpc.specs.declared.faults.Early.TheVariants.{Answer}
use Rattle.nfs_rpc.specs.Messages.{CallHeader}
use Rattle.nfs_rpc.specs.Early.{call_of, heading_of}

-- a call as its header tells it
abbrev pub header_of : RpcCall → CallHeader
header_of c = record { xid = c.xid; program = c.program; procedure = c.procedure; ids = c.ids; arguments = c.arguments }

-- a call is the one that the record is, or the record ends early in this way
abbrev pub IsCallOf : List ℕ → Result RpcCall Early → Type 0
IsCallOf bytes (Ok call) = call_of bytes ≡ Ok (header_of call)
IsCallOf bytes (Err early) = call_of bytes ≡ Err early

-- what a heading names, whatever the xid and the arguments
abbrev pub NamesCall : (number version procedure flavor : ℕ) → List ℕ → Result (Ids × Program) Fault → Type 0
NamesCall number version procedure flavor body (Ok found) = (xid : ℕ) (arguments : List ℕ)
    → heading_of xid number version procedure flavor body arguments
    ≡ Ok (record { xid = xid; program = found.1; procedure = procedure; ids = found.0; arguments = arguments })
NamesCall number version procedure flavor body (Err fault) = (xid : ℕ) (arguments : List ℕ)
    → heading_of xid number version procedure flavor body arguments ≡ Err (Answer xid fault)
