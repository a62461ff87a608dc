-- What a record is before its arguments are read: no call that can be answered, a call at fault, or a call.
use Rattle.std.specs.Prelude.{ℕ, Bool, true, false, ◌==◌, if◌then◌else◌, List, [], Option, Some, None}
use Rattle.std.specs.Prelude.{Result, Ok, Err}
use Rattle.nfs_xdr.specs.declared.XdrError.{XdrError}
use Rattle.nfs_xdr.specs.Types.{Value}
use Rattle.nfs_xdr.specs.Reading.{read}
use Rattle.nfs_rpc.specs.declared.credentials.Ids.{Ids}
use Rattle.nfs_rpc.specs.declared.faults.Fault.TheVariants.{RpcMismatch, BadCredential, ProgramUnavailable}
use Rattle.nfs_rpc.specs.declared.faults.Fault.TheVariants.{ProgramMismatch, ProcedureUnavailable}
use Rattle.nfs_rpc.specs.declared.faults.Early.{Early}
use Rattle.nfs_rpc.specs.declared.faults.Early.TheVariants.{Drop, Answer}
use Rattle.nfs_rpc.specs.Programs.{program_of, program_version, is_built}
use Rattle.nfs_rpc.specs.Messages.{AuthSys, Opening, Heading, CallHeader}

infixl 10 ◌>>=◌
abbrev pub ◌>>=◌ : {A B : Type 0} → Result A Early → (A → Result B Early) → Result B Early
(Ok x) >>= f = f x
(Err e) >>= f = Err e

-- what was found, or else the end that is named
abbrev pub readable : {A : Type 0} → Result A XdrError → Early → Result A Early
readable (Ok x) early = Ok x
readable (Err e) early = Err early

abbrev pub known : {A : Type 0} → Option A → Early → Result A Early
known (Some x) early = Ok x
known None early = Err early

abbrev pub holding : Bool → Early → Result (Unit {0}) Early
holding true early = Ok tt
holding false early = Err early

-- who an AUTH_SYS body names, where it can be read; bytes behind it are not looked at
abbrev pub sys_ids : Result (Value AuthSys × List ℕ) XdrError → Option Ids
sys_ids (Ok ((stamp, (machine, (uid, (gid, gids)))), rest)) = Some (record { uid = uid; gid = gid; gids = gids })
sys_ids (Err e) = None

-- who calls, by the credential's flavor and body: AUTH_NONE is nobody and its body is not looked at, AUTH_SYS names
-- the caller, other flavors name none
abbrev pub ids_of : ℕ → List ℕ → Option Ids
ids_of flavor body =
    if flavor == 0 then Some (record { uid = 65534; gid = 65534; gids = [] })
    else (if flavor == 1 then sys_ids (read AuthSys body) else None)

-- The checks of a call in order. Each names how the record ends where it fails.
-- What the heading names: first who calls, then the program, its version, its procedure
abbrev pub heading_of : (xid number version procedure flavor : ℕ) → (body arguments : List ℕ) →
    Result CallHeader Early
heading_of xid number version procedure flavor body arguments = do
  ids ← known (ids_of flavor body) (Answer xid BadCredential)
  program ← known (program_of number) (Answer xid ProgramUnavailable)
  _ ← holding (version == program_version program)
      (Answer xid (ProgramMismatch (program_version program) (program_version program)))
  _ ← holding (is_built program procedure) (Answer xid ProcedureUnavailable)
  Ok (record { xid = xid; program = program; procedure = procedure; ids = ids; arguments = arguments })

-- a heading that was read, by its fields, with the arguments behind it; the verifier is not looked at
abbrev pub heading_in : (xid : ℕ) → Value Heading × List ℕ → Result CallHeader Early
heading_in xid ((number, (version, (procedure, ((flavor, body), verifier)))), arguments) =
    heading_of xid number version procedure flavor body arguments

-- what follows the first three words: a message type 0 is a call, and RPC's version is 2
abbrev pub message_of : (xid type version : ℕ) → List ℕ → Result CallHeader Early
message_of xid type version bytes = do
  _ ← holding (type == 0) Drop
  _ ← holding (version == 2) (Answer xid RpcMismatch)
  heading ← readable (read Heading bytes) Drop
  heading_in xid heading

-- the first three words of a record, with what follows
abbrev pub opening_in : Value Opening × List ℕ → Result CallHeader Early
opening_in ((xid, (type, version)), bytes) = message_of xid type version bytes

-- the call that a record is
unfoldable pub call_of : List ℕ → Result CallHeader Early
call_of bytes = do
  opening ← readable (read Opening bytes) Drop
  opening_in opening
