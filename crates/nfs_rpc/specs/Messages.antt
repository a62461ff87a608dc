-- Calls and replies (RFC 5531, section 9).
use Rattle.std.specs.Prelude.{ℕ, List, [], ◌∷◌}
use Rattle.std.specs.Int.{w32, to_be_bytes}
use Rattle.std.specs.List.{flat_map}
use Rattle.nfs_xdr.specs.Types.{Xdr, Word, Opaque, Pair, Array}
use Rattle.nfs_rpc.specs.declared.programs.Program.{Program}
use Rattle.nfs_rpc.specs.declared.credentials.Ids.{Ids}
use Rattle.nfs_rpc.specs.declared.credentials.TheConstants.{GIDS_LIMIT}
use Rattle.nfs_rpc.specs.declared.faults.Fault.{Fault}
use Rattle.nfs_rpc.specs.declared.faults.Fault.TheVariants.{RpcMismatch, BadCredential, ProgramUnavailable}
use Rattle.nfs_rpc.specs.declared.faults.Fault.TheVariants.{ProgramMismatch, ProcedureUnavailable, GarbageArguments}
use Rattle.nfs_rpc.specs.declared.faults.Fault.TheVariants.{SystemError}
use Rattle.nfs_rpc.specs.declared.faults.ReplyHead.{ReplyHead}
use Rattle.nfs_rpc.specs.declared.faults.ReplyHead.TheVariants.{Success, Failure}

-- opaque_auth: a flavor, and a body of at most 400 bytes (section 8.2)
abbrev pub Auth : Xdr
Auth = Pair Word (Opaque 400)

-- authsys_parms, the body of a credential of flavor 1: stamp, machine name, uid, gid, further gids (appendix A)
abbrev pub AuthSys : Xdr
AuthSys = Pair Word (Pair (Opaque 255) (Pair Word (Pair Word (Array GIDS_LIMIT Word))))

-- what each call begins with: xid, message type, RPC version
abbrev pub Opening : Xdr
Opening = Pair Word (Pair Word Word)

-- what follows up to the arguments: program, its version, procedure, credential, verifier
abbrev pub Heading : Xdr
Heading = Pair Word (Pair Word (Pair Word (Pair Auth Auth)))

-- a call as its header tells it, and the bytes of its arguments
pub record CallHeader : Type 0 where
  pub xid : ℕ
  pub program : Program
  pub procedure : ℕ
  pub ids : Ids
  pub arguments : List ℕ

-- a reply's words behind its xid and message type, where the call is not carried out: MSG_ACCEPTED, a verifier of
-- flavor 0 and no bytes, and why; or MSG_DENIED and why
abbrev pub fault_body : Fault → List ℕ
fault_body ProgramUnavailable = 0 ∷ 0 ∷ 0 ∷ 1 ∷ []
fault_body (ProgramMismatch low high) = 0 ∷ 0 ∷ 0 ∷ 2 ∷ low ∷ high ∷ []
fault_body ProcedureUnavailable = 0 ∷ 0 ∷ 0 ∷ 3 ∷ []
fault_body GarbageArguments = 0 ∷ 0 ∷ 0 ∷ 4 ∷ []
fault_body SystemError = 0 ∷ 0 ∷ 0 ∷ 5 ∷ []
fault_body RpcMismatch = 1 ∷ 0 ∷ 2 ∷ 2 ∷ []
fault_body BadCredential = 1 ∷ 1 ∷ 1 ∷ []

-- the same of any reply
abbrev pub reply_body : ReplyHead → List ℕ
reply_body Success = 0 ∷ 0 ∷ 0 ∷ 0 ∷ []
reply_body (Failure fault) = fault_body fault

-- words, one after another
abbrev pub words : List ℕ → List ℕ
words numbers = flat_map (to_be_bytes w32) numbers

-- a reply: xid, message type 1, body
abbrev pub reply_of : ℕ → ReplyHead → List ℕ
reply_of xid answer = words (xid ∷ 1 ∷ reply_body answer)
