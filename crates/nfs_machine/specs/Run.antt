-- Records of what was executed, and runs of the machine over them (RFC 5531, 9: calls).
use Rattle.std.specs.Prelude.{◌≡◌, ℕ, List, [], ◌∷◌, Ok}
use Rattle.nfs_rpc.specs.declared.credentials.Ids.{Ids}
use Rattle.nfs_rpc.specs.Early.{call_of}
use Rattle.nfs_rpc.specs.Messages.{CallHeader}
use Rattle.nfs_rpc.specs.declared.programs.Program.{Program}
use Rattle.nfs_rpc.specs.declared.programs.Program.TheVariants as programs
use Rattle.nfs_xdr.specs.Programs.{IsFrontedBy}
use Rattle.nfs_wire.specs.Calls.{procedure_of, SpellsArguments}
use Rattle.side_wire.specs.Mount.{mount_procedure_of, SpellsMountArguments}
use Rattle.side_wire.specs.Nlm.{nlm_procedure_of, SpellsNlmArguments}
use Rattle.side_wire.specs.declared.message.Message.{Message}
use Rattle.nfs_machine.specs.Exports.{ExportValue}
use Rattle.nfs_machine.specs.State.{State}
use Rattle.nfs_machine.specs.Step.{Step}
use Rattle.nfs_machine.specs.declared.calls.Call.{Call}
use Rattle.nfs_machine.specs.declared.calls.Call.TheVariants as calls
use Rattle.nfs_machine.specs.declared.calls.Reply.{Reply}
use Rattle.nfs_machine.specs.declared.context.Ctx.{Ctx}
use Rattle.nfs_machine.specs.declared.context.Limits.{Limits}
use Rattle.nfs_machine.specs.declared.moment.Moment.{Moment}

-- what a server was started with, beside its exports, which stand in its state and may be replaced
pub record Setting : Type 0 where
  pub start : ℕ
  pub limits : Limits

-- a record that came in: from whom, its bytes, and when
pub record Received : Type 0 where
  pub host : List ℕ
  pub bytes : List ℕ
  pub moment : Moment

-- what comes in: a record, or exports that replace those before
pub data Arrival : Type 0 where
  FromHost : (received : Received) → Arrival
  NewExports : (exports : List ExportValue) (moment : Moment) → Arrival

-- the host that it came from and its bytes; exports have neither
abbrev pub host_in : Arrival → List ℕ
host_in (FromHost received) = received.host
host_in (NewExports exports moment) = []

abbrev pub bytes_in : Arrival → List ℕ
bytes_in (FromHost received) = received.bytes
bytes_in (NewExports exports moment) = []

abbrev pub moment_in : Arrival → Moment
moment_in (FromHost received) = received.moment
moment_in (NewExports exports moment) = moment

-- nobody calls
abbrev pub no_ids : Ids
no_ids = record { uid = 0; gid = 0; gids = [] }

-- the call is of this procedure of this program, and a front of the bytes spells its arguments; what follows that is
-- ignored
abbrev pub IsCall : Program → (procedure : ℕ) → List ℕ → Call → Type 0
IsCall program procedure bytes (calls.Nfs call) = (program ≡ programs.Nfs) × (procedure_of call ≡ procedure) ×
    IsFrontedBy SpellsArguments call bytes
IsCall program procedure bytes (calls.Mount call) = (program ≡ programs.Mount) ×
    (mount_procedure_of call ≡ procedure) × IsFrontedBy SpellsMountArguments call bytes
IsCall program procedure bytes (calls.Nlm call) = (program ≡ programs.Nlm) × (nlm_procedure_of call ≡ procedure) ×
    IsFrontedBy SpellsNlmArguments call bytes
IsCall program procedure bytes (calls.Replace exports) = ⊥

-- what a call of this host is made under, with these ids and at this moment
abbrev pub context_of : Setting → (host : List ℕ) → Ids → Moment → Ctx
context_of setting host ids moment = record {
  host = host;
  ids = ids;
  moment = moment;
  start = setting.start;
  limits = setting.limits;
}

-- what a record asks: this call, under this context
pub record ReceivedAsks (setting : Setting) (received : Received) (ctx : Ctx) (call : Call) : Type 0 where
  pub header : CallHeader
  pub read : call_of received.bytes ≡ Ok header
  pub is_call : IsCall header.program header.procedure header.arguments call
  pub made_under : ctx ≡ context_of setting received.host header.ids received.moment

-- what an arrival asks
abbrev pub Asks : Setting → Arrival → Ctx → Call → Type 0
Asks setting (FromHost received) ctx call = ReceivedAsks setting received ctx call
Asks setting (NewExports exports moment) ctx call = (call ≡ calls.Replace exports) ×
    (ctx ≡ context_of setting [] no_ids moment)

-- a call that was executed, with what it was answered and the messages that it put
pub record Record : Type 0 where
  pub arrival : Arrival
  pub reply : Reply
  pub messages : List Message

-- the record is one step of the machine
pub record Executes (setting : Setting) (old : State) (r : Record) (new : State) : Type 0 where
  pub ctx : Ctx
  pub call : Call
  pub asks : Asks setting r.arrival ctx call
  pub step : Step old ctx call r.reply r.messages new

-- one record after the other, each a step from the state that the one before it left
abbrev pub Run : Setting → State → List Record → State → Type 0
Run setting old [] new = new ≡ old
Run setting old (r ∷ records) new = (mid : State) × Executes setting old r mid × Run setting mid records new
