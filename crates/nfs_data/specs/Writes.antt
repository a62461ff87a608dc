-- What a WRITE comes to (RFC 1813, 3.3.7).
use Rattle.std.specs.Prelude.{◌≡◌, ◌+◌, ◌≤◌, ◌<◌, ◌==◌, ℕ, List, Some, None}
use Rattle.std.specs.Prelude.{Result, Ok, length, take, if◌then◌else◌}
use Rattle.nfs_wire.specs.declared.calls.WriteArguments.{WriteArguments}
use Rattle.nfs_wire.specs.declared.replies.Written.{Written}
use Rattle.nfs_wire.specs.declared.status.NfsStatus.{NfsStatus}
use Rattle.nfs_machine.specs.Data.{size_limit, written}
use Rattle.nfs_machine.specs.DataSteps.{WriteEnd, verifier_of, write_count, write_end}
use Rattle.nfs_machine.specs.Shown.{with_content}
use Rattle.nfs_machine.specs.State.{Content, Regular, State}
use Rattle.nfs_machine.specs.Times.{time_of}
use Rattle.nfs_machine.specs.declared.context.Ctx.{Ctx}
use Rattle.nfs_inodes.specs.Known.{bytes_found, shell}
use Rattle.nfs_inodes.specs.declared.found.Known.{Known}

-- this is the answer and the state after it, or why nothing is written
abbrev pub IsWriteEnd : Ctx → WriteArguments → State → Result (Written × State) NfsStatus → Type 0
IsWriteEnd ctx a m end = end ≡ write_end m ctx a

-- the answer, where the checks passed
abbrev pub answer_to : Ctx → WriteArguments → Written
answer_to ctx a = record { count = write_count a; committed = a.stable; verifier = verifier_of ctx }

-- the bytes of the file after it
abbrev pub bytes_after : WriteArguments → List ℕ → List ℕ
bytes_after a old = written old a.offset (take (write_count a) a.«data»)

-- the answer and the file of this content after it, where the checks passed or one refused
abbrev pub write_found : {A : Type 0} → Ctx → WriteArguments → Known → Content → Result A NfsStatus →
    Result WriteEnd NfsStatus
write_found ctx a x content = bytes_found content (λ bytes. Ok (record {
  told = answer_to ctx a;
  after = if write_count a == 0 then None
      else Some (with_content (shell x content) (time_of ctx.moment) (Regular (bytes_after a bytes)));
}))

-- the bytes are there, and where there are any they end within the largest file
pub record HasRoom (a : WriteArguments) : Type 0 where
  pub there : write_count a ≤ length a.«data»
  pub below : 0 < write_count a → a.offset + write_count a ≤ size_limit
