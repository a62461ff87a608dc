-- The steps of READLINK, READ, WRITE and COMMIT (RFC 1813, 3.3.5 to 3.3.7 and 3.3.21).
use Rattle.std.specs.Prelude.{ℕ, ◌+◌, List, Option, Some, None, Result, Ok, length, take, min, nat_le, ◌||◌}
use Rattle.std.specs.Prelude.{◌==◌, if◌then◌else◌}
use Rattle.std.specs.Int.{w64, to_be_bytes}
use Rattle.nfs_wire.specs.declared.calls.CommitArguments.{CommitArguments}
use Rattle.nfs_wire.specs.declared.calls.ReadArguments.{ReadArguments}
use Rattle.nfs_wire.specs.declared.calls.Verifier.{Verifier}
use Rattle.nfs_wire.specs.declared.calls.WriteArguments.{WriteArguments}
use Rattle.nfs_wire.specs.declared.replies.NfsReply.{NfsReply}
use Rattle.nfs_wire.specs.declared.replies.NfsReply.TheVariants as replies
use Rattle.nfs_wire.specs.declared.replies.ReadData.{ReadData}
use Rattle.nfs_wire.specs.declared.replies.Written.{Written}
use Rattle.nfs_wire.specs.declared.status.NfsStatus.{NfsStatus}
use Rattle.nfs_wire.specs.declared.status.NfsStatus.TheVariants as status
use Rattle.side_wire.specs.declared.message.Message.{Message}
use Rattle.nfs_machine.specs.Answers.{Answers, Ends, TellsOfObject}
use Rattle.nfs_machine.specs.Checks.{◌>>=◌, holding, object_of, bytes_in, text_in, changeable, permitted}
use Rattle.nfs_machine.specs.Data.{transfer_limit, size_limit, written, read_at}
use Rattle.nfs_machine.specs.Exports.{LivingExport}
use Rattle.nfs_machine.specs.Permission.{ToRead, ToWrite}
use Rattle.nfs_machine.specs.Resolve.{resolve}
use Rattle.nfs_machine.specs.Shown.{replaced, wcc, with_content}
use Rattle.nfs_machine.specs.State.{Regular, Living, State}
use Rattle.nfs_machine.specs.Times.{time_of}
use Rattle.nfs_machine.specs.declared.context.Ctx.{Ctx}

-- READLINK, 3.3.5: no permission is asked
abbrev pub ReadlinkStep : State → Ctx → (object : List ℕ) → NfsReply → List Message → State → Type 0
ReadlinkStep old ctx object = TellsOfObject old ctx object
    (λ attributes result. replies.Readlink (record { attributes = attributes; result = result }))
    (λ o. text_in o.object.content)

-- READ, 3.3.6
abbrev pub read_object : Ctx → Living → ReadArguments → Result ReadData NfsStatus
read_object ctx file a = do
  bytes ← bytes_in file.content
  _ ← permitted ctx file ToRead
  Ok (read_at bytes a.offset a.count)

abbrev pub ReadStep : State → Ctx → ReadArguments → NfsReply → List Message → State → Type 0
ReadStep old ctx a = TellsOfObject old ctx a.file
    (λ attributes result. replies.Read (record { attributes = attributes; result = result }))
    (λ o. read_object ctx o.object a)

-- the start number is the verifier of WRITE and COMMIT (3.3.7 and 3.3.21), and that of the cookies of pages (3.3.16
-- and 3.3.17)
abbrev pub verifier_of : Ctx → Verifier
verifier_of ctx = record { bytes = to_be_bytes w64 ctx.start }

-- WRITE, 3.3.7: at most so many bytes as one call carries
abbrev pub write_count : WriteArguments → ℕ
write_count a = min a.count transfer_limit

-- what a WRITE tells, and the file after it; where nothing is written it stays
pub record WriteEnd : Type 0 where
  pub told : Written
  pub after : Option Living

abbrev pub write_object : List LivingExport → Ctx → Living → WriteArguments → Result WriteEnd NfsStatus
write_object exports ctx file a = do
  bytes ← bytes_in file.content
  _ ← holding (a.count == length a.«data») status.Invalid
  _ ← changeable exports file
  _ ← permitted ctx file ToWrite
  _ ← holding ((write_count a == 0) || nat_le (a.offset + write_count a) size_limit) status.FileTooBig
  let after = with_content file (time_of ctx.moment)
      (Regular (written bytes a.offset (take (write_count a) a.«data»))) in
      Ok (record {
        told = record { count = write_count a; committed = a.stable; verifier = verifier_of ctx };
        after = if write_count a == 0 then None else Some after;
      })

abbrev pub write_end : State → Ctx → WriteArguments → Result (Written × State) NfsStatus
write_end old ctx a = do
  o ← object_of (resolve old ctx a.file)
  end ← write_object old.exports ctx o.object a
  Ok (end.told, replaced old o.number end.after)

abbrev pub WriteStep : State → Ctx → WriteArguments → NfsReply → List Message → State → Type 0
WriteStep old ctx a = Ends old
    (λ after result. replies.Write (record { wcc = wcc after (resolve old ctx a.file); result = result }))
    (write_end old ctx a)

-- COMMIT, 3.3.21: what was written is there already, so nothing changes, and no permission is asked
abbrev pub commit_result : State → Ctx → CommitArguments → Result Verifier NfsStatus
commit_result old ctx a = do
  o ← object_of (resolve old ctx a.file)
  bytes ← bytes_in o.object.content
  Ok (verifier_of ctx)

abbrev pub CommitStep : State → Ctx → CommitArguments → NfsReply → List Message → State → Type 0
CommitStep old ctx a = Answers
    (replies.Commit (record { wcc = wcc old (resolve old ctx a.file); result = commit_result old ctx a })) old
