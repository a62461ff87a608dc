-- The steps of LOOKUP and CREATE (RFC 1813, 3.3.3 and 3.3.8).
use Rattle.std.specs.Prelude.{ℕ, false, List, Option, Some, None, option_map, unwrap_or, Result, Ok, Err, ok_or}
use Rattle.std.specs.Prelude.{nat_le, replicate, if◌then◌else◌}
use Rattle.std.specs.FinMap.{get}
use Rattle.nfs_wire.specs.declared.attributes.SetAttributes.{SetAttributes}
use Rattle.nfs_wire.specs.declared.attributes.SetTime.TheVariants.{Leave}
use Rattle.nfs_wire.specs.declared.calls.CreateArguments.{CreateArguments}
use Rattle.nfs_wire.specs.declared.calls.CreateHow.{CreateHow}
use Rattle.nfs_wire.specs.declared.calls.CreateHow.TheVariants.{Unchecked, Guarded, Exclusive}
use Rattle.nfs_wire.specs.declared.calls.DirOp.{DirOp}
use Rattle.nfs_wire.specs.declared.replies.Found.{Found}
use Rattle.nfs_wire.specs.declared.replies.Made.{Made}
use Rattle.nfs_wire.specs.declared.replies.NfsReply.{NfsReply}
use Rattle.nfs_wire.specs.declared.replies.NfsReply.TheVariants as replies
use Rattle.nfs_wire.specs.declared.status.NfsStatus.{NfsStatus}
use Rattle.nfs_wire.specs.declared.status.NfsStatus.TheVariants as status
use Rattle.side_wire.specs.declared.message.Message.{Message}
use Rattle.nfs_machine.specs.Answers.{Answers}
use Rattle.nfs_machine.specs.Attributes.{attributes_of}
use Rattle.nfs_machine.specs.Bytes.{same_bytes}
use Rattle.nfs_machine.specs.Checks.{◌>>=◌, holding, object_of, entries_in, bytes_in, name_checked, permitted}
use Rattle.nfs_machine.specs.Checks.{entry_of}
use Rattle.nfs_machine.specs.Data.{size_limit, resized}
pub use Rattle.nfs_machine.specs.Making.{given_attributes, new_object, with_entry, made}
use Rattle.nfs_machine.specs.Making.{MakeStep, Wanted}
use Rattle.nfs_machine.specs.PageSteps.{IsParentOf}
use Rattle.nfs_machine.specs.Pages.{all_entries}
use Rattle.nfs_machine.specs.Permission.{ToWrite, ToSearch}
use Rattle.nfs_machine.specs.Resolve.{resolve}
use Rattle.nfs_machine.specs.Shown.{handle_at, shown, with_content, replaced}
use Rattle.nfs_machine.specs.State.{Regular, Entry, Living, State, octal}
use Rattle.nfs_machine.specs.Times.{time_of}
use Rattle.nfs_machine.specs.declared.context.Ctx.{Ctx}

-- LOOKUP, 3.3.3: a name leads to an entry's object, "." to the directory itself and ".." to its parent
abbrev pub leads_to : (number parent : ℕ) → List Entry → List ℕ → Result ℕ NfsStatus
leads_to number parent entries name = ok_or
    (option_map (λ (e : Entry). e.number) (entry_of (all_entries number parent entries) name)) status.NoEntry

abbrev pub lookup_found : State → Ctx → DirOp → ℕ → Result Found NfsStatus
lookup_found m ctx place parent = do
  directory ← object_of (resolve m ctx place.directory)
  entries ← entries_in directory.object.content
  _ ← name_checked place.name
  _ ← permitted ctx directory.object ToSearch
  number ← leads_to directory.number parent entries.list place.name
  o ← ok_or (get m.objects number) status.NoEntry
  Ok (record { object = handle_at ctx number o; attributes = Some (attributes_of m number o) })

-- its directory is shown, and has this parent
abbrev pub LookupStep : State → Ctx → DirOp → NfsReply → List Message → State → Type 0
LookupStep old ctx place reply messages new = (parent : ℕ) × IsParentOf old ctx place.directory parent
    × Answers (replies.Lookup
    (record {
      directory = shown old (resolve old ctx place.directory);
      result = lookup_found old ctx place parent;
    })) old reply messages new

-- CREATE, 3.3.8
-- What is there under the name. Only a regular file can be answered: UNCHECKED answers it, cut or filled up to the
-- size that is given; EXCLUSIVE answers the file that it made itself, by its verifier. Where it changes, the file
-- after it
abbrev pub create_over : Ctx → CreateHow → Living → Result (List ℕ) NfsStatus →
    Result (Option Living) NfsStatus
create_over ctx how file (Err e) = Err status.Exists
create_over ctx (Unchecked a) file (Ok bytes) = elim a.size [
  | None ↦ Ok None
  | Some size ↦ do
    _ ← permitted ctx file ToWrite
    _ ← holding (nat_le size size_limit) status.FileTooBig
    Ok (Some (with_content file (time_of ctx.moment) (Regular (resized bytes size))))
]
create_over ctx (Guarded a) file (Ok bytes) = Err status.Exists
create_over ctx (Exclusive verifier) file
    (Ok bytes) = if elim file.verifier [ None ↦ false | Some kept ↦ same_bytes kept verifier.bytes ] then Ok None
    else Err status.Exists

abbrev pub create_existing : State → Ctx → CreateHow → ℕ → Option Living → Result (Made × State) NfsStatus
create_existing old ctx how number None = Err status.Exists
create_existing old ctx how number (Some o) = do
  after ← create_over ctx how o (bytes_in o.content)
  Ok (made (replaced old number after) ctx number (unwrap_or after o), replaced old number after)

-- the attributes that a new file is given
abbrev pub attributes_in : CreateHow → SetAttributes
attributes_in (Unchecked attributes) = attributes
attributes_in (Guarded attributes) = attributes
attributes_in (Exclusive verifier) = record
    { mode = None; uid = None; gid = None; size = None; accessed = Leave; modified = Leave }

-- the verifier that it keeps
abbrev pub verifier_in : CreateHow → Option (List ℕ)
verifier_in (Exclusive verifier) = Some verifier.bytes
verifier_in how = None

-- a new file of mode 0644, filled with zeros up to the size that is given; EXCLUSIVE gives no attribute, but a
-- verifier that the file keeps
abbrev pub wanted_file : CreateHow → Wanted
wanted_file how =
    record {
      mode = octal 6 4 4;
      content = Regular (replicate (unwrap_or (attributes_in how).size 0) 0);
      attributes = attributes_in how;
      verifier = verifier_in how;
    }

abbrev pub CreateStep : State → Ctx → CreateArguments → NfsReply → List Message → State → Type 0
CreateStep old ctx a = MakeStep old ctx a.place (Ok (wanted_file a.how)) (create_existing old ctx a.how) replies.Create
