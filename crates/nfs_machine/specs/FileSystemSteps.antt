-- The steps of FSSTAT, FSINFO and PATHCONF (RFC 1813, 3.3.18 to 3.3.20). Each export is a file system.
use Rattle.std.specs.Prelude.{Ok, ℕ, ◌+◌, ◌-◌, true, false, List, count_by, sum_by, if◌then◌else◌}
use Rattle.std.specs.Prelude.{◌==◌}
use Rattle.std.specs.FinMap.{values}
use Rattle.nfs_wire.specs.declared.replies.FileSystem.{FileSystem}
use Rattle.nfs_wire.specs.declared.replies.NfsReply.{NfsReply}
use Rattle.nfs_wire.specs.declared.replies.NfsReply.TheVariants as replies
use Rattle.nfs_wire.specs.declared.replies.PathLimits.{PathLimits}
use Rattle.nfs_wire.specs.declared.replies.Space.{Space}
use Rattle.side_wire.specs.declared.message.Message.{Message}
use Rattle.nfs_machine.specs.Answers.{TellsOfObject}
use Rattle.nfs_machine.specs.Attributes.{block, used_of}
use Rattle.nfs_machine.specs.Data.{transfer_limit, size_limit}
use Rattle.nfs_machine.specs.State.{Living, State}
use Rattle.nfs_machine.specs.declared.context.Ctx.{Ctx}

-- FSSTAT, 3.3.18: what the living objects of an export leave of a total of bytes, and of the 4,294,967,295 files that
-- it tells of; never below 0
abbrev pub space_left : (total : ℕ) → List Living → (export : ℕ) → Space
space_left total objects export =
    let bytes = total - sum_by (λ (o : Living). if o.export == export then used_of o.content else 0) objects in
    let files = 4294967295 - count_by (λ (o : Living). o.export == export) objects in
    record {
      total_bytes = total;
      free_bytes = bytes;
      available_bytes = bytes;
      total_files = 4294967295;
      free_files = files;
      available_files = files;
      unchanged_for = 0;
    }

abbrev pub FsstatStep : State → Ctx → (object : List ℕ) → NfsReply → List Message → State → Type 0
FsstatStep old ctx object = TellsOfObject old ctx object
    (λ attributes result. replies.Fsstat (record { attributes = attributes; result = result }))
    (λ o. Ok (space_left ctx.limits.total_bytes (values old.objects) o.object.export))

-- FSINFO, 3.3.19
abbrev pub file_system : FileSystem
file_system = record {
  read_most = transfer_limit;
  read_preferred = transfer_limit;
  read_multiple = block;
  write_most = transfer_limit;
  write_preferred = transfer_limit;
  write_multiple = block;
  directory_preferred = 32768;
  largest_file = size_limit;
  time_step = record { seconds = 0; nanoseconds = 1 };
  -- links (1), symbolic links (2), the same PATHCONF everywhere (8), times can be set (16)
  properties = 1 + 2 + 8 + 16;
}

abbrev pub FsinfoStep : State → Ctx → (object : List ℕ) → NfsReply → List Message → State → Type 0
FsinfoStep old ctx object = TellsOfObject old ctx object
    (λ attributes result. replies.Fsinfo (record { attributes = attributes; result = result })) (λ o. Ok file_system)

-- PATHCONF, 3.3.20: names are compared as bytes, and one that is too long is refused
abbrev pub path_limits : PathLimits
path_limits = record {
  most_links = 32000;
  longest_name = 255;
  no_truncation = true;
  chown_restricted = true;
  case_insensitive = false;
  case_preserving = true;
}

abbrev pub PathconfStep : State → Ctx → (object : List ℕ) → NfsReply → List Message → State → Type 0
PathconfStep old ctx object = TellsOfObject old ctx object
    (λ attributes result. replies.Pathconf (record { attributes = attributes; result = result }))
    (λ o. Ok path_limits)
