-- Whole replies worked through by hand (RFC 1813, 3.3).
use Rattle.std.specs.Prelude.{◌≡◌, ℕ, List, [], ◌∷◌, take, Some, None, Ok, Err, codes}
use Rattle.std.specs.FinMap.{get, values}
use Rattle.nfs_wire.specs.declared.attributes.Attributes.{Attributes}
use Rattle.nfs_wire.specs.declared.attributes.FileType.TheVariants as types
use Rattle.nfs_wire.specs.declared.attributes.Time.{Time}
use Rattle.nfs_wire.specs.declared.attributes.WeakAttributes.{WeakAttributes}
use Rattle.nfs_wire.specs.declared.calls.NfsCall.{NfsCall}
use Rattle.nfs_wire.specs.declared.calls.NfsCall.TheVariants as calls
use Rattle.nfs_wire.specs.declared.calls.SetattrArguments.{SetattrArguments}
use Rattle.nfs_wire.specs.declared.replies.NfsReply.{NfsReply}
use Rattle.nfs_wire.specs.declared.replies.NfsReply.TheVariants as replies
use Rattle.nfs_wire.specs.declared.status.NfsStatus.TheVariants as status
use Rattle.nfs_machine.specs.Attributes.{names_of}
use Rattle.nfs_machine.specs.FileSystemSteps.{file_system, path_limits}
use Rattle.nfs_machine.specs.Handles.{handle_bytes}
use Rattle.nfs_machine.specs.NfsSteps.{NfsStep}
use Rattle.nfs_machine.specs.Opening.{opening_root}
use Rattle.nfs_machine.specs.PageSteps.{entries_left}
use Rattle.nfs_machine.specs.Pages.{all_entries}
use Rattle.nfs_machine.specs.Shown.{with_object}
use Rattle.nfs_machine.specs.State.{Living, State, octal}
use Rattle.machine_examples.specs.Worked.{root_bytes}
use Rattle.machine_examples.specs.WorkedCreate.{called_as, file, with_writable}
use Rattle.machine_examples.specs.WorkedFiles.{time}
use Rattle.machine_examples.specs.WorkedPages.{seven, zeros}
use Rattle.machine_examples.specs.WorkedSetting.{with_mode}
use Rattle.nfs_machine.specs.declared.context.Ctx.{Ctx}

-- a file of 3 bytes, made at 1000 s and changed at 1000 s and 1 ns, and a root
abbrev pub known_file : Living
known_file = file (codes "hey") (time 1000 1) None

abbrev pub root : Living
root = opening_root 1 (time 1000 0)

-- states in which the file lives under one name, and in which the root lives alone
pub record HasFile (m : State) : Type 0 where
  pub lives : get m.objects 2 ≡ Some known_file
  pub named_once : names_of m 2 ≡ 1

pub record HasRootAlone (m : State) : Type 0 where
  pub lives : get m.objects 1 ≡ Some root
  pub alone : values m.objects ≡ root ∷ []

abbrev pub file_bytes : List ℕ
file_bytes = handle_bytes (record { export = 1; start = 7; fileid = 2; generation = 4 })

abbrev pub setting_mode : Time → SetattrArguments
setting_mode guard = record { object = file_bytes; attributes = with_mode (octal 6 0 0); guard = Some guard }

-- what is shown of the file in this mode, and changed then
abbrev pub file_shown : ℕ → Time → Attributes
file_shown mode changed = record {
  kind = types.Regular;
  mode = mode;
  links = 1;
  uid = 9;
  gid = 9;
  size = 3;
  used = 4096;
  device = record { major = 0; minor = 0 };
  fsid = 1;
  fileid = 2;
  accessed = time 1000 0;
  modified = time 1000 1;
  changed = changed;
}

abbrev pub root_shown : Attributes
root_shown = record {
  kind = types.Directory;
  mode = octal 7 7 7;
  links = 2;
  uid = 0;
  gid = 0;
  size = 4096;
  used = 4096;
  device = record { major = 0; minor = 0 };
  fsid = 1;
  fileid = 1;
  accessed = time 1000 0;
  modified = time 1000 0;
  changed = time 1000 0;
}

abbrev pub file_before : WeakAttributes
file_before = record { size = 3; modified = time 1000 1; changed = time 1000 1 }

abbrev pub with_room : ℕ → Ctx
with_room bytes = record (called_as 0) { limits = record { total_bytes = bytes; name_key = [] } }

-- a call that is answered so, puts no message and changes nothing
abbrev pub IsReplied : State → Ctx → NfsCall → NfsReply → Type 0
IsReplied m ctx call reply = NfsStep m ctx call reply [] m

-- what is answered in a state with the file
pub record WorkedFileReplies : Type 0 where
  pub guarded : (m : State) → HasFile m →
      IsReplied (with_writable m) (called_as 0) (calls.Setattr (setting_mode (time 1000 0))) (replies.Setattr (record {
        wcc = record { before = Some file_before; after = Some (file_shown (octal 6 4 4) (time 1000 1)) };
        result = Err status.NotSynchronized;
      }))
  pub set : (m : State) → HasFile m →
      NfsStep (with_writable m) (called_as 0) (calls.Setattr (setting_mode (time 1000 1))) (replies.Setattr (record {
        wcc = record { before = Some file_before; after = Some (file_shown (octal 6 0 0) (time 1000 2)) };
        result = Ok tt;
      })) [] (with_object (with_writable m) 2 (record known_file { mode = octal 6 0 0; changed = time 1000 2 }))
  pub access : (m : State) → HasFile m
      → IsReplied (with_writable m) (called_as 5) (calls.Access (record { object = file_bytes; rights = 63 }))
      (replies.Access (record { attributes = Some (file_shown (octal 6 4 4) (time 1000 1)); result = Ok 1 }))
  pub no_link : (m : State) → HasFile m
      → IsReplied (with_writable m) (called_as 0) (calls.Readlink file_bytes)
      (replies.Readlink (record {
        attributes = Some (file_shown (octal 6 4 4) (time 1000 1));
        result = Err
            status.Invalid;
      }))
  pub committed : (m : State) → HasFile m →
      IsReplied (with_writable m) (called_as 5) (calls.Commit (record { file = file_bytes; offset = 0; count = 0 }))
      (replies.Commit (record {
        wcc = record { before = Some file_before; after = Some (file_shown (octal 6 4 4) (time 1000 1)) };
        result = Ok (record { bytes = 0 ∷ 0 ∷ 0 ∷ 0 ∷ 0 ∷ 0 ∷ 0 ∷ 7 ∷ [] });
      }))
  pub limits : (m : State) → HasFile m
      → IsReplied (with_writable m) (called_as 0) (calls.Pathconf file_bytes)
      (replies.Pathconf (record {
        attributes = Some (file_shown (octal 6 4 4) (time 1000 1));
        result = Ok path_limits;
      }))
  pub bad_handle : (m : State) →
      IsReplied (with_writable m) (called_as 0) (calls.Fsinfo (take 31 file_bytes))
      (replies.Fsinfo (record { attributes = None; result = Err status.BadHandle }))

-- and in the state of a fresh export
pub record WorkedRootReplies : Type 0 where
  pub space : (m : State) → HasRootAlone m →
      IsReplied (with_writable m) (with_room 1099511627776) (calls.Fsstat root_bytes) (replies.Fsstat (record {
        attributes = Some root_shown;
        result = Ok (record {
          total_bytes = 1099511627776;
          free_bytes = 1099511623680;
          available_bytes = 1099511623680;
          total_files = 4294967295;
          free_files = 4294967294;
          available_files = 4294967294;
          unchanged_for = 0;
        });
      }))
  pub system : (m : State) → HasRootAlone m →
      IsReplied (with_writable m) (called_as 0) (calls.Fsinfo root_bytes)
      (replies.Fsinfo (record { attributes = Some root_shown; result = Ok file_system }))
  pub no_file : (m : State) → HasRootAlone m →
      IsReplied (with_writable m) (called_as 0) (calls.Commit (record { file = root_bytes; offset = 0; count = 0 }))
      (replies.Commit (record {
        wcc = record {
          before = Some (record { size = 4096; modified = time 1000 0; changed = time 1000 0 });
          after = Some root_shown;
        };
        result = Err status.Invalid;
      }))
  -- which cookies are good where the start number is 7: what is left of the root behind them
  pub first_cookie : (m : State) → HasRootAlone m →
      entries_left (with_writable m) (called_as 0) root_bytes 0 zeros 1 ≡ Ok (all_entries 1 1 [])
  pub other_cookie : (m : State) → HasRootAlone m →
      entries_left (with_writable m) (called_as 0) root_bytes 4 zeros 1 ≡ Err status.BadCookie
  pub good_cookie : (m : State) → HasRootAlone m →
      entries_left (with_writable m) (called_as 0) root_bytes 4 seven 1 ≡ Ok []
