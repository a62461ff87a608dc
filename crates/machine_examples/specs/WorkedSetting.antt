-- SETATTR, ACCESS, FSSTAT, FSINFO and PATHCONF worked through by hand (RFC 1813, 3.3.2, 3.3.4 and 3.3.18 to 3.3.20).
use Rattle.std.specs.Prelude.{◌+◌, ◌≡◌, ℕ, true, false, List, [], ◌∷◌, replicate, Option, Some}
use Rattle.std.specs.Prelude.{None, Result}
use Rattle.std.specs.Prelude.{Ok}
use Rattle.std.specs.Prelude.{Err, codes}
use Rattle.nfs_rpc.specs.declared.credentials.Ids.{Ids}
use Rattle.nfs_wire.specs.declared.attributes.SetAttributes.{SetAttributes}
use Rattle.nfs_wire.specs.declared.attributes.SetTime.TheVariants.{ToServer, ToClient}
use Rattle.nfs_wire.specs.declared.attributes.Time.{Time}
use Rattle.nfs_wire.specs.declared.calls.SetattrArguments.{SetattrArguments}
use Rattle.nfs_wire.specs.declared.status.NfsStatus.{NfsStatus}
use Rattle.nfs_wire.specs.declared.status.NfsStatus.TheVariants as status
use Rattle.nfs_machine.specs.AttributeSteps.{granted, set_object}
use Rattle.nfs_machine.specs.Checks.{bytes_in, text_in}
use Rattle.nfs_machine.specs.Exports.{LivingExport, opening_exports}
use Rattle.nfs_machine.specs.FileSystemSteps.{space_left, file_system, path_limits}
use Rattle.nfs_machine.specs.Opening.{opening_root}
use Rattle.nfs_machine.specs.State.{Content, Regular, Directory, Link, Fifo, Living, octal}
use Rattle.machine_examples.specs.Worked.{member, object, open_export, user}
use Rattle.machine_examples.specs.WorkedCreate.{called_as, file, sized, no_attributes, writable}
use Rattle.machine_examples.specs.WorkedFiles.{hello, time}
use Rattle.nfs_machine.specs.declared.context.Ctx.{Ctx}

abbrev pub by : Ids → Ctx
by ids = record (called_as 0) { ids = ids }

-- the export is read only
abbrev pub unwritable : List LivingExport
unwritable = opening_exports (record open_export { read_only = true } ∷ [])

abbrev pub setting : SetAttributes → Option Time → SetattrArguments
setting a guard = record { object = []; attributes = a; guard = guard }

abbrev pub with_mode : ℕ → SetAttributes
with_mode mode = record no_attributes { mode = Some mode }

-- a file of uid 9 and mode 0644 that was changed at 1000 s and 1 ns, where it is 1000 s now
abbrev pub known : Living
known = file hello (time 1000 1) None

abbrev pub set_by : ℕ → SetAttributes → Living → Result Living NfsStatus
set_by uid a o = set_object writable (called_as uid) o (setting a None)

-- the guard, and times
pub record WorkedGuard : Type 0 where
  pub changed_since : set_object writable (called_as 0) known
      (setting (with_mode (octal 6 0 0)) (Some (time 1000 0))) ≡ Err status.NotSynchronized
  pub as_known : set_object writable (called_as 0) known (setting (with_mode (octal 6 0 0)) (Some (time 1000 1))) ≡ Ok
      (record known { mode = octal 6 0 0; changed = time 1000 2 })
  pub other_second : set_object writable (called_as 0) known
      (setting (with_mode (octal 6 0 0)) (Some (time 999 1))) ≡ Err status.NotSynchronized
  pub bad_guard : set_object writable (called_as 0) known
      (setting (with_mode (octal 6 0 0)) (Some (time 1000 1000000000))) ≡ Err status.NotSynchronized
  pub unguarded : set_by 9 no_attributes known ≡ Ok (record known { changed = time 1000 2 })
  pub size : set_by 9 (sized 2) known ≡ Ok
      (record known { content = Regular (codes "he"); modified = time 1000 2; changed = time 1000 2 })
  pub size_and_time : set_by 9 (record (sized 5) { modified = ToClient (time 5 6) }) known ≡ Ok
      (record known { modified = time 5 6; changed = time 1000 2 })
  pub server_time : set_by 9 (record no_attributes { accessed = ToServer; modified = ToServer }) known ≡ Ok
      (record known { modified = time 1000 0; changed = time 1000 2 })
  pub twelve_bits : set_by 9 (with_mode (4096 + octal 6 0 0)) known ≡ Ok
      (record known { mode = octal 6 0 0; changed = time 1000 2 })
  pub verifier : set_by 9 no_attributes (record known { verifier = Some (codes "12345678") }) ≡ Ok
      (record known { changed = time 1000 2 })

-- the first check that fails decides
pub record WorkedSetting : Type 0 where
  pub read_only : set_object unwritable (called_as 0) known
      (setting (with_mode (octal 6 0 0)) (Some (time 1000 0))) ≡ Err status.ReadOnly
  pub guard_first : set_object writable (called_as 0) known
      (setting (record no_attributes { modified = ToClient (time 0 1000000000) }) (Some (time 1000 0))) ≡
      Err status.NotSynchronized
  pub bad_time : set_by 5
      (record (sized 1073741825) { modified = ToClient (time 0 1000000000) }) known ≡ Err status.Invalid
  pub directory : set_by 5 (sized 1073741825) (opening_root 1 (time 1000 0)) ≡ Err status.Invalid
  pub too_big : set_by 5 (record (sized 1073741825) { mode = Some (octal 6 0 0) }) known ≡ Err status.FileTooBig
  pub mode : set_by 5 (record (sized 2) { mode = Some (octal 6 0 0) }) known ≡ Err status.Permission
  pub client_time : set_by 5 (record no_attributes { accessed = ToClient (time 5 6) }) known ≡ Err status.Permission
  pub given_away : set_by 9 (record no_attributes { uid = Some 8 }) known ≡ Err status.Permission
  pub kept : set_by 9 (record no_attributes { uid = Some 9; gid = Some 9 }) known ≡ Ok
      (record known { changed = time 1000 2 })
  pub taken : set_by 5 (record no_attributes { uid = Some 5 }) known ≡ Err status.Permission
  pub not_taken : set_by 5 (record no_attributes { uid = Some 9 }) known ≡ Err status.Permission
  pub foreign_group : set_by 9 (record no_attributes { gid = Some 8 }) known ≡ Err status.Permission
  pub further_group : set_object writable (by (record member { uid = 9 })) known
      (setting (record no_attributes { gid = Some 200 }) None) ≡ Ok
      (record known { gid = 200; changed = time 1000 2 })
  pub by_root : set_by 0 (record no_attributes { uid = Some 8; gid = Some 8 }) known ≡ Ok
      (record known { uid = 8; gid = 8; changed = time 1000 2 })
  pub not_writable : set_by 5 (sized 2) known ≡ Err status.Access
  pub not_writable_time : set_by 5 (record no_attributes { modified = ToServer }) known ≡ Err status.Access
  -- mode 0622
  pub writable : set_by 5 (sized 5) (record known { mode = 402 }) ≡ Ok
      (record known { mode = 402; modified = time 1000 2; changed = time 1000 2 })

-- rights that are granted, of all that are known: READ 1, LOOKUP 2, MODIFY 4, EXTEND 8, DELETE 16, EXECUTE 32
abbrev pub rights : Ids → ℕ → Content → ℕ
rights ids mode content = granted writable (by ids) (object mode content) 63

pub record WorkedAccess : Type 0 where
  -- mode 0640
  pub group : rights (user 300 200) 416 (Regular []) ≡ 1
  pub owner : rights (user 100 9) 416 (Regular []) ≡ 13
  pub root : rights (user 0 0) 416 (Regular []) ≡ 13
  pub other : rights (user 9 9) 416 (Regular []) ≡ 0
  -- mode 0641, and 0
  pub other_runs : rights (user 9 9) 417 (Regular []) ≡ 32
  pub root_runs : rights (user 0 0) 417 (Regular []) ≡ 45
  pub owner_of_nothing : rights (user 100 9) 0 Fifo ≡ 13
  -- a directory of mode 0755
  pub directory : rights (user 100 9) (octal 7 5 5) (Directory [] 2) ≡ 31
  pub other_directory : rights (user 9 9) (octal 7 5 5) (Directory [] 2) ≡ 3
  -- of mode 0050: the owner's class alone counts
  pub closed_directory : rights (user 100 9) 40 (Directory [] 2) ≡ 0
  pub root_directory : rights (user 0 0) 0 (Directory [] 2) ≡ 31
  pub read_only : granted unwritable (by (user 0 0)) (object (octal 7 5 5) (Directory [] 2)) 63 ≡ 3
  pub read_only_file : granted unwritable (by (user 0 0)) (object (octal 7 5 5) (Regular [])) 63 ≡ 33
  pub asked : granted writable (by (user 100 9)) (object (octal 7 5 5) (Directory [] 2)) 18 ≡ 18
  pub unknown : granted writable (by (user 100 9)) (object (octal 7 5 5) (Directory [] 2)) 4294967264 ≡ 0

-- kinds that READLINK and COMMIT are refused of
pub record WorkedKinds : Type 0 where
  pub link : text_in (Link (codes "/a/b")) ≡ Ok (codes "/a/b")
  pub no_link : text_in (Regular []) ≡ Err status.Invalid
  pub no_file : bytes_in (Directory [] 2) ≡ Err status.Invalid

-- the root of an export, a file in it, and the root of the next
abbrev pub root_at : ℕ → Living
root_at export = opening_root export (time 1000 0)

-- what is left of 1,099,511,627,776 bytes
pub record WorkedSpace : Type 0 where
  pub fresh : space_left 1099511627776 (root_at 1 ∷ root_at 2 ∷ []) 1 ≡ record {
    total_bytes = 1099511627776;
    free_bytes = 1099511623680;
    available_bytes = 1099511623680;
    total_files = 4294967295;
    free_files = 4294967294;
    available_files = 4294967294;
    unchanged_for = 0;
  }
  pub one_file : space_left 1099511627776
      (root_at 1 ∷ file (replicate 65536 0) (time 1000 0) None ∷ root_at 2 ∷ []) 1 ≡ record {
        total_bytes = 1099511627776;
        free_bytes = 1099511558144;
        available_bytes = 1099511558144;
        total_files = 4294967295;
        free_files = 4294967293;
        available_files = 4294967293;
        unchanged_for = 0;
      }
  -- a block for one byte, and none for an empty file
  pub one_byte : (space_left 10000
      (root_at 1 ∷ file (codes "x") (time 1000 0) None ∷ file [] (time 1000 0) None ∷ []) 1).free_bytes ≡ 1808
  pub full : (space_left 10 (root_at 1 ∷ []) 1).free_bytes ≡ 0

-- what FSINFO and PATHCONF say
pub record WorkedLimits : Type 0 where
  pub read : file_system.read_most ≡ 65536
  pub preferred : file_system.read_preferred ≡ 65536
  pub written : file_system.write_most ≡ 65536
  pub multiple : file_system.write_multiple ≡ 4096
  pub page : file_system.directory_preferred ≡ 32768
  pub largest : file_system.largest_file ≡ 1073741824
  pub step : file_system.time_step ≡ time 0 1
  pub properties : file_system.properties ≡ 27
  pub links : path_limits.most_links ≡ 32000
  pub name : path_limits.longest_name ≡ 255
  pub refused : path_limits.no_truncation ≡ true
  pub insensitive : path_limits.case_insensitive ≡ false
