-- Worked values of the definitions: what each says in a case that a reader can follow by hand.
use Rattle.std.specs.Prelude.{◌≡◌, ℕ, true, false, List, [], ◌∷◌, ◌++◌, replicate, drop, take}
use Rattle.std.specs.Prelude.{Option, Some, None, Ok, Err, codes, if◌then◌else◌, ◌==◌}
use Rattle.nfs_rpc.specs.declared.credentials.Ids.{Ids}
use Rattle.nfs_wire.specs.declared.attributes.Time.{Time}
use Rattle.side_wire.specs.declared.mount.MountStatus.TheVariants as status
use Rattle.nfs_machine.specs.ExportFaults.{are_export_hosts, is_export_mode, is_export_path}
use Rattle.nfs_machine.specs.Exports.{ExportValue, LivingExport, admits, export_at, opening_exports}
use Rattle.nfs_machine.specs.Handles.{handle_bytes, handle_of}
use Rattle.nfs_machine.specs.MountSteps.{LongestMatch, path_fault, walk}
use Rattle.nfs_machine.specs.Paths.{parts, slash}
use Rattle.nfs_machine.specs.Permission.{ToRead, ToWrite, ToSearch, ToList, ToChange, class_bits, may}
use Rattle.nfs_machine.specs.Resolve.{BadHandle, Stale, Names, named}
use Rattle.nfs_machine.specs.State.{Content, Regular, Directory, Living, octal}
use Rattle.nfs_machine.specs.declared.context.Ctx.{Ctx}
use Rattle.nfs_machine.specs.declared.context.Limits.{Limits}
use Rattle.nfs_machine.specs.declared.handle.Handle.{Handle}
use Rattle.nfs_machine.specs.declared.moment.Moment.{Moment}

-- paths that MNT may send (RFC 1813, 5.2.1)
pub record WorkedPaths : Type 0 where
  pub plain : path_fault (codes "/data") ≡ None
  pub slash_alone : path_fault (codes "/") ≡ None
  pub no_slash : path_fault (codes "data") ≡ Some status.Invalid
  pub empty : path_fault [] ≡ Some status.Invalid
  pub parent : path_fault (codes "/a/../b") ≡ Some status.Invalid
  pub three_dots : path_fault (codes "/a/...") ≡ None
  pub nul : path_fault (codes "/a" ++ 0 ∷ []) ≡ Some status.Invalid
  pub long_part : path_fault (slash ∷ replicate 255 97) ≡ None
  pub longer_part : path_fault (slash ∷ replicate 256 97) ≡ Some status.NameTooLong
  pub invalid_first : path_fault (replicate 256 97) ≡ Some status.Invalid
  pub empty_parts : parts (codes "//a/") ≡ codes "a" ∷ []
  pub two_parts : parts (codes "/a/bc") ≡ codes "a" ∷ codes "bc" ∷ []
  pub no_part : parts (codes "/") ≡ []

abbrev pub epoch : Time
epoch = record { seconds = 0; nanoseconds = 0 }

-- an object of user 100 and group 200 in export 1
abbrev pub object : ℕ → Content → Living
object mode content = record {
  export = 1;
  generation = 1;
  content = content;
  mode = mode;
  uid = 100;
  gid = 200;
  accessed = epoch;
  modified = epoch;
  changed = epoch;
  verifier = None;
}

abbrev pub user : ℕ → ℕ → Ids
user uid gid = record { uid = uid; gid = gid; gids = [] }

-- a user of group 9 who is in group 200 too
abbrev pub member : Ids
member = record { uid = 300; gid = 9; gids = 8 ∷ 200 ∷ [] }

-- a file of mode 0640, and of mode 0641 (RFC 1813, 4.4)
pub record WorkedRights : Type 0 where
  pub owner_bits : class_bits (user 100 9) (object 416 (Regular [])) ≡ 6
  pub group_bits : class_bits (user 300 200) (object 416 (Regular [])) ≡ 4
  pub member_bits : class_bits member (object 416 (Regular [])) ≡ 4
  pub other_bits : class_bits (user 9 9) (object 416 (Regular [])) ≡ 0
  pub owner_writes : may (user 100 9) (object 416 (Regular [])) ToWrite ≡ true
  pub group_reads : may (user 300 200) (object 416 (Regular [])) ToRead ≡ true
  pub group_writes : may (user 300 200) (object 416 (Regular [])) ToWrite ≡ false
  pub other_reads : may (user 9 9) (object 416 (Regular [])) ToRead ≡ false
  pub other_runs : may (user 9 9) (object 417 (Regular [])) ToRead ≡ true
  pub root_writes : may (user 0 0) (object 416 (Regular [])) ToWrite ≡ true
  -- of a directory of mode 0070: the owner's class alone counts for the owner, who is in the group too
  pub owner_searches : may (user 100 200) (object 56 (Directory [] 2)) ToSearch ≡ false
  pub owner_lists : may (user 100 200) (object 56 (Directory [] 2)) ToList ≡ false
  pub group_changes : may (user 300 200) (object 56 (Directory [] 2)) ToChange ≡ true

-- the root of the first export of a server that was started with the number 7
abbrev pub root_handle : Handle
root_handle = record { export = 1; start = 7; fileid = 1; generation = 1 }

abbrev pub root_bytes : List ℕ
root_bytes =
    78 ∷ 70 ∷ 68 ∷ 51 ∷ 0 ∷ 0 ∷ 0 ∷ 1 ∷ 0 ∷ 0 ∷ 0 ∷ 0 ∷ 0 ∷ 0 ∷ 0 ∷ 7 ∷ 0 ∷ 0 ∷
    0 ∷ 0 ∷ 0 ∷ 0 ∷ 0 ∷ 1 ∷ 0 ∷ 0 ∷ 0 ∷ 0 ∷ 0 ∷ 0 ∷ 0 ∷ 1 ∷ []

-- a root with the directory "sub" and the file "file"
abbrev pub find : ℕ → Option Living
find number =
    if number == 1 then Some
    (object (octal 7 7 7) (Directory
    (record { name = codes "sub"; number = 2; cookie = 3 } ∷
    record { name = codes "file"; number = 3; cookie = 4 } ∷ []) 4))
    else (if number == 2 then Some (object (octal 7 7 7) (Directory [] 2)) else
    (if number == 3 then Some (object (octal 6 4 4) (Regular [])) else None))

abbrev pub open_export : ExportValue
open_export = record { path = codes "/a"; read_only = false; hosts = codes "*" ∷ [] }

-- below it, for one host
abbrev pub lower_export : ExportValue
lower_export = record { path = codes "/a/b"; read_only = true; hosts = codes "10.0.0.2" ∷ [] }

abbrev pub exports : List ExportValue
exports = open_export ∷ lower_export ∷ []

-- with the numbers 1 and 2
abbrev pub two_exports : List LivingExport
two_exports = opening_exports exports

abbrev pub called_by : List ℕ → ℕ → Moment → Limits → Ctx
called_by host start moment limits = record
    { host = host; ids = user 0 0; moment = moment; start = start; limits = limits }

-- the root of the second export
abbrev pub lower_root : Living
lower_root = record (object (octal 7 7 7) (Directory [] 2)) { export = 2 }

abbrev pub lower_handle : Handle
lower_handle = record { export = 2; start = 7; fileid = 2; generation = 1 }

-- what handles name (RFC 1813, 2.6)
pub record WorkedHandles : Type 0 where
  pub bytes : handle_bytes root_handle ≡ root_bytes
  pub read : handle_of root_bytes ≡ Some root_handle
  pub cut : handle_of (take 31 root_bytes) ≡ None
  pub longer : handle_of (root_bytes ++ 0 ∷ []) ≡ None
  pub other_mark : handle_of (0 ∷ drop 1 root_bytes) ≡ None
  pub bad : (moment : Moment) (limits : Limits) →
      named find two_exports (called_by (codes "10.0.0.1") 7 moment limits)
      (handle_of (take 31 root_bytes)) ≡ BadHandle
  pub living : (moment : Moment) (limits : Limits) (root : Living) → find 1 ≡ Some root
      → named find two_exports (called_by (codes "10.0.0.1") 7 moment limits) (handle_of root_bytes) ≡ Names 1 root
  pub other_start : (moment : Moment) (limits : Limits) →
      named find two_exports (called_by (codes "10.0.0.1") 8 moment limits) (handle_of root_bytes) ≡ Stale
  pub gone : (moment : Moment) (limits : Limits) →
      named find two_exports (called_by (codes "10.0.0.1") 7 moment limits)
      (Some (record root_handle { fileid = 4 })) ≡ Stale
  pub other_generation : (moment : Moment) (limits : Limits) →
      named find two_exports (called_by (codes "10.0.0.1") 7 moment limits)
      (Some (record root_handle { generation = 2 })) ≡ Stale
  pub admitted : (moment : Moment) (limits : Limits) →
      named (λ number. Some lower_root) two_exports (called_by (codes "10.0.0.2") 7 moment limits)
      (Some lower_handle) ≡ Names 2 lower_root
  pub not_admitted : (moment : Moment) (limits : Limits) →
      named (λ number. Some lower_root) two_exports (called_by (codes "10.0.0.1") 7 moment limits)
      (Some lower_handle) ≡ Stale
  -- an object of the other export
  pub other_export : (moment : Moment) (limits : Limits) →
      named (λ number. Some lower_root) two_exports (called_by (codes "10.0.0.2") 7 moment limits)
      (Some (record lower_handle { export = 1 })) ≡ Stale

-- where paths lead (RFC 1813, 5.2.1)
pub record WorkedWalks : Type 0 where
  pub root : (o : Living) → find 1 ≡ Some o → walk find 1 [] ≡ Ok (record { number = 1; object = o })
  pub directory : (o : Living) → find 2 ≡ Some o → walk find 1 (codes "sub" ∷ []) ≡
      Ok (record { number = 2; object = o })
  pub file : walk find 1 (codes "file" ∷ []) ≡ Err status.NotDirectory
  pub through_file : walk find 1 (codes "file" ∷ codes "x" ∷ []) ≡ Err status.NotDirectory
  pub nothing : walk find 1 (codes "x" ∷ []) ≡ Err status.NoEntry
  -- the longest export that admits the host is chosen
  pub admitted : LongestMatch two_exports (codes "10.0.0.2") (parts (codes "/a/b")) 2 []
  pub not_admitted : LongestMatch two_exports (codes "10.0.0.1") (parts (codes "/a/b")) 1 (codes "b" ∷ [])
  pub empty_parts : LongestMatch two_exports (codes "10.0.0.1") (parts (codes "//a/")) 1 []

-- a slash and the longest name, 256 bytes
abbrev pub long_part : List ℕ
long_part = slash ∷ replicate 255 97

-- exports that a server may be started with
pub record WorkedExports : Type 0 where
  pub slash_alone : is_export_path (codes "/") ≡ true
  pub two_parts : is_export_path (codes "/a/b.c") ≡ true
  pub three_dots : is_export_path (codes "/...") ≡ true
  pub longest : is_export_path (long_part ++ long_part ++ long_part ++ long_part) ≡ true
  pub longer : is_export_path (long_part ++ long_part ++ long_part ++ long_part ++ codes "/a") ≡ false
  pub longer_part : is_export_path (long_part ++ codes "a") ≡ false
  pub empty : is_export_path [] ≡ false
  pub no_slash : is_export_path (codes "a") ≡ false
  pub slash_behind : is_export_path (codes "/a/") ≡ false
  pub two_slashes : is_export_path (codes "//a") ≡ false
  pub comma : is_export_path (codes "/a,b") ≡ false
  pub dot : is_export_path (codes "/a/./b") ≡ false
  pub dots : is_export_path (codes "/..") ≡ false
  pub writable : is_export_mode (codes "rw") ≡ true
  pub read_only : is_export_mode (codes "ro") ≡ true
  pub other_mode : is_export_mode (codes "r") ≡ false
  pub no_host : are_export_hosts [] ≡ false
  pub empty_host : are_export_hosts (codes "*" ∷ [] ∷ []) ≡ false
  pub most_hosts : are_export_hosts (replicate 1024 (codes "10.0.0.1")) ≡ true
  pub more_hosts : are_export_hosts (replicate 1025 (codes "10.0.0.1")) ≡ false
  pub every_host : admits open_export (codes "10.0.0.1") ≡ true
  pub listed_host : admits lower_export (codes "10.0.0.2") ≡ true
  pub other_host : admits lower_export (codes "10.0.0.1") ≡ false
  pub first : export_at two_exports 1 ≡ Some (record { number = 1; root = 1; value = open_export })
  pub zeroth : export_at two_exports 0 ≡ None
  pub third : export_at two_exports 3 ≡ None
