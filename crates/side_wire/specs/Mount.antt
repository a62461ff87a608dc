-- Which bytes spell the arguments and results of MOUNT version 3 (RFC 1813, appendix I).
-- A procedure has one line in each of `mount_arguments`, `mount_procedure_of`, `mount_arguments_of`,
-- `mount_result_of` and `HasMountForm`.
use Rattle.std.specs.Prelude.{ℕ, ◌<◌, ◌≤◌, Bool, List, [], ◌∷◌, length, Result, Ok, Err, IfOk}
use Rattle.std.specs.Prelude.{◌==◌, if◌then◌else◌, map, pos}
use Rattle.std.specs.List.{All, list_any}
use Rattle.nfs_xdr.specs.declared.XdrError.{XdrError}
use Rattle.nfs_xdr.specs.Types.{Xdr, Void, Int, Opaque, Pair, Array, Entries, Union, Value}
use Rattle.nfs_xdr.specs.Writing.{write}
use Rattle.nfs_xdr.specs.Programs.{type_at, SpellsCall, ReadsCall}
use Rattle.side_wire.specs.declared.mount.MountCall.{MountCall}
use Rattle.side_wire.specs.declared.mount.MountCall.TheVariants as call
use Rattle.side_wire.specs.declared.mount.MountReply.{MountReply}
use Rattle.side_wire.specs.declared.mount.MountReply.TheVariants as reply
use Rattle.side_wire.specs.declared.mount.MountStatus.{MountStatus}
use Rattle.side_wire.specs.declared.mount.MountStatus.TheVariants.{Permission, NoEntry, Io, Access, NotDirectory}
use Rattle.side_wire.specs.declared.mount.MountStatus.TheVariants.{Invalid, NameTooLong, NotSupported, ServerFault}
use Rattle.side_wire.specs.declared.mount.lists.ExportNode.{ExportNode}
use Rattle.side_wire.specs.declared.mount.lists.MountBody.{MountBody}

-- dirpath (RFC 1813, 5.1.5): at most MNTPATHLEN, 1024, bytes
abbrev pub dirpath : Xdr
dirpath = Opaque 1024

-- name (RFC 1813, 5.1.5): at most MNTNAMLEN, 255, bytes
abbrev pub host_name : Xdr
host_name = Opaque 255

-- fhandle3 (RFC 1813, 5.1.5): at most FHSIZE3, 64, bytes
abbrev pub fhandle3 : Xdr
fhandle3 = Opaque 64

-- the arguments of each procedure, in the order of their numbers (RFC 1813, 5.2)
abbrev pub mount_arguments : List Xdr
mount_arguments =
    -- 0 NULL, 5.2.0
    Void
    -- 1 MNT, 5.2.1
    ∷ dirpath
    -- 2 DUMP, 5.2.2
    ∷ Void
    -- 3 UMNT, 5.2.3
    ∷ dirpath
    -- 4 UMNTALL, 5.2.4
    ∷ Void
    -- 5 EXPORT, 5.2.5
    ∷ Void ∷ []

-- MOUNT has a procedure of this number
abbrev pub IsMountProcedure : ℕ → Type 0
IsMountProcedure n = n < length mount_arguments

-- the number of a call's procedure
abbrev pub mount_procedure_of : MountCall → ℕ
mount_procedure_of call.Null = 0
mount_procedure_of (call.Mnt path) = 1
mount_procedure_of call.Dump = 2
mount_procedure_of (call.Unmount path) = 3
mount_procedure_of call.UnmountAll = 4
mount_procedure_of call.Export = 5

-- the value of a call's arguments
abbrev pub mount_arguments_of : (c : MountCall) → Value (type_at mount_arguments (mount_procedure_of c))
mount_arguments_of call.Null = tt
mount_arguments_of (call.Mnt path) = path
mount_arguments_of call.Dump = tt
mount_arguments_of (call.Unmount path) = path
mount_arguments_of call.UnmountAll = tt
mount_arguments_of call.Export = tt

-- the bytes spell the arguments of the call
abbrev pub SpellsMountArguments : MountCall → List ℕ → Type 0
SpellsMountArguments = SpellsCall mount_arguments mount_procedure_of mount_arguments_of

-- what reading a call answers and leaves
abbrev pub ReadsMountCall : ℕ → List ℕ → List ℕ → Result MountCall XdrError → Type 0
ReadsMountCall = ReadsCall IsMountProcedure mount_arguments mount_procedure_of mount_arguments_of

-- the number of a status other than MNT3_OK (mountstat3, RFC 1813, 5.1.5)
abbrev pub mount_status_number : MountStatus → ℕ
mount_status_number Permission = 1
mount_status_number NoEntry = 2
mount_status_number Io = 5
mount_status_number Access = 13
mount_status_number NotDirectory = 20
mount_status_number Invalid = 22
mount_status_number NameTooLong = 63
mount_status_number NotSupported = 10004
mount_status_number ServerFault = 10006

-- the numbers of mountstat3 (RFC 1813, 5.1.5), MNT3_OK first
abbrev pub mount_statuses : List ℕ
mount_statuses = 0 ∷ 1 ∷ 2 ∷ 5 ∷ 13 ∷ 20 ∷ 22 ∷ 63 ∷ 10004 ∷ 10006 ∷ []

abbrev pub is_mount_status : ℕ → Bool
is_mount_status n = list_any (λ status. n == status) mount_statuses

-- mountres3_ok (RFC 1813, 5.2.1): fhandle, and auth_flavors with no bound but that of a length word
abbrev pub mountres3_ok : Xdr
mountres3_ok = Pair fhandle3 (Array 4294967295 Int)

-- the arm of a status: one for MNT3_OK, and void for every other
abbrev pub mount_arm : ℕ → Xdr
mount_arm status = if status == 0 then mountres3_ok else Void

-- mountres3 (RFC 1813, 5.2.1)
abbrev pub mountres3 : Xdr
mountres3 = Union is_mount_status mount_arm

-- the value of the arm of a status other than MNT3_OK
abbrev pub nothing : (status : MountStatus) → Value (mount_arm (mount_status_number status))
nothing Permission = tt
nothing _ = tt

-- the handle with the one flavor AUTH_SYS, 1 (RFC 5531, 8.2), or the status
abbrev pub mount_outcome : Result (List ℕ) MountStatus → Value mountres3
mount_outcome (Ok handle) = (0, (handle, pos 1 ∷ []))
mount_outcome (Err status) = (mount_status_number status, nothing status)

-- the result of MNT (RFC 1813, 5.2.1)
abbrev pub mnt_result : Result (List ℕ) MountStatus → (t : Xdr) × Value t
mnt_result result = (mountres3, mount_outcome result)

-- mountbody (RFC 1813, 5.2.2) but for ml_next: ml_hostname, ml_directory
abbrev pub mountbody : Xdr
mountbody = Pair host_name dirpath

abbrev pub mountbody_value : MountBody → Value mountbody
mountbody_value body = (body.hostname, body.directory)

-- the result of DUMP (RFC 1813, 5.2.2): a list of mountbody
abbrev pub dump_result : List MountBody → (t : Xdr) × Value t
dump_result mounts = (Entries mountbody, map mountbody_value mounts)

-- groups (RFC 1813, 5.2.5): a list of gr_name
abbrev pub groups : Xdr
groups = Entries host_name

-- exportnode (RFC 1813, 5.2.5) but for ex_next: ex_dir, ex_groups
abbrev pub exportnode : Xdr
exportnode = Pair dirpath groups

abbrev pub exportnode_value : ExportNode → Value exportnode
exportnode_value node = (node.directory, node.groups)

-- the result of EXPORT (RFC 1813, 5.2.5): a list of exportnode
abbrev pub export_result : List ExportNode → (t : Xdr) × Value t
export_result exports = (Entries exportnode, map exportnode_value exports)

-- the type and the value of a reply's result
abbrev pub mount_result_of : MountReply → (t : Xdr) × Value t
mount_result_of reply.Null = (Void, tt)
mount_result_of (reply.Mnt result) = mnt_result result
mount_result_of (reply.Dump mounts) = dump_result mounts
mount_result_of reply.Unmount = (Void, tt)
mount_result_of reply.UnmountAll = (Void, tt)
mount_result_of (reply.Export exports) = export_result exports

-- the bytes of a reply's result
abbrev pub mount_result_bytes : MountReply → List ℕ
mount_result_bytes r = write (mount_result_of r).0 (mount_result_of r).1

-- a host's name is within its bound, MNTNAMLEN (RFC 1813, 5.1.4)
abbrev pub IsHostName : List ℕ → Type 0
IsHostName name = length name ≤ 255

-- a path is within its bound, MNTPATHLEN (RFC 1813, 5.1.4)
abbrev pub IsDirpath : List ℕ → Type 0
IsDirpath path = length path ≤ 1024

-- the same of what lists have
abbrev pub HasMountBodyForm : MountBody → Type 0
HasMountBodyForm body = IsHostName body.hostname × IsDirpath body.directory

abbrev pub HasExportNodeForm : ExportNode → Type 0
HasExportNodeForm node = IsDirpath node.directory × All IsHostName node.groups

-- a reply whose result has a spelling: its handle, names and paths are within their bounds
abbrev pub HasMountForm : MountReply → Type 0
HasMountForm (reply.Mnt result) = IfOk result (λ handle. length handle ≤ 64)
HasMountForm (reply.Dump mounts) = All HasMountBodyForm mounts
HasMountForm (reply.Export exports) = All HasExportNodeForm exports
HasMountForm _ = Unit {0}
