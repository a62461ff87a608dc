-- The attributes of a file (RFC 1813, section 2.5): their XDR types, and the value of each.
use Rattle.std.specs.Prelude.{ℕ, ◌&&◌, nat_le, ◌==◌, if◌then◌else◌, Option, Some, None}
use Rattle.nfs_xdr.specs.Types.{Xdr, Void, Word, Hyper, Enum, Pair, Optional, Union, Value, ◌&◌}
use Rattle.nfs_wire.specs.declared.attributes.Attributes.{Attributes}
use Rattle.nfs_wire.specs.declared.attributes.DeviceNumber.{DeviceNumber}
use Rattle.nfs_wire.specs.declared.attributes.FileType.{FileType}
use Rattle.nfs_wire.specs.declared.attributes.FileType.TheVariants.{Regular, Directory, BlockDevice, CharacterDevice}
use Rattle.nfs_wire.specs.declared.attributes.FileType.TheVariants.{Link, Socket, Fifo}
use Rattle.nfs_wire.specs.declared.attributes.SetAttributes.{SetAttributes}
use Rattle.nfs_wire.specs.declared.attributes.SetTime.{SetTime}
use Rattle.nfs_wire.specs.declared.attributes.SetTime.TheVariants.{Leave, ToServer, ToClient}
use Rattle.nfs_wire.specs.declared.attributes.Time.{Time}
use Rattle.nfs_wire.specs.declared.attributes.Wcc.{Wcc}
use Rattle.nfs_wire.specs.declared.attributes.WeakAttributes.{WeakAttributes}

-- the number of a file's type (ftype3, RFC 1813, 2.5)
abbrev pub type_number : FileType → ℕ
type_number Regular = 1
type_number Directory = 2
type_number BlockDevice = 3
type_number CharacterDevice = 4
type_number Link = 5
type_number Socket = 6
type_number Fifo = 7

-- ftype3 (RFC 1813, 2.5): NF3REG 1 to NF3FIFO 7
abbrev pub ftype3 : Xdr
ftype3 = Enum (λ n. nat_le 1 n && nat_le n 7)

-- mode3, uid3 and gid3 (RFC 1813, 2.5): words
abbrev pub mode3 : Xdr
mode3 = Word

abbrev pub uid3 : Xdr
uid3 = Word

abbrev pub gid3 : Xdr
gid3 = Word

-- size3 and fileid3 (RFC 1813, 2.5): hypers
abbrev pub size3 : Xdr
size3 = Hyper

abbrev pub fileid3 : Xdr
fileid3 = Hyper

-- specdata3 (RFC 1813, 2.5): specdata1 and specdata2
abbrev pub specdata3 : Xdr
specdata3 = Pair Word Word

abbrev pub device_value : DeviceNumber → Value specdata3
device_value device = (device.major, device.minor)

-- nfstime3 (RFC 1813, 2.5): seconds and nseconds
abbrev pub nfstime3 : Xdr
nfstime3 = Pair Word Word

abbrev pub time_value : Time → Value nfstime3
time_value time = (time.seconds, time.nanoseconds)

-- fattr3 (RFC 1813, 2.5): type, mode, nlink, uid, gid, size, used, rdev, fsid, fileid, atime, mtime, ctime
abbrev pub fattr3 : Xdr
fattr3 =
    Pair ftype3 (Pair mode3 (Pair Word (Pair uid3 (Pair gid3 (Pair size3 (Pair size3 (Pair specdata3
    (Pair Hyper (Pair fileid3 (Pair nfstime3 (Pair nfstime3 nfstime3)))))))))))

abbrev pub attributes_value : Attributes → Value fattr3
attributes_value a =
    type_number a.kind & a.mode & a.links & a.uid & a.gid & a.size & a.used & device_value a.device &
    a.fsid & a.fileid & time_value a.accessed & time_value a.modified & time_value a.changed

-- post_op_attr (RFC 1813, 2.5): a union on a bool, as optional data is
abbrev pub post_op_attr : Xdr
post_op_attr = Optional fattr3

abbrev pub after_value : Option Attributes → Value post_op_attr
after_value None = None
after_value (Some attributes) = Some (attributes_value attributes)

-- wcc_attr (RFC 1813, 2.5): size, mtime, ctime
abbrev pub wcc_attr : Xdr
wcc_attr = Pair size3 (Pair nfstime3 nfstime3)

abbrev pub weak_value : WeakAttributes → Value wcc_attr
weak_value w = (w.size, (time_value w.modified, time_value w.changed))

-- pre_op_attr (RFC 1813, 2.5)
abbrev pub pre_op_attr : Xdr
pre_op_attr = Optional wcc_attr

abbrev pub before_value : Option WeakAttributes → Value pre_op_attr
before_value None = None
before_value (Some weak) = Some (weak_value weak)

-- wcc_data (RFC 1813, 2.5): before, after
abbrev pub wcc_data : Xdr
wcc_data = Pair pre_op_attr post_op_attr

abbrev pub wcc_value : Wcc → Value wcc_data
wcc_value wcc = (before_value wcc.before, after_value wcc.after)

-- the arm of time_how (RFC 1813, 2.5): DONT_CHANGE 0 and SET_TO_SERVER_TIME 1 have none, SET_TO_CLIENT_TIME 2 has
-- a time
abbrev pub set_time_arm : ℕ → Xdr
set_time_arm how = if how == 2 then nfstime3 else Void

-- set_atime and set_mtime (RFC 1813, 2.5)
abbrev pub set_time : Xdr
set_time = Union (λ how. nat_le how 2) set_time_arm

abbrev pub set_time_value : SetTime → Value set_time
set_time_value Leave = (0, tt)
set_time_value ToServer = (1, tt)
set_time_value (ToClient time) = (2, time_value time)

-- sattr3 (RFC 1813, 2.5): mode, uid, gid, size, atime, mtime; the first four are unions on a bool, as optional data is
abbrev pub sattr3 : Xdr
sattr3 =
    Pair (Optional mode3) (Pair (Optional uid3) (Pair (Optional gid3) (Pair (Optional size3) (Pair set_time set_time))))

abbrev pub set_attributes_value : SetAttributes → Value sattr3
set_attributes_value a =
    (a.mode, (a.uid, (a.gid, (a.size, (set_time_value a.accessed, set_time_value a.modified)))))
