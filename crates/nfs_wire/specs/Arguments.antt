-- The XDR types of the arguments of calls (RFC 1813, sections 2.5 and 3.3), and the value of each.
use Rattle.std.specs.Prelude.{ℕ, ◌&&◌, ◌||◌, nat_le, ◌==◌, if◌then◌else◌, Option, Some, None}
use Rattle.nfs_xdr.specs.Types.{Xdr, Void, Word, Hyper, Enum, Fixed, Opaque, Pair, Optional, Union, Value}
use Rattle.nfs_wire.specs.Attributes.{sattr3, nfstime3, specdata3, set_attributes_value, time_value, device_value}
use Rattle.nfs_wire.specs.declared.attributes.Time.{Time}
use Rattle.nfs_wire.specs.declared.calls.AccessArguments.{AccessArguments}
use Rattle.nfs_wire.specs.declared.calls.CommitArguments.{CommitArguments}
use Rattle.nfs_wire.specs.declared.calls.CreateArguments.{CreateArguments}
use Rattle.nfs_wire.specs.declared.calls.CreateHow.{CreateHow}
use Rattle.nfs_wire.specs.declared.calls.CreateHow.TheVariants.{Unchecked, Guarded, Exclusive}
use Rattle.nfs_wire.specs.declared.calls.LinkArguments.{LinkArguments}
use Rattle.nfs_wire.specs.declared.calls.MkdirArguments.{MkdirArguments}
use Rattle.nfs_wire.specs.declared.calls.MknodArguments.{MknodArguments}
use Rattle.nfs_wire.specs.declared.calls.Ordinary.TheVariants.{Regular, Directory, Link}
use Rattle.nfs_wire.specs.declared.calls.DirOp.{DirOp}
use Rattle.nfs_wire.specs.declared.calls.ReadArguments.{ReadArguments}
use Rattle.nfs_wire.specs.declared.calls.ReaddirArguments.{ReaddirArguments}
use Rattle.nfs_wire.specs.declared.calls.ReaddirplusArguments.{ReaddirplusArguments}
use Rattle.nfs_wire.specs.declared.calls.RenameArguments.{RenameArguments}
use Rattle.nfs_wire.specs.declared.calls.SetattrArguments.{SetattrArguments}
use Rattle.nfs_wire.specs.declared.calls.Special.{Special}
use Rattle.nfs_wire.specs.declared.calls.Special.TheVariants.{BlockDevice, CharacterDevice, Socket, Fifo, Other}
use Rattle.nfs_wire.specs.declared.calls.Stability.{Stability}
use Rattle.nfs_wire.specs.declared.calls.Stability.TheVariants.{Unstable, DataSync, FileSync}
use Rattle.nfs_wire.specs.declared.calls.SymlinkArguments.{SymlinkArguments}
use Rattle.nfs_wire.specs.declared.calls.Verifier.{Verifier}
use Rattle.nfs_wire.specs.declared.calls.WriteArguments.{WriteArguments}

-- the most bytes of an opaque item or a string that has no bound of its own (RFC 4506, 4.10 and 4.11)
abbrev pub unbounded : ℕ
unbounded = 4294967295

-- nfs_fh3 (RFC 1813, 2.5): at most NFS3_FHSIZE, 64, bytes
abbrev pub nfs_fh3 : Xdr
nfs_fh3 = Opaque 64

-- filename3 and nfspath3 (RFC 1813, 2.5): strings without a bound
abbrev pub filename3 : Xdr
filename3 = Opaque unbounded

abbrev pub nfspath3 : Xdr
nfspath3 = Opaque unbounded

-- offset3 and cookie3 (RFC 1813, 2.5): hypers
abbrev pub offset3 : Xdr
offset3 = Hyper

abbrev pub cookie3 : Xdr
cookie3 = Hyper

-- count3 (RFC 1813, 2.5): a word
abbrev pub count3 : Xdr
count3 = Word

-- createverf3, cookieverf3 and writeverf3 (RFC 1813, 2.5): 8 bytes
abbrev pub verf3 : Xdr
verf3 = Fixed 8

abbrev pub verifier_value : Verifier → Value verf3
verifier_value verifier = verifier.bytes

-- diropargs3 (RFC 1813, 2.5): dir, name
abbrev pub diropargs3 : Xdr
diropargs3 = Pair nfs_fh3 filename3

abbrev pub place_value : DirOp → Value diropargs3
place_value place = (place.directory, place.name)

-- sattrguard3 (RFC 1813, 3.3.2): a union on a bool, as optional data is
abbrev pub sattrguard3 : Xdr
sattrguard3 = Optional nfstime3

abbrev pub guard_value : Option Time → Value sattrguard3
guard_value None = None
guard_value (Some time) = Some (time_value time)

-- SETATTR3args (RFC 1813, 3.3.2): object, new_attributes, guard
abbrev pub setattr3args : Xdr
setattr3args = Pair nfs_fh3 (Pair sattr3 sattrguard3)

abbrev pub setattr_value : SetattrArguments → Value setattr3args
setattr_value a = (a.object, (set_attributes_value a.attributes, guard_value a.guard))

-- ACCESS3args (RFC 1813, 3.3.4): object, access
abbrev pub access3args : Xdr
access3args = Pair nfs_fh3 Word

abbrev pub access_value : AccessArguments → Value access3args
access_value a = (a.object, a.rights)

-- READ3args (RFC 1813, 3.3.6): file, offset, count
abbrev pub read3args : Xdr
read3args = Pair nfs_fh3 (Pair offset3 count3)

abbrev pub read_value : ReadArguments → Value read3args
read_value a = (a.file, (a.offset, a.count))

-- stable_how (RFC 1813, 3.3.7): UNSTABLE 0, DATA_SYNC 1, FILE_SYNC 2
abbrev pub stable_how : Xdr
stable_how = Enum (λ n. nat_le n 2)

abbrev pub stability_number : Stability → ℕ
stability_number Unstable = 0
stability_number DataSync = 1
stability_number FileSync = 2

-- WRITE3args (RFC 1813, 3.3.7): file, offset, count, stable, data
abbrev pub write3args : Xdr
write3args = Pair nfs_fh3 (Pair offset3 (Pair count3 (Pair stable_how (Opaque unbounded))))

abbrev pub write_value : WriteArguments → Value write3args
write_value a = (a.file, (a.offset, (a.count, (stability_number a.stable, a.data))))

-- the arm of createmode3 (RFC 1813, 3.3.8): UNCHECKED 0 and GUARDED 1 have attributes, EXCLUSIVE 2 has a verifier
abbrev pub create_arm : ℕ → Xdr
create_arm mode = if mode == 2 then verf3 else sattr3

-- createhow3 (RFC 1813, 3.3.8)
abbrev pub createhow3 : Xdr
createhow3 = Union (λ mode. nat_le mode 2) create_arm

abbrev pub create_how_value : CreateHow → Value createhow3
create_how_value (Unchecked attributes) = (0, set_attributes_value attributes)
create_how_value (Guarded attributes) = (1, set_attributes_value attributes)
create_how_value (Exclusive verifier) = (2, verifier_value verifier)

-- CREATE3args (RFC 1813, 3.3.8): where, how
abbrev pub create3args : Xdr
create3args = Pair diropargs3 createhow3

abbrev pub create_value : CreateArguments → Value create3args
create_value a = (place_value a.place, create_how_value a.how)

-- MKDIR3args (RFC 1813, 3.3.9): where, attributes
abbrev pub mkdir3args : Xdr
mkdir3args = Pair diropargs3 sattr3

abbrev pub mkdir_value : MkdirArguments → Value mkdir3args
mkdir_value a = (place_value a.place, set_attributes_value a.attributes)

-- SYMLINK3args (RFC 1813, 3.3.10): where, symlink_attributes, symlink_data
abbrev pub symlink3args : Xdr
symlink3args = Pair diropargs3 (Pair sattr3 nfspath3)

abbrev pub symlink_value : SymlinkArguments → Value symlink3args
symlink_value a = (place_value a.place, (set_attributes_value a.attributes, a.text))

-- devicedata3 (RFC 1813, 3.3.11): dev_attributes, spec
abbrev pub devicedata3 : Xdr
devicedata3 = Pair sattr3 specdata3

-- the arm of a type (RFC 1813, 3.3.11): NF3CHR 4 and NF3BLK 3 have a device, NF3SOCK 6 and NF3FIFO 7 attributes
abbrev pub mknod_arm : ℕ → Xdr
mknod_arm kind =
    if kind == 3 || kind == 4 then devicedata3 else (if kind == 6 || kind == 7 then sattr3 else Void)

-- mknoddata3 (RFC 1813, 3.3.11): a union on ftype3
abbrev pub mknoddata3 : Xdr
mknoddata3 = Union (λ n. nat_le 1 n && nat_le n 7) mknod_arm

abbrev pub special_value : Special → Value mknoddata3
special_value (BlockDevice attributes device) = (3, (set_attributes_value attributes, device_value device))
special_value (CharacterDevice attributes device) = (4, (set_attributes_value attributes, device_value device))
special_value (Socket attributes) = (6, set_attributes_value attributes)
special_value (Fifo attributes) = (7, set_attributes_value attributes)
special_value (Other Regular) = (1, tt)
special_value (Other Directory) = (2, tt)
special_value (Other Link) = (5, tt)

-- MKNOD3args (RFC 1813, 3.3.11): where, what
abbrev pub mknod3args : Xdr
mknod3args = Pair diropargs3 mknoddata3

abbrev pub mknod_value : MknodArguments → Value mknod3args
mknod_value a = (place_value a.place, special_value a.what)

-- RENAME3args (RFC 1813, 3.3.14): from, to
abbrev pub rename3args : Xdr
rename3args = Pair diropargs3 diropargs3

abbrev pub rename_value : RenameArguments → Value rename3args
rename_value a = (place_value a.from, place_value a.to)

-- LINK3args (RFC 1813, 3.3.15): file, link
abbrev pub link3args : Xdr
link3args = Pair nfs_fh3 diropargs3

abbrev pub link_value : LinkArguments → Value link3args
link_value a = (a.file, place_value a.place)

-- READDIR3args (RFC 1813, 3.3.16): dir, cookie, cookieverf, count
abbrev pub readdir3args : Xdr
readdir3args = Pair nfs_fh3 (Pair cookie3 (Pair verf3 count3))

abbrev pub readdir_value : ReaddirArguments → Value readdir3args
readdir_value a = (a.directory, (a.cookie, (verifier_value a.verifier, a.count)))

-- READDIRPLUS3args (RFC 1813, 3.3.17): dir, cookie, cookieverf, dircount, maxcount
abbrev pub readdirplus3args : Xdr
readdirplus3args = Pair nfs_fh3 (Pair cookie3 (Pair verf3 (Pair count3 count3)))

abbrev pub readdirplus_value : ReaddirplusArguments → Value readdirplus3args
readdirplus_value a = (a.directory, (a.cookie, (verifier_value a.verifier, (a.directory_count, a.most))))

-- COMMIT3args (RFC 1813, 3.3.21): file, offset, count
abbrev pub commit3args : Xdr
commit3args = Pair nfs_fh3 (Pair offset3 count3)

abbrev pub commit_value : CommitArguments → Value commit3args
commit_value a = (a.file, (a.offset, a.count))
