-- The arguments of each call are made again of their value.
use Rattle.std.proofs.Common.{◌≡◌, ℕ, zero, suc, [], Option, Some, None, refl}
use Rattle.nfs_xdr.specs.Types.{Value}
use Rattle.nfs_wire.specs.Attributes.{nfstime3, specdata3, set_time, set_time_arm, sattr3, set_time_value}
use Rattle.nfs_wire.specs.Attributes.{set_attributes_value}
use Rattle.nfs_wire.specs.Arguments.{verf3, diropargs3, sattrguard3, setattr3args, access3args, read3args, write3args}
use Rattle.nfs_wire.specs.Arguments.{createhow3, create_arm, create3args, mkdir3args, symlink3args, mknoddata3}
use Rattle.nfs_wire.specs.Arguments.{mknod_arm, mknod3args, rename3args, link3args, readdir3args, readdirplus3args}
use Rattle.nfs_wire.specs.Arguments.{commit3args, guard_value, setattr_value, stability_number, write_value}
use Rattle.nfs_wire.specs.Arguments.{create_how_value, create_value, mkdir_value, symlink_value, special_value}
use Rattle.nfs_wire.specs.Arguments.{mknod_value}
use Rattle.nfs_wire.specs.declared.attributes.DeviceNumber.{DeviceNumber}
use Rattle.nfs_wire.specs.declared.attributes.SetAttributes.{SetAttributes}
use Rattle.nfs_wire.specs.declared.attributes.SetTime.{SetTime}
use Rattle.nfs_wire.specs.declared.attributes.SetTime.TheVariants.{Leave, ToServer, ToClient}
use Rattle.nfs_wire.specs.declared.attributes.Time.{Time}
use Rattle.nfs_wire.specs.declared.calls.AccessArguments.{AccessArguments}
use Rattle.nfs_wire.specs.declared.calls.CommitArguments.{CommitArguments}
use Rattle.nfs_wire.specs.declared.calls.CreateArguments.{CreateArguments}
use Rattle.nfs_wire.specs.declared.calls.CreateHow.{CreateHow}
use Rattle.nfs_wire.specs.declared.calls.CreateHow.TheVariants.{Unchecked, Guarded, Exclusive}
use Rattle.nfs_wire.specs.declared.calls.LinkArguments.{LinkArguments}
use Rattle.nfs_wire.specs.declared.calls.MkdirArguments.{MkdirArguments}
use Rattle.nfs_wire.specs.declared.calls.MknodArguments.{MknodArguments}
use Rattle.nfs_wire.specs.declared.calls.Ordinary.TheVariants.{Regular, Directory, Link}
use Rattle.nfs_wire.specs.declared.calls.DirOp.{DirOp}
use Rattle.nfs_wire.specs.declared.calls.ReadArguments.{ReadArguments}
use Rattle.nfs_wire.specs.declared.calls.ReaddirArguments.{ReaddirArguments}
use Rattle.nfs_wire.specs.declared.calls.ReaddirplusArguments.{ReaddirplusArguments}
use Rattle.nfs_wire.specs.declared.calls.RenameArguments.{RenameArguments}
use Rattle.nfs_wire.specs.declared.calls.SetattrArguments.{SetattrArguments}
use Rattle.nfs_wire.specs.declared.calls.Special.{Special}
use Rattle.nfs_wire.specs.declared.calls.Special.TheVariants.{BlockDevice, CharacterDevice, Socket, Fifo, Other}
use Rattle.nfs_wire.specs.declared.calls.Stability.{Stability}
use Rattle.nfs_wire.specs.declared.calls.Stability.TheVariants.{Unstable, DataSync, FileSync}
use Rattle.nfs_wire.specs.declared.calls.SymlinkArguments.{SymlinkArguments}
use Rattle.nfs_wire.specs.declared.calls.Verifier.{Verifier}
use Rattle.nfs_wire.specs.declared.calls.WriteArguments.{WriteArguments}

abbrev time_of : Value nfstime3 → Time
time_of v = record { seconds = v.0; nanoseconds = v.1 }

abbrev device_of : Value specdata3 → DeviceNumber
device_of v = record { major = v.0; minor = v.1 }

abbrev set_time_at : (how : ℕ) → Value (set_time_arm how) → SetTime
set_time_at zero v = Leave
set_time_at (suc zero) v = ToServer
set_time_at (suc (suc zero)) v = ToClient (time_of v)
set_time_at (suc (suc (suc _))) v = Leave

abbrev set_time_of : Value set_time → SetTime
set_time_of v = set_time_at v.0 v.1

set_time_again : (t : SetTime) → set_time_of (set_time_value t) ≡ t
set_time_again Leave = refl
set_time_again ToServer = refl
set_time_again (ToClient time) = refl

abbrev set_attributes_of : Value sattr3 → SetAttributes
set_attributes_of v =
    record {
      mode = v.0;
      uid = v.1.0;
      gid = v.1.1.0;
      size = v.1.1.1.0;
      accessed = set_time_of v.1.1.1.1.0;
      modified = set_time_of v.1.1.1.1.1;
    }

set_attributes_again : (a : SetAttributes) → set_attributes_of (set_attributes_value a) ≡ a
set_attributes_again a = rw (set_time_again a.accessed, set_time_again a.modified) refl

abbrev verifier_of : Value verf3 → Verifier
verifier_of v = record { bytes = v }

abbrev pub place_of : Value diropargs3 → DirOp
place_of v = record { directory = v.0; name = v.1 }

abbrev guard_of : Value sattrguard3 → Option Time
guard_of None = None
guard_of (Some v) = Some (time_of v)

guard_again : (g : Option Time) → guard_of (guard_value g) ≡ g
guard_again None = refl
guard_again (Some time) = refl

abbrev pub setattr_of : Value setattr3args → SetattrArguments
setattr_of v = record { object = v.0; attributes = set_attributes_of v.1.0; guard = guard_of v.1.1 }

pub setattr_again : (a : SetattrArguments) → setattr_of (setattr_value a) ≡ a
setattr_again a = rw (set_attributes_again a.attributes, guard_again a.guard) refl

abbrev pub access_of : Value access3args → AccessArguments
access_of v = record { object = v.0; rights = v.1 }

abbrev pub read_of : Value read3args → ReadArguments
read_of v = record { file = v.0; offset = v.1.0; count = v.1.1 }

abbrev stability_of : ℕ → Stability
stability_of zero = Unstable
stability_of (suc zero) = DataSync
stability_of (suc (suc _)) = FileSync

stability_again : (s : Stability) → stability_of (stability_number s) ≡ s
stability_again Unstable = refl
stability_again DataSync = refl
stability_again FileSync = refl

abbrev pub write_of : Value write3args → WriteArguments
write_of v =
    record { file = v.0; offset = v.1.0; count = v.1.1.0; stable = stability_of v.1.1.1.0; «data» = v.1.1.1.1 }

pub write_again : (a : WriteArguments) → write_of (write_value a) ≡ a
write_again a = rw (stability_again a.stable) refl

abbrev create_how_at : (mode : ℕ) → Value (create_arm mode) → CreateHow
create_how_at zero v = Unchecked (set_attributes_of v)
create_how_at (suc zero) v = Guarded (set_attributes_of v)
create_how_at (suc (suc zero)) v = Exclusive (verifier_of v)
create_how_at (suc (suc (suc _))) v = Exclusive (verifier_of [])

abbrev create_how_of : Value createhow3 → CreateHow
create_how_of v = create_how_at v.0 v.1

create_how_again : (how : CreateHow) → create_how_of (create_how_value how) ≡ how
create_how_again (Unchecked a) = rw (set_attributes_again a) refl
create_how_again (Guarded a) = rw (set_attributes_again a) refl
create_how_again (Exclusive verifier) = refl

abbrev pub create_of : Value create3args → CreateArguments
create_of v = record { place = place_of v.0; how = create_how_of v.1 }

pub create_again : (a : CreateArguments) → create_of (create_value a) ≡ a
create_again a = rw (create_how_again a.how) refl

abbrev pub mkdir_of : Value mkdir3args → MkdirArguments
mkdir_of v = record { place = place_of v.0; attributes = set_attributes_of v.1 }

pub mkdir_again : (a : MkdirArguments) → mkdir_of (mkdir_value a) ≡ a
mkdir_again a = rw (set_attributes_again a.attributes) refl

abbrev pub symlink_of : Value symlink3args → SymlinkArguments
symlink_of v = record { place = place_of v.0; attributes = set_attributes_of v.1.0; text = v.1.1 }

pub symlink_again : (a : SymlinkArguments) → symlink_of (symlink_value a) ≡ a
symlink_again a = rw (set_attributes_again a.attributes) refl

abbrev special_at : (kind : ℕ) → Value (mknod_arm kind) → Special
special_at zero v = Other Regular
special_at (suc zero) v = Other Regular
special_at (suc (suc zero)) v = Other Directory
special_at (suc (suc (suc zero))) v = BlockDevice (set_attributes_of v.0) (device_of v.1)
special_at (suc (suc (suc (suc zero)))) v = CharacterDevice (set_attributes_of v.0) (device_of v.1)
special_at (suc (suc (suc (suc (suc zero))))) v = Other Link
special_at (suc (suc (suc (suc (suc (suc zero)))))) v = Socket (set_attributes_of v)
special_at (suc (suc (suc (suc (suc (suc (suc zero))))))) v = Fifo (set_attributes_of v)
special_at (suc (suc (suc (suc (suc (suc (suc (suc _)))))))) v = Other Regular

abbrev special_of : Value mknoddata3 → Special
special_of v = special_at v.0 v.1

special_again : (what : Special) → special_of (special_value what) ≡ what
special_again (BlockDevice a device) = rw (set_attributes_again a) refl
special_again (CharacterDevice a device) = rw (set_attributes_again a) refl
special_again (Socket a) = rw (set_attributes_again a) refl
special_again (Fifo a) = rw (set_attributes_again a) refl
special_again (Other Regular) = refl
special_again (Other Directory) = refl
special_again (Other Link) = refl

abbrev pub mknod_of : Value mknod3args → MknodArguments
mknod_of v = record { place = place_of v.0; what = special_of v.1 }

pub mknod_again : (a : MknodArguments) → mknod_of (mknod_value a) ≡ a
mknod_again a = rw (special_again a.what) refl

abbrev pub rename_of : Value rename3args → RenameArguments
rename_of v = record { from = place_of v.0; to = place_of v.1 }

abbrev pub link_of : Value link3args → LinkArguments
link_of v = record { file = v.0; place = place_of v.1 }

abbrev pub readdir_of : Value readdir3args → ReaddirArguments
readdir_of v = record { directory = v.0; cookie = v.1.0; verifier = verifier_of v.1.1.0; count = v.1.1.1 }

abbrev pub readdirplus_of : Value readdirplus3args → ReaddirplusArguments
readdirplus_of v =
    record {
      directory = v.0;
      cookie = v.1.0;
      verifier = verifier_of v.1.1.0;
      directory_count = v.1.1.1.0;
      most = v.1.1.1.1;
    }

abbrev pub commit_of : Value commit3args → CommitArguments
commit_of v = record { file = v.0; offset = v.1.0; count = v.1.1 }
