-- Which calls of NFS change something (RFC 1813, 3.3), and so are not to be executed again where their record comes
-- once more (4.5).
use Rattle.std.specs.Prelude.{Bool, true, false}
use Rattle.nfs_wire.specs.declared.calls.NfsCall.{NfsCall}
use Rattle.nfs_wire.specs.declared.calls.NfsCall.TheVariants as nfs

abbrev pub is_changing_nfs : NfsCall → Bool
is_changing_nfs (nfs.Setattr a) = true
is_changing_nfs (nfs.Write a) = true
is_changing_nfs (nfs.Create a) = true
is_changing_nfs (nfs.Mkdir a) = true
is_changing_nfs (nfs.Symlink a) = true
is_changing_nfs (nfs.Mknod a) = true
is_changing_nfs (nfs.Remove place) = true
is_changing_nfs (nfs.Rmdir place) = true
is_changing_nfs (nfs.Rename a) = true
is_changing_nfs (nfs.Link a) = true
is_changing_nfs call = false
