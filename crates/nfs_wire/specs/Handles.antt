-- Which handles calls of NFS name.
use Rattle.std.specs.Prelude.{ℕ, List, [], ◌∷◌}
use Rattle.nfs_wire.specs.declared.calls.NfsCall.{NfsCall}
use Rattle.nfs_wire.specs.declared.calls.NfsCall.TheVariants as nfs

-- the handles of a call of NFS, in the order in which they are judged (RFC 1813, 3.3)
abbrev pub nfs_handles : NfsCall → List (List ℕ)
nfs_handles nfs.Null = []
nfs_handles (nfs.Getattr object) = object ∷ []
nfs_handles (nfs.Setattr a) = a.object ∷ []
nfs_handles (nfs.Lookup place) = place.directory ∷ []
nfs_handles (nfs.Access a) = a.object ∷ []
nfs_handles (nfs.Readlink link) = link ∷ []
nfs_handles (nfs.Read a) = a.file ∷ []
nfs_handles (nfs.Write a) = a.file ∷ []
nfs_handles (nfs.Create a) = a.place.directory ∷ []
nfs_handles (nfs.Mkdir a) = a.place.directory ∷ []
nfs_handles (nfs.Symlink a) = a.place.directory ∷ []
nfs_handles (nfs.Mknod a) = a.place.directory ∷ []
nfs_handles (nfs.Remove place) = place.directory ∷ []
nfs_handles (nfs.Rmdir place) = place.directory ∷ []
nfs_handles (nfs.Rename a) = a.from.directory ∷ a.to.directory ∷ []
nfs_handles (nfs.Link a) = a.file ∷ a.place.directory ∷ []
nfs_handles (nfs.Readdir a) = a.directory ∷ []
nfs_handles (nfs.Readdirplus a) = a.directory ∷ []
nfs_handles (nfs.Fsstat object) = object ∷ []
nfs_handles (nfs.Fsinfo object) = object ∷ []
nfs_handles (nfs.Pathconf object) = object ∷ []
nfs_handles (nfs.Commit a) = a.file ∷ []
