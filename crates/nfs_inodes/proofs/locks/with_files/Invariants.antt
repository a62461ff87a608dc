-- The files so far have this.
use Rattle.std.proofs.Common.{take}
use Rattle.nfs_inodes.specs.Locks.{AreInserted}
use Rattle.nfs_inodes.proofs.locks.with_files.Given as goal

abbrev pub invariant-loop-file : goal.invariant-loop-file
invariant-loop-file l = AreInserted l.fn.bucket (take l.file-index l.files) l.bucket
