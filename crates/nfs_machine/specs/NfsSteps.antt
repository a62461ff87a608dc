-- The step of NFS version 3: each call has the step of its procedure (RFC 1813, 3.3).
use Rattle.std.specs.Prelude.{List}
use Rattle.nfs_wire.specs.declared.calls.NfsCall.{NfsCall}
use Rattle.nfs_wire.specs.declared.calls.NfsCall.TheVariants as calls
use Rattle.nfs_wire.specs.declared.replies.NfsReply.{NfsReply}
use Rattle.nfs_wire.specs.declared.replies.NfsReply.TheVariants as replies
use Rattle.side_wire.specs.declared.message.Message.{Message}
use Rattle.nfs_machine.specs.Answers.{Answers}
use Rattle.nfs_machine.specs.AttributeSteps.{AccessStep, GetattrStep, SetattrStep}
use Rattle.nfs_machine.specs.DataSteps.{CommitStep, ReadStep, ReadlinkStep, WriteStep}
use Rattle.nfs_machine.specs.FileSystemSteps.{FsinfoStep, FsstatStep, PathconfStep}
use Rattle.nfs_machine.specs.LinkSteps.{LinkStep}
use Rattle.nfs_machine.specs.MakeSteps.{MkdirStep, MknodStep, SymlinkStep}
use Rattle.nfs_machine.specs.NameSteps.{CreateStep, LookupStep}
use Rattle.nfs_machine.specs.PageSteps.{ReaddirStep, ReaddirplusStep}
use Rattle.nfs_machine.specs.RemoveSteps.{RemoveStep, RmdirStep}
use Rattle.nfs_machine.specs.RenameSteps.{RenameStep}
use Rattle.nfs_machine.specs.State.{State}
use Rattle.nfs_machine.specs.declared.context.Ctx.{Ctx}

-- what the machine may answer a call of NFS, and the state that it goes on to; the procedures are in the order of their
-- numbers, 3.3.0 to 3.3.21
unfoldable pub NfsStep : State → Ctx → NfsCall → NfsReply → List Message → State → Type 0
NfsStep old ctx calls.Null = Answers replies.Null old
NfsStep old ctx (calls.Getattr object) = GetattrStep old ctx object
NfsStep old ctx (calls.Setattr a) = SetattrStep old ctx a
NfsStep old ctx (calls.Lookup place) = LookupStep old ctx place
NfsStep old ctx (calls.Access a) = AccessStep old ctx a
NfsStep old ctx (calls.Readlink object) = ReadlinkStep old ctx object
NfsStep old ctx (calls.Read a) = ReadStep old ctx a
NfsStep old ctx (calls.Write a) = WriteStep old ctx a
NfsStep old ctx (calls.Create a) = CreateStep old ctx a
NfsStep old ctx (calls.Mkdir a) = MkdirStep old ctx a
NfsStep old ctx (calls.Symlink a) = SymlinkStep old ctx a
NfsStep old ctx (calls.Mknod a) = MknodStep old ctx a
NfsStep old ctx (calls.Remove place) = RemoveStep old ctx place
NfsStep old ctx (calls.Rmdir place) = RmdirStep old ctx place
NfsStep old ctx (calls.Rename a) = RenameStep old ctx a
NfsStep old ctx (calls.Link a) = LinkStep old ctx a
NfsStep old ctx (calls.Readdir a) = ReaddirStep old ctx a
NfsStep old ctx (calls.Readdirplus a) = ReaddirplusStep old ctx a
NfsStep old ctx (calls.Fsstat object) = FsstatStep old ctx object
NfsStep old ctx (calls.Fsinfo object) = FsinfoStep old ctx object
NfsStep old ctx (calls.Pathconf object) = PathconfStep old ctx object
NfsStep old ctx (calls.Commit a) = CommitStep old ctx a
