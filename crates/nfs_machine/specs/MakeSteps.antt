-- The steps of MKDIR, SYMLINK and MKNOD, which make an object that is no regular file (RFC 1813, 3.3.9 to 3.3.11).
use Rattle.std.specs.Prelude.{ℕ, List, [], Option, None, Result, Ok, Err}
use Rattle.nfs_wire.specs.declared.attributes.SetAttributes.{SetAttributes}
use Rattle.nfs_wire.specs.declared.calls.MkdirArguments.{MkdirArguments}
use Rattle.nfs_wire.specs.declared.calls.MknodArguments.{MknodArguments}
use Rattle.nfs_wire.specs.declared.calls.Special.{Special}
use Rattle.nfs_wire.specs.declared.calls.Special.TheVariants as special
use Rattle.nfs_wire.specs.declared.calls.SymlinkArguments.{SymlinkArguments}
use Rattle.nfs_wire.specs.declared.replies.Made.{Made}
use Rattle.nfs_wire.specs.declared.replies.NfsReply.{NfsReply}
use Rattle.nfs_wire.specs.declared.replies.NfsReply.TheVariants as replies
use Rattle.nfs_wire.specs.declared.status.NfsStatus.{NfsStatus}
use Rattle.nfs_wire.specs.declared.status.NfsStatus.TheVariants as status
use Rattle.side_wire.specs.declared.message.Message.{Message}
use Rattle.nfs_machine.specs.Making.{MakeStep, Wanted}
use Rattle.nfs_machine.specs.State.{Content, Directory, Link, BlockDevice, CharacterDevice, Socket, Fifo, Living, State}
use Rattle.nfs_machine.specs.State.{octal}
use Rattle.nfs_machine.specs.declared.context.Ctx.{Ctx}

-- an object of this mode where none is given; a size is for regular files alone
abbrev pub wanted_of : (mode : ℕ) → Content → SetAttributes → Wanted
wanted_of mode content given = record
    { mode = mode; content = content; attributes = record given { size = None }; verifier = None }

-- a name that is there is refused
abbrev pub refused_there : ℕ → Option Living → Result (Made × State) NfsStatus
refused_there number object = Err status.Exists

-- MKDIR, 3.3.9: a directory of mode 0755 with no entry, where "." and ".." have the cookies 1 and 2; its parent has
-- one link more
abbrev pub MkdirStep : State → Ctx → MkdirArguments → NfsReply → List Message → State → Type 0
MkdirStep old ctx a = MakeStep old ctx a.place (Ok (wanted_of (octal 7 5 5) (Directory [] 2) a.attributes))
    refused_there
    replies.Mkdir

-- SYMLINK, 3.3.10: a link of mode 0777
abbrev pub SymlinkStep : State → Ctx → SymlinkArguments → NfsReply → List Message → State → Type 0
SymlinkStep old ctx a = MakeStep old ctx a.place (Ok (wanted_of (octal 7 7 7) (Link a.text) a.attributes)) refused_there
    replies.Symlink

-- MKNOD, 3.3.11: a device, a socket or a FIFO of mode 0644; no other type is made
abbrev pub wanted_special : Special → Result Wanted NfsStatus
wanted_special (special.BlockDevice given device) = Ok (wanted_of (octal 6 4 4) (BlockDevice device) given)
wanted_special (special.CharacterDevice given device) = Ok (wanted_of (octal 6 4 4) (CharacterDevice device) given)
wanted_special (special.Socket given) = Ok (wanted_of (octal 6 4 4) Socket given)
wanted_special (special.Fifo given) = Ok (wanted_of (octal 6 4 4) Fifo given)
wanted_special (special.Other kind) = Err status.BadType

abbrev pub MknodStep : State → Ctx → MknodArguments → NfsReply → List Message → State → Type 0
MknodStep old ctx a = MakeStep old ctx a.place (wanted_special a.what) refused_there replies.Mknod
