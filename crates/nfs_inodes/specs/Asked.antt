-- What calls that make objects ask for, as the machine has it (RFC 1813, 3.3.8 to 3.3.11).
use Rattle.std.specs.Prelude.{ℕ, [], Result, Ok, Err, replicate}
use Rattle.nfs_wire.specs.declared.status.NfsStatus.{NfsStatus}
use Rattle.nfs_machine.specs.Making as machine
use Rattle.nfs_machine.specs.State.{Content, Regular, Directory, Link, BlockDevice, CharacterDevice, Socket, Fifo}
use Rattle.nfs_machine.specs.State.{octal}
use Rattle.nfs_objects.specs.Stands.{verifier_bytes}
use Rattle.nfs_inodes.specs.declared.new_objects.NewContent.{NewContent}
use Rattle.nfs_inodes.specs.declared.new_objects.NewContent.TheVariants as new
use Rattle.nfs_inodes.specs.declared.new_objects.Wanted.{Wanted}

-- what a new object contains: a file zeros, and a directory no entry, where "." and ".." have the cookies 1 and 2
abbrev pub content_asked : NewContent → Content
content_asked (new.Regular size) = Regular (replicate size 0)
content_asked new.Directory = Directory [] 2
content_asked (new.Link text) = Link text.now
content_asked (new.BlockDevice device) = BlockDevice device
content_asked (new.CharacterDevice device) = CharacterDevice device
content_asked new.Socket = Socket
content_asked new.Fifo = Fifo

-- its mode where none is given
abbrev pub mode_asked : NewContent → ℕ
mode_asked new.Directory = octal 7 5 5
mode_asked (new.Link text) = octal 7 7 7
mode_asked content = octal 6 4 4

abbrev pub wanted_as : Wanted → machine.Wanted
wanted_as wanted = record {
  mode = mode_asked wanted.content;
  content = content_asked wanted.content;
  attributes = wanted.attributes;
  verifier = verifier_bytes wanted.verifier;
}

abbrev pub asked_as : Result Wanted NfsStatus → Result machine.Wanted NfsStatus
asked_as asked = elim asked [ Ok wanted ↦ Ok (wanted_as wanted) | Err e ↦ Err e ]
