-- What ACCESS looks at of an object's content (RFC 1813, 3.3.4): whether it is a directory.
use Rattle.std.specs.Prelude.{[]}
use Rattle.nfs_machine.specs.State.{Content, Directory}

-- any directory
abbrev pub empty_directory : Content
empty_directory = Directory [] 0
