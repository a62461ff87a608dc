-- What was read of arguments before their byte strings are shared.
use Rattle.nfs_xdr.specs.Types.{Value}
use Rattle.nfs_wire.specs.Arguments.{diropargs3}
use Rattle.nfs_wire.specs.declared.calls.items.DirOpParts.{DirOpParts}

-- a name in a directory
abbrev pub place_parts_value : DirOpParts → Value diropargs3
place_parts_value place = (place.directory, place.name)
