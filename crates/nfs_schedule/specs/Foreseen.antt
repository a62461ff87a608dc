-- What a call will ask for first.
use Rattle.std.specs.Prelude.{Option, None, option_map, slice_get}
use Rattle.std.specs.Option.{option_and_then}
use Rattle.nfs_machine.specs.Handles.{handle_of}
use Rattle.nfs_machine.specs.declared.calls.Call.{Call}
use Rattle.nfs_machine.specs.declared.calls.Call.TheVariants as calls
use Rattle.nfs_machine.specs.declared.handle.Handle.{Handle}
use Rattle.nfs_wire.specs.Handles.{nfs_handles}
use Rattle.nfs_objects.specs.Modes.{modes_of}
use Rattle.nfs_objects.specs.declared.address.Addr.{Addr}
use Rattle.nfs_objects.specs.declared.address.Addr.TheVariants as addresses
use Rattle.nfs_objects.specs.declared.modes.Mode.{Mode}

-- what a handle names, in this mode
abbrev pub object_in : Mode → Handle → Addr × Mode
object_in mode h = (addresses.Inode h.fileid, mode)

-- what a call of NFS reads after the exports and before all else, where it has a handle
abbrev pub foreseen : Call → Option (Addr × Mode)
foreseen (calls.Nfs call) = option_map (object_in (modes_of (calls.Nfs call)).inodes)
    (option_and_then handle_of (slice_get (nfs_handles call) 0))
foreseen call = None
