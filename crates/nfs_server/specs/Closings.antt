-- Why a connection is closed over which a read or a write failed.
use Rattle.std.specs.Prelude.{if◌then◌else◌}
use Rattle.std.specs.declared.io.ErrorKind.{ErrorKind}
use Rattle.std.specs.declared.io.ErrorKind.TheVariants.{ConnectionAborted, ConnectionReset, TimedOut, WouldBlock}
use Rattle.nfs_server.specs.Stages.{is_between}
use Rattle.nfs_server.specs.declared.network.dispatcher.Closed.{Closed}
use Rattle.nfs_server.specs.declared.network.dispatcher.Closed.TheVariants.{Failed, GaveWay, Late, Left}
use Rattle.nfs_server.specs.declared.patience.Watch.{Watch}

-- by an error of this kind
abbrev pub closed_of : ErrorKind → Closed
closed_of TimedOut = Late
closed_of WouldBlock = Late
closed_of ConnectionAborted = GaveWay
closed_of kind = Failed

-- by one of a read; where no record has begun a reset is the peer's end
abbrev pub closed_reading : ErrorKind → Watch → Closed
closed_reading ConnectionReset watch = if is_between watch.stage then Left else Failed
closed_reading kind watch = closed_of kind
