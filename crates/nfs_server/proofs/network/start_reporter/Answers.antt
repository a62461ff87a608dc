-- The counts go to the reporter's thread.
use denote.Param.Send.{sendable}
use Rattle.std.proofs.Crossing.{crosses}
use Rattle.nfs_server.proofs.network.counters.Counters.TheSendSync as counters
use Rattle.nfs_server.proofs.network.start_reporter.Goals as goal

pub spawn-requires-send-F : goal.spawn-requires-send-F
spawn-requires-send-F g c κs within =
    let rt = c.type_bounds.send-R in search (sendable, crosses, counters.the_send, counters.the_sync) depth 20
