-- The socket, a buffer and the service go to the thread that takes datagrams.
use denote.Param.{param}
use denote.Param.Send.{sendable}
use Rattle.std.proofs.Crossing.{crosses}
use Rattle.std.proofs.net.UdpSocket.TheSendSync as socket
use Rattle.nfs_server.proofs.CrossingLemmas.{service_send}
use Rattle.nfs_server.proofs.network.start_datagrams.Goals as goal

pub spawn-requires-send-F : goal.spawn-requires-send-F
spawn-requires-send-F g c κs within =
    let rt = c.type_bounds.send-R in
    let service = service_send (param 0 g.row.L) g.L.Ledger g.L.Naming c.type_bounds.send-L c.type_bounds.sync-L in
    search (sendable, crosses, socket.the_send, socket.the_sync) depth 20
