-- The reader and the attendance go to the connection's thread.
use denote.Param.{copied, param}
use denote.Param.Send.{sendable}
use Rattle.std.proofs.Crossing.{crosses}
use Rattle.nfs_server.proofs.CrossingLemmas.{reader_send}
use Rattle.nfs_server.proofs.network.connection_count.ConnectionCount.TheSendSync as connection_count
use Rattle.nfs_server.proofs.network.peer.Socket.TheSendSync as socket
use Rattle.nfs_server.specs.contracts.network.peer.Socket as Socket
use Rattle.nfs_server.proofs.network.listening.start.Goals as goal

pub spawn-requires-send-F : goal.spawn-requires-send-F
spawn-requires-send-F g c κs within =
    let rt = c.type_bounds.send-R in
    let reader =
    reader_send (param 1 g.row.L) g.L.Ledger g.L.Naming c.type_bounds.send-L c.type_bounds.sync-L (copied 0 g.row.R)
    Socket.the_row c.type_bounds.send-R socket.the_send in
    search (sendable, crosses, connection_count.the_send, connection_count.the_sync) depth 20
