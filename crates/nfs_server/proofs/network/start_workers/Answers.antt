-- A dispatcher and the other end of the jobs go to each worker's thread.
use denote.Param.{copied, param}
use denote.Param.Send.{sendable}
use Rattle.std.proofs.Crossing.{crosses}
use Rattle.crossbeam_channel.proofs.channel.Receiver.TheSendSync as receiver
use Rattle.nfs_server.proofs.CrossingLemmas.{dispatcher_send}
use Rattle.nfs_server.proofs.network.jobs.Job.TheSendSync as job
use Rattle.nfs_server.proofs.network.start_workers.Goals as goal

pub spawn-requires-send-F : goal.spawn-requires-send-F
spawn-requires-send-F g c κs within =
    let rt = c.type_bounds.send-R in
    let dispatcher =
    dispatcher_send (param 0 g.row.L) g.L.Ledger g.L.Naming c.type_bounds.send-L c.type_bounds.sync-L (copied 1 g.row.R)
    c.type_bounds.send-R in
    search (sendable, crosses, receiver.the_send, job.the_send) depth 20
