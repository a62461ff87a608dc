-- The part, the pool and the runtime are shared by all callers.
use denote.Param.{param}
use denote.Param.Send.{sendable}
use Rattle.std.proofs.Crossing.{crosses}
use Rattle.nfs_pool.proofs.CrossingLemmas.{pool_sync}
use Rattle.pool_tests.proofs.tests.pools.act_beside.Goals as goal

pub for_each_mut-requires-sync-F : goal.for_each_mut-requires-sync-F
for_each_mut-requires-sync-F g c κs within =
    let part = c.type_bounds.sync-P in let rt = c.type_bounds.sync-R in
    let pool = pool_sync (param 1 g.row.L) g.L.Ledger g.L.Naming c.type_bounds.send-L c.type_bounds.sync-L in
    search (sendable, crosses) depth 20
