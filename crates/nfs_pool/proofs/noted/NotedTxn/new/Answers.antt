use Rattle.nfs_pool.proofs.NotesBesideLemmas.{none-noted}
use Rattle.nfs_pool.proofs.noted.NotedTxn.new.Goals as goal

pub invariant_of-result : goal.invariant_of-result
invariant_of-result g c = none-noted c.new.result c.args.txn.view.entries c.new.ensures
