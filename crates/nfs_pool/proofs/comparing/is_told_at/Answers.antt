use Rattle.std.proofs.Common.{◌+◌, map, refl}
use Rattle.nfs_engine.specs.Arrivals.{shared_value}
use Rattle.nfs_pool.specs.Eras.{told}
use Rattle.nfs_pool.proofs.ReceiptNumberLemmas.{at_map, past_map, told_nowhere, told_there}
use Rattle.nfs_pool.proofs.comparing.is_told_at.Goals as goal

pub returns-in-Some : goal.returns-in-Some
returns-in-Some c =
    told_there (map told c.args.list.now) c.args.at (c.args.before + c.args.place + 1)
    (shared_value c.args.executed.now) (told c.in-Some.receipt.now) c.is_told_by.result
    (at_map told c.args.list.now c.args.at c.in-Some.receipt.now (map told c.args.list.now) refl
    c.in-Some.ensures.lookup.3.0 c.in-Some.ensures.lookup.1)
    c.is_told_by.ensures

pub returns-in-None : goal.returns-in-None
returns-in-None c =
    told_nowhere (map told c.args.list.now) c.args.at (c.args.before + c.args.place + 1)
    (shared_value c.args.executed.now)
    (past_map told c.args.list.now c.args.at (map told c.args.list.now) refl c.in-None.ensures.lookup.3)
