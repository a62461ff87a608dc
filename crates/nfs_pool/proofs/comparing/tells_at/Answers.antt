use Rattle.std.proofs.Common.{◌+◌, map, refl}
use Rattle.nfs_engine.specs.Arrivals.{record_value}
use Rattle.nfs_pool.specs.Eras.{told_value}
use Rattle.nfs_pool.proofs.ReceiptNumberLemmas.{at_map, past_map, told_nowhere, told_there}
use Rattle.nfs_pool.proofs.comparing.tells_at.Goals as goal

pub returns-in-Some : goal.returns-in-Some
returns-in-Some c = told_there (map told_value c.args.tells.now) c.args.place (c.args.before + c.args.place + 1)
    (record_value c.args.executed.now) (told_value c.in-Some.tell.now) c.is_told.result
    (at_map told_value c.args.tells.now c.args.place c.in-Some.tell.now (map told_value c.args.tells.now) refl
    c.in-Some.ensures.lookup.3.0 c.in-Some.ensures.lookup.1) c.is_told.ensures

pub returns-in-None : goal.returns-in-None
returns-in-None c = told_nowhere (map told_value c.args.tells.now) c.args.place (c.args.before + c.args.place + 1)
    (record_value c.args.executed.now)
    (past_map told_value c.args.tells.now c.args.place (map told_value c.args.tells.now) refl
    c.in-None.ensures.lookup.3)
