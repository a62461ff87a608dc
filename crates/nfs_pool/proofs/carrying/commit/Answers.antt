use Rattle.nfs_pool.proofs.ReadsOnLemmas.{made_next}
use Rattle.nfs_pool.proofs.carrying.commit.Goals as goal

pub returns-in-None-clause-comes : goal.returns-in-None-clause-comes
returns-in-None-clause-comes g c =
    made_next c.args.finished c.into_parts-finished.result.0 c.args.driver.now.last c.args.mine.now.amount
    c.commit.new.mine.amount c.in-Ok.receipt c.into_parts-finished.ensures.finished c.in-Ok.ensures.receipt
    c.in-Ok.ensures.counted
