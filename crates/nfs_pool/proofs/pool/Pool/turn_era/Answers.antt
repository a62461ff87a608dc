use Rattle.std.proofs.lemmas.Result.{IfErr-weaker, IfOk-weaker}
use Rattle.nfs_pool.proofs.ReceiptNumberLemmas.{if_missing-weaker}
use Rattle.nfs_pool.proofs.pool.Pool.turn_era.Goals as goal

pub returns-clause-era : goal.returns-clause-era
returns-clause-era g c = IfOk-weaker c.close_era.result _ _
    (λ r ends. (c.close_era.new.desk.book, (c.get_mut.result.now.book, ends))) c.close_era.ensures.era

pub returns-clause-missing : goal.returns-clause-missing
returns-clause-missing g c = IfErr-weaker c.close_era.result _ _
    (λ e missing. if_missing-weaker e.0 _ _
    (λ told count. (c.get_mut.result.now.book, c.close_era.ensures.run, told count)) missing)
    c.close_era.ensures.missing
