use Rattle.nfs_pool.proofs.ReceiptNumberLemmas.{if_missing-weaker}
use Rattle.nfs_pool.proofs.pool.Pool.finish.Goals as goal

pub returns-in-Err-clause-missing : goal.returns-in-Err-clause-missing
returns-in-Err-clause-missing g c = if_missing-weaker c.in-Err.error _ _
    (λ told count. (c.into_inner-desk.result.book, c.close_era.ensures.run, told count)) c.in-Err.ensures.missing

pub returns-in-Ok-clause-era : goal.returns-in-Ok-clause-era
returns-in-Ok-clause-era g c = (c.into_inner-desk.result.book, rw c.into_book.ensures c.in-Ok.ensures.era)
