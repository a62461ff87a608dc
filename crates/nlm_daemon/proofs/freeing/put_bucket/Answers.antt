use Rattle.std.proofs.lemmas.Result.{err_from_is_err_and}
use Rattle.nlm_daemon.proofs.FreeAllDraftLemmas.{own-bucket}
use Rattle.nlm_daemon.proofs.freeing.put_bucket.Goals as goal

pub set_bucket-requires-clause-own : goal.set_bucket-requires-clause-own
set_bucket-requires-clause-own c =
    rw (c.deref.ensures.value, c.in_ok-own.ensures) (own-bucket c.args.index c.args.files.now)

pub returns-in_err-set_bucket : goal.returns-in_err-set_bucket
returns-in_err-set_bucket c =
    let p = err_from_is_err_and c.from_residual-in_err-set_bucket.result c.from_residual-in_err-set_bucket.ensures.1 in
    rw (p.1, p.2) c.in_err-set_bucket.ensures

pub returns : goal.returns
returns c = rw (c.deref.ensures.value, c.in_ok-own.ensures) at c.in_ok-set_bucket.ensures
