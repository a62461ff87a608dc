use Rattle.std.proofs.lemmas.Result.{err_from_is_err_and}
use Rattle.nlm_daemon.proofs.filing.put.Goals as goal

pub returns-in_err-set_locks : goal.returns-in_err-set_locks
returns-in_err-set_locks c =
    let p = err_from_is_err_and c.from_residual-in_err-set_locks.result c.from_residual-in_err-set_locks.ensures.1 in
    rw (p.1, p.2) (rw c.in_ok-file.ensures at c.in_err-set_locks.ensures)

pub returns : goal.returns
returns c = rw c.in_ok-file.ensures at c.in_ok-set_locks.ensures
