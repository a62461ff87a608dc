use Rattle.std.proofs.Common.{refl, []}
use Rattle.std.proofs.lemmas.Result.{err_from_is_err_and}
use Rattle.nfs_streams.proofs.ServingLoopLemmas.{left_fails, put_adds, put_fails}
use Rattle.nfs_streams.proofs.serving.serve_record.Goals as goal

pub returns-in-Ok-clause-adds : goal.returns-in-Ok-clause-adds
returns-in-Ok-clause-adds g c =
    put_adds _ _ _ _ _ _ _ _ _ _ _ _ _ c.put.result c.put.ensures.puts refl c.in-Ok.ensures.ok

pub returns-in-Ok-clause-fails : goal.returns-in-Ok-clause-fails
returns-in-Ok-clause-fails g c =
    put_fails _ _ _ _ _ _ _ _ _ _ [] _ _ _ c.put.result c.put.ensures.part c.put.ensures.fault refl
    c.in-Ok.ensures.ok

pub returns-in_err-send-in-Err-clause-fails : goal.returns-in_err-send-in-Err-clause-fails
returns-in_err-send-in-Err-clause-fails g c =
    let p = err_from_is_err_and c.from_residual.result c.from_residual.ensures.1 in
    rw (p.1, p.2)
    (left_fails _ _ _ _ _ _ _ _ _ _ _ c.in_err-send-in-Err.ensures.fault.0 c.in_err-send-in-Err.ensures.part
    c.in-Err.ensures.err)

pub returns-in_ok-send-in-Err-clause-fails : goal.returns-in_ok-send-in-Err-clause-fails
returns-in_ok-send-in-Err-clause-fails g c = (c.in_ok-send-in-Err.ensures.written, c.in-Err.ensures.err)
