use Rattle.std.proofs.Common.{ap, sym, ◌∙◌}
use Rattle.std.proofs.lemmas.Result.{err_from_is_err_and}
use Rattle.nfs_engine.specs.Arrivals.{ArrivalValue}
use Rattle.nfs_engine.proofs.arrival.Arrival.prepare.Goals as goal

pub returns-in_err-new-in-Ok : goal.returns-in_err-new-in-Ok
returns-in_err-new-in-Ok c =
    let p = err_from_is_err_and c.from_residual.result c.from_residual.ensures.1 in
    rw (p.1, p.2)
    (c.in_err-new-in-Ok.ensures.back ∙ sym c.in-Ok.ensures.0, _, ap (λ (a : ArrivalValue). a.reading) c.in-Ok.ensures.0)
