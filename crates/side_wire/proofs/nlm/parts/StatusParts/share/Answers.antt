use Rattle.std.proofs.lemmas.Result.{err_from_is_err_and}
use Rattle.side_wire.proofs.nlm.parts.StatusParts.share.Goals as goal

pub returns-in_err-share-in-Denied : goal.returns-in_err-share-in-Denied
returns-in_err-share-in-Denied c =
    let answered = err_from_is_err_and c.from_residual.result c.from_residual.ensures.1 in
    rw (c.in-Denied.is, answered.1, answered.2) c.in_err-share-in-Denied.ensures
