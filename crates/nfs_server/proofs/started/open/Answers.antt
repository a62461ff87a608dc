use Rattle.nfs_server.proofs.StartLemmas.{opens_rests}
use Rattle.nfs_server.proofs.started.open.Goals as goal

pub returns-in-Ok-clause-rest : goal.returns-in-Ok-clause-rest
returns-in-Ok-clause-rest c = opens_rests _ _ c.in-Ok.ensures.opens c.in-Ok.ensures.free
