use Rattle.nfs_server.proofs.AnswersToLemmas.{told_along}
use Rattle.nfs_server.proofs.network.dispatcher.Dispatcher.submit.Goals as goal

pub returns-in-Ok-clause-told : goal.returns-in-Ok-clause-told
returns-in-Ok-clause-told g c =
    told_along c.args.self.now.last c.eras.arrival.received c.args.arrival.received c.eras.invariant.0
    c.submit.new.permit.seat c.in-Ok.sent
    c.in-Ok.ensures.told
