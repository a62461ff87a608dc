use Rattle.nfs_server.proofs.network.dispatcher.Dispatcher.execute.Goals as goal

pub returns-clause-answers : goal.returns-clause-answers
returns-clause-answers g c =
    c.answered-answered.ensures c.args.self.now.last c.args.arrival.received c.submit-permit.ensures.told
    c.submit-permit.ensures.back
