use Rattle.std.proofs.Common.{ℕ, List, ap, ◌∙◌}
use Rattle.nfs_machine.specs.Run.{FromHost}
use Rattle.nfs_server.proofs.AnswersToLemmas.{record_answered}
use Rattle.nfs_server.proofs.network.dispatcher.Dispatcher.answer.Goals as goal

pub returns-after-may_have_posted-clause-answers : goal.returns-after-may_have_posted-clause-answers
returns-after-may_have_posted-clause-answers g c =
    record_answered c.args.self.now.last c.args.host.now c.args.message c.moment-moment.result
    c.in-Ok-read.arrival.received
    (c.in-Ok-read.ensures.received
    ∙ ap (λ (h : List ℕ). FromHost (record { host = h; bytes = c.args.message; moment = c.moment-moment.result }))
    c.in-Ok.ensures)
    c.execute-permit.result.1 c.execute-permit.ensures.answers
