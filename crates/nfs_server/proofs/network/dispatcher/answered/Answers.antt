use Rattle.std.proofs.Common.{◌≡◌, IfErr, IfOk, subst}
use Rattle.nfs_machine.specs.Run.{Arrival}
use Rattle.nfs_server.specs.AnswersTo.{IsAnswerTo, IsTold}
use Rattle.nfs_server.proofs.network.dispatcher.answered.Goals as goal

pub returns-in-Ok : goal.returns-in-Ok
returns-in-Ok g c = λ n r told back.
    c.answer_to.ensures n r (subst (λ submitted. IfOk submitted (IsTold n r c.args.seat.now)) c.in-Ok.is told)

pub returns-in-Err : goal.returns-in-Err
returns-in-Err g c = λ n r told back.
    subst (λ (x : Arrival). IfOk c.refuse.result (IsAnswerTo n x))
    (subst (λ submitted. IfErr submitted (λ b. b.received ≡ r)) c.in-Err.is back) (c.refuse.ensures n)
