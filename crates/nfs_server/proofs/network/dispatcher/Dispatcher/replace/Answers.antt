-- Exports that are told to be applied have their receipt.
use Rattle.std.proofs.Common.{Result, ap, subst}
use Rattle.std.specs.Prelude.{IfOk}
use Rattle.nfs_machine.specs.Run.{Arrival}
use Rattle.nfs_engine.specs.Arrivals.{ArrivalValue}
use Rattle.nfs_pool.specs.declared.sent.Sent.{Sent}
use Rattle.nfs_server.specs.AnswersTo.{HasReceipt, IsTold}
use Rattle.nfs_server.specs.Control.{is_executed}
use Rattle.nfs_server.proofs.network.dispatcher.Dispatcher.replace.Goals as goal

pub returns : goal.returns
returns g c = λ is. record {
  moment = c.moment-moment.result;
  seat = c.submit-permit.result.0.seat;
  has =
      subst (λ (r : Arrival). HasReceipt c.args.self.now.last r c.submit-permit.result.0.seat)
      (ap (λ (a : ArrivalValue). a.received) c.in-Ok.ensures)
      (subst
      (λ (submitted : Result Sent ArrivalValue). IfOk submitted
      (IsTold c.args.self.now.last c.in-Ok.arrival.received c.submit-permit.result.0.seat))
      (c.outcome_of-outcome.ensures.0 (ap is_executed is)) c.submit-permit.ensures.told);
}
