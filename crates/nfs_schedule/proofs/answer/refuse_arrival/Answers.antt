use Rattle.std.proofs.Common.{subst}
use Rattle.nfs_machine.specs.Run.{Arrival}
use Rattle.nfs_schedule.proofs.RefusedRecordLemmas.{refuses_to}
use Rattle.nfs_schedule.specs.Answers.{IsRefused}
use Rattle.nfs_schedule.proofs.answer.refuse_arrival.Goals as goal

pub returns : goal.returns
returns c = λ asked is.
    refuses_to _ _ _ asked _ c.into_parts-received.ensures.reading c.in-Asks.is is
    (subst (λ (r : Arrival). IsRefused r c.in-Asks.asked c.refuse.result) c.into_parts-received.ensures.received
    c.refuse.ensures)
