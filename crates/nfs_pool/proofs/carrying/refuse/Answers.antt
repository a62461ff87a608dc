use Rattle.std.proofs.Common.{refl, subst}
use Rattle.nfs_machine.specs.Run.{Arrival}
use Rattle.nfs_schedule.specs.Answers.{IsDeclined}
use Rattle.nfs_pool.proofs.carrying.refuse.Goals as goal

pub returns : goal.returns
returns c = (
  c.decline.result,
  refl,
  subst (λ (r : Arrival). IsDeclined r c.decline.result) c.into_parts-received.ensures.received
      c.decline.ensures.declined,
)
