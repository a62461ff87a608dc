use Rattle.nfs_schedule.proofs.WorkerStepLemmas.{given_up}
use Rattle.nfs_schedule.proofs.model.worker.give_up.Goals as goal

pub returns : goal.returns
returns c =
    given_up _ _ _ _ _ c.requires c.give_up-refused.ensures.gives_up c.give_up-refused.ensures.others
    c.give_up-refused.ensures.shards
    c.refuse.ensures
