use Rattle.nfs_schedule.proofs.CallAloneLemmas.{ends_declined, rests_declined}
use Rattle.nfs_schedule.proofs.executing.decline.Goals as goal

pub returns-clause-rest : goal.returns-clause-rest
returns-clause-rest c =
    rests_declined _ _ _ _ _ _ _ c.requires.lives c.requires.alone c.abort-release.ensures.release c.in-Some.ensures
    c.give_up-refused.ensures.gives_up c.give_up-refused.ensures.shards

pub returns-clause-ends : goal.returns-clause-ends
returns-clause-ends c =
    ends_declined _ _ _ _ _ _ _ c.requires.lives c.requires.alone c.abort-release.ensures.release c.in-Some.ensures
    c.give_up-refused.ensures.gives_up c.give_up-refused.ensures.shards _ c.refuse.ensures
