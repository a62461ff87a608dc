use Rattle.nfs_schedule.proofs.CallAloneLemmas.{ends_executed, rests_committed}
use Rattle.nfs_schedule.proofs.executing.commit.Goals as goal

pub returns-in-None-clause-rest : goal.returns-in-None-clause-rest
returns-in-None-clause-rest c =
    rests_committed _ _ _ _ _ _ c.requires.lives c.requires.alone (record {
      commits = c.in-Ok.ensures.commits;
      keeps = c.in-Ok.ensures.keeps;
      step = c.in-Ok.ensures.step;
      leads = c.in-Ok.ensures.leads;
      receipt_is = c.in-Ok.ensures.receipt;
    }) c.in-None.ensures

pub returns-in-None-clause-ends : goal.returns-in-None-clause-ends
returns-in-None-clause-ends c =
    ends_executed _ _ _ _ _ _ c.requires.few (record {
      commits = c.in-Ok.ensures.commits;
      keeps = c.in-Ok.ensures.keeps;
      step = c.in-Ok.ensures.step;
      leads = c.in-Ok.ensures.leads;
      receipt_is = c.in-Ok.ensures.receipt;
    }) c.in-None.ensures
