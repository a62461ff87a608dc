use Rattle.std.proofs.Common.{◌∙◌, ap}
use Rattle.nfs_engine.specs.Calls.{txn_of}
use Rattle.nfs_schedule.proofs.WorkerStepLemmas.{commit_fails, committed}
use Rattle.nfs_schedule.proofs.model.worker.commit.Goals as goal

pub returns-in-Ok : goal.returns-in-Ok
returns-in-Ok c =
    committed _ _ _ _ _ _ c.requires c.in-Ok.ensures.others c.in-Ok.ensures.leaving c.in-Ok.ensures.release (record {
      commits = c.in-Ok.ensures.commits;
      keeps = c.in-Ok.ensures.keeps;
      step = c.in-Ok.ensures.step;
      leads = c.in-Ok.ensures.leads;
      receipt_is = c.in-Ok.ensures.receipt;
    }) c.show_finished.ensures.called

pub returns-in-Err : goal.returns-in-Err
returns-in-Err c =
    commit_fails _ _ _ _ c.in-Err.ensures.err.1 (c.into_txn.ensures ∙ ap txn_of c.in-Err.ensures.err.0) c.requires
