use Rattle.std.proofs.Common.{sym, subst, None}
use Rattle.nfs_schedule.proofs.WorkerStepLemmas.{released_all, released_more, released_to}
use Rattle.nfs_schedule.specs.Turns.{IsTurnOf}
use Rattle.nfs_schedule.specs.declared.model.worker.Worker.{Worker}
use Rattle.nfs_schedule.specs.declared.model.worker.Worker.TheVariants.{Leaving}
use Rattle.nfs_schedule.proofs.model.worker.let_go.Goals as goal

pub returns-in-More : goal.returns-in-More
returns-in-More c = released_more _ _ _ _ c.in-More.ensures.others c.in-More.ensures.book _ c.in-More.ensures.next

pub returns-in-Aborted : goal.returns-in-Aborted
returns-in-Aborted c =
    subst (λ (v : Worker). IsTurnOf c.args.engine.now c.release.new.self 0 (Leaving c.args.release c.args.afterwards)
    v None)
    (sym c.begin_again.ensures)
    (released_to _ _ _ _ c.in-Aborted.ensures.others c.in-Aborted.ensures.book c.requires _ c.in-Aborted.ensures.next)

pub returns-in-Ended : goal.returns-in-Ended
returns-in-Ended c = released_all _ _ _ _ c.in-Ended.ensures.others c.in-Ended.ensures.book c.in-Ended.ensures.next
