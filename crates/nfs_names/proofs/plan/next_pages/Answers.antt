use Rattle.nfs_names.proofs.NamePlanLemmas.{wishes-wanted}
use Rattle.nfs_names.proofs.plan.next_pages.Goals as goal

pub returns-in-Some : goal.returns-in-Some
returns-in-Some c = wishes-wanted c.args.draft.now c.in-Some.asked c.in-Some.ensures c.args.call.now
