use Rattle.std.proofs.Common.{subst}
use Rattle.nfs_machine.specs.declared.calls.Call.TheVariants as calls
use Rattle.nfs_names.proofs.NamePlanLemmas.{need-wanted}
use Rattle.nfs_names.specs.Plans.{MayHalt}
use Rattle.nfs_names.proofs.plan.rest.Goals as goal

pub returns-in-Err-Need : goal.returns-in-Err-Need
returns-in-Err-Need c =
    need-wanted c.args.call.now c.args.draft.now c.in-Err-Need.asked c.requires
    (subst (λ halt. MayHalt (calls.Nfs c.args.call.now) c.args.draft.now halt) c.in-Err-Need.field-0-is
    c.in-Err-Need.ensures)
