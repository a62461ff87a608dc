use Rattle.std.proofs.Common.{ap, ◌∙◌}
use Rattle.nfs_objects.specs.Values.{new_draft}
use Rattle.nfs_data.proofs.DataPlanLemmas.{begun, goes-on}
use Rattle.nfs_data.proofs.plan.next.Goals as goal

pub go_on-requires : goal.go_on-requires
go_on-requires c =
    begun c.args.call.now c.in-Nfs.nfs c.args.ctx.now c.args.view.now c.new-draft.result c.in-Nfs.is
    (c.new-draft.ensures ∙ ap (new_draft c.args.ctx.now c.args.view.now) c.of.ensures)

pub returns : goal.returns
returns c =
    goes-on c.args.call.now c.in-Nfs.nfs c.args.ctx.now c.args.view.now c.new-draft.result c.in-Nfs.is
    (c.new-draft.ensures ∙ ap (new_draft c.args.ctx.now c.args.view.now) c.of.ensures) c.go_on.result c.go_on.ensures
