use Rattle.std.proofs.Common.{ap, ◌∙◌}
use Rattle.std.proofs.lemmas.Result.{err_from_is_err_and}
use Rattle.side_wire.specs.declared.mount.MountCall.TheVariants as mount
use Rattle.nfs_machine.specs.declared.context.Ctx.{Ctx}
use Rattle.nfs_mount.proofs.MountListLemmas.{all-unmounted-promised, stopped}
use Rattle.nfs_mount.proofs.unmount.attempt_all.Goals as goal

pub returns-in_err-take_mounts-clause-ends : goal.returns-in_err-take_mounts-clause-ends
returns-in_err-take_mounts-clause-ends c =
    let p = err_from_is_err_and c.from_residual.result c.from_residual.ensures.1 in
    rw (p.1, p.2) (stopped c.args.draft mount.UnmountAll c.requires _ c.in_err-take_mounts.ensures.takes)

pub returns-clause-ends : goal.returns-clause-ends
returns-clause-ends c =
    rw c.answer.ensures.value
    (all-unmounted-promised c.args.draft c.as_slice-host.result
    (c.as_slice-host.ensures ∙ ap (λ (x : Ctx). x.host) c.ctx.ensures) c.take_mounts.new.draft c.requires
    c.in_ok-take_mounts.ensures.takes c.answer.ensures.held c.answer.ensures.given)
