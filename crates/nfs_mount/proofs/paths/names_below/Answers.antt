use Rattle.std.proofs.Common.{sym, ◌∙◌}
use Rattle.nfs_machine.specs.Paths.{parts}
use Rattle.nfs_mount.proofs.NameFrontLemmas.{behind_all, behind_differs, behind_none, behind_short, behind_some}
use Rattle.nfs_mount.proofs.paths.names_below.Goals as goal

pub returns-in_err-next : goal.returns-in_err-next
returns-in_err-next c =
    let short = behind_short _ _ _ _ c.in-Some.ensures.steps c.in_err-next.ensures.steps.0 in
    rw c.from_residual.ensures (behind_none (parts c.args.export.now) (parts c.args.path.now)
    (sym c.loop-own.invariant.2 ∙ short))

pub returns-then-ne : goal.returns-then-ne
returns-then-ne c =
    let differ = behind_differs _ _ _ _ _ _ c.in-Some.ensures.steps c.in_ok-next.ensures.steps c.if-ne.ensures in
    behind_none (parts c.args.export.now) (parts c.args.path.now) (sym c.loop-own.invariant.2 ∙ differ)

pub returns : goal.returns
returns c =
    let all = behind_all c.loop-own.own-iterator c.loop-own.rest c.in-None.ensures.steps.0 in
    behind_some (parts c.args.export.now) (parts c.args.path.now) c.loop-own.rest (sym c.loop-own.invariant.2 ∙ all)
