use Rattle.std.proofs.Common.{◌≡◌, arith, subst}
use Rattle.std.proofs.lemmas.Result.{err_from_is_err_and}
use Rattle.nfs_inodes.proofs.UsageTotalsLemmas.{IsTotal, group-stops, not-empty, total-all, total-more, total-none}
use Rattle.nfs_inodes.proofs.UsageTotalsLemmas.{unread-asks}
use Rattle.nfs_inodes.proofs.usage.export_usage.Goals as goal

pub returns-then-not-is_empty : goal.returns-then-not-is_empty
returns-then-not-is_empty c =
    unread-asks c.args.draft.now c.args.export c.in_ok-unread.unread.items c.in_ok-unread.ensures
    (not-empty c.in_ok-unread.unread.items _ c.in_ok-unread.unread.ok.0 c.if-not-is_empty.ensures)

pub loop-group-init : goal.loop-group-init
loop-group-init c = total-none c.args.draft.now c.args.export c.none-total.result c.none-total.ensures

pub returns-in_err-usage : goal.returns-in_err-usage
returns-in_err-usage c =
    let p = err_from_is_err_and c.from_residual-in_err-usage.result c.from_residual-in_err-usage.ensures.1 in
    rw (p.1, p.2)
    (group-stops c.args.draft.now c.args.export c.loop-group.group _ c.loop-group-test.true c.in_err-usage.ensures)

pub loop-group-preserved : goal.loop-group-preserved
loop-group-preserved c =
    total-more c.args.draft.now c.args.export c.loop-group.group c.loop-group.total c.in_ok-usage.field-0
    c.together-total.result c.loop-group.invariant c.in_ok-usage.ensures c.together-total.ensures

pub returns : goal.returns
returns c =
    total-all c.args.draft.now c.args.export c.loop-group.total
    (subst (λ n. IsTotal c.args.draft.now c.args.export n c.loop-group.total)
    (let whole : c.loop-group.group ≡ 64 = omega arith in whole) c.loop-group.invariant)
