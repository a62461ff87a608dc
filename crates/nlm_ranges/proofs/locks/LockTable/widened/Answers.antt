use Rattle.std.proofs.Common.{Some, arith, subst, sym}
use Rattle.nlm_ranges.proofs.LockTableLemmas.{widened-from}
use Rattle.nlm_ranges.proofs.locks.LockTable.widened.Goals as goal
use Rattle.nlm_ranges.specs.Held.{IsWidened}

pub between-requires : goal.between-requires
between-requires c =
    let low = c.first_with.ensures.low in
    let high = c.last_with.ensures.high in
    let rises = c.last-last.ensures.rises in
    omega (arith, low, high, rises)

pub returns : goal.returns
returns c =
    subst (IsWidened c.args.self.now c.args.range.now (Some c.args.exclusive)) (sym c.between.ensures)
    (widened-from c.args.self.now c.of_mode-list.ensures.listed c.args.exclusive c.of_mode-list.result.now
    c.of_mode-list.ensures.mode c.of_mode-list.ensures.has c.args.range.now c.first_with.result c.last_with.result
    c.first_with.ensures c.last_with.ensures)
