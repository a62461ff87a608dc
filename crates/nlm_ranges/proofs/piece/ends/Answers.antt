use Rattle.std.proofs.Common.{◌<◌, arith, length}
use Rattle.nlm_ranges.proofs.PieceLemmas.{ends-more}
use Rattle.nlm_ranges.proofs.piece.ends.Goals as goal

pub loop-lock-preserved : goal.loop-lock-preserved
loop-lock-preserved c =
    let within : c.loop-lock.lock-index < length c.args.locks.now = omega arith in
    ends-more c.args.locks.now c.loop-lock.lock-index c.lock-item.result within c.lock-item.is c.loop-lock.ends
    c.widened-ends.result c.widened-ends.ensures.first c.widened-ends.ensures.last c.widened-ends.ensures.lock
    c.loop-lock.invariant
