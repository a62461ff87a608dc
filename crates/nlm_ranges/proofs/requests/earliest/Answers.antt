use Rattle.std.proofs.Common.{◌<◌, arith, length}
use Rattle.std.specs.Arc.{arc_value}
use Rattle.nlm_ranges.proofs.PieceLemmas.{found-in}
use Rattle.nlm_ranges.proofs.requests.earliest.Goals as goal
use Rattle.nlm_ranges.specs.Requests.{goes}

pub returns-in-Some-clause-some : goal.returns-in-Some-clause-some
returns-in-Some-clause-some c =
    let within : c.loop-batch.batch-index < length c.args.batches.now = omega arith in
    found-in c.args.batches.now c.loop-batch.batch-index c.batch-item.result within c.batch-item.is
    (goes c.args.going) c.loop-batch.invariant (arc_value c.in-Some.request.now) c.in-Some.ensures.some
