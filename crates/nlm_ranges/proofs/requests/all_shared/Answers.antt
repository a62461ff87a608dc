use Rattle.std.proofs.Common.{◌<◌, ◌++◌, ap, arith, length, sym, take, ◌∙◌}
use Rattle.nlm_ranges.proofs.PieceLemmas.{next-joined}
use Rattle.nlm_ranges.proofs.requests.all_shared.Goals as goal
use Rattle.nlm_ranges.specs.Cutting.{joined}

pub loop-batch-preserved : goal.loop-batch-preserved
loop-batch-preserved c =
    let within : c.loop-batch.batch-index < length c.args.batches.now = omega arith in
    c.in_ok-push_shared.ensures ∙ ap (λ rs. rs ++ c.requests.result.now) c.loop-batch.invariant
    ∙ ap (λ rs. joined (take c.loop-batch.batch-index c.args.batches.now) ++ rs) c.requests.ensures
    ∙ sym (next-joined c.args.batches.now c.loop-batch.batch-index c.batch-item.result within c.batch-item.is)
