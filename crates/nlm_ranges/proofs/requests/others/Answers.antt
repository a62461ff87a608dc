use Rattle.std.proofs.Common.{◌<◌, ◌++◌, ap, arith, length, not, sym, ◌∙◌}
use Rattle.nfs_machine.specs.FileLists.{all_but}
use Rattle.nfs_machine.specs.State.{Request}
use Rattle.nlm_ranges.proofs.PieceLemmas.{next-left}
use Rattle.nlm_ranges.proofs.requests.others.Goals as goal
use Rattle.nlm_ranges.specs.Requests.{goes}

pub loop-batch-preserved : goal.loop-batch-preserved
loop-batch-preserved c =
    let within : c.loop-batch.batch-index < length c.args.batches.now = omega arith in
    c.in_ok-add_others.ensures
    ∙ ap (λ rs. rs ++ all_but (goes c.args.going) c.batch-item.result) c.loop-batch.invariant
    ∙ sym (next-left c.args.batches.now c.loop-batch.batch-index c.batch-item.result within c.batch-item.is
    (λ (r : Request). not (goes c.args.going r)))
