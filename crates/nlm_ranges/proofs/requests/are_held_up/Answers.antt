use Rattle.std.proofs.Common.{◌≡◌, ◌<◌, arith, length, rules, subst, sym, take, true}
use Rattle.std.specs.List.{AllByRecursion}
use Rattle.nfs_machine.specs.OneFile.{IsHeldUp}
use Rattle.nfs_machine.proofs.ModesLemmas.{all-joined}
use Rattle.nlm_ranges.proofs.PieceLemmas.{next-joined}
use Rattle.nlm_ranges.proofs.requests.are_held_up.Goals as goal
use Rattle.nlm_ranges.specs.Cutting.{joined}

pub loop-batch-preserved : goal.loop-batch-preserved
loop-batch-preserved c =
    let within : c.loop-batch.batch-index < length c.args.batches.now = omega arith in
    let set : c.are_held_up.result ≡ true = search rules in
    subst (AllByRecursion (IsHeldUp c.args.locks.now))
    (sym (next-joined c.args.batches.now c.loop-batch.batch-index c.batch-item.result within c.batch-item.is))
    (all-joined (IsHeldUp c.args.locks.now) (joined (take c.loop-batch.batch-index c.args.batches.now))
    c.batch-item.result c.loop-batch.invariant (c.are_held_up.ensures set))
