use Rattle.std.proofs.Common.{◌≡◌, ◌==◌, ◌<◌, List, ap, arith, false, length, rules, sym, true, ◌∙◌}
use Rattle.std.specs.Cmp.{unsigned_Decides}
use Rattle.nfs_machine.specs.State.{Request}
use Rattle.nlm_ranges.proofs.PieceLemmas.{counted, none-joined, some-joined}
use Rattle.nlm_ranges.proofs.requests.are_empty.Goals as goal

pub returns-then-not-is_empty : goal.returns-then-not-is_empty
returns-then-not-is_empty c =
    let within : c.loop-batch.batch-index < length c.args.batches.now = omega arith in
    let unset : c.is_empty.result ≡ false = search rules in
    sym (some-joined c.args.batches.now c.loop-batch.batch-index c.batch-item.result within c.batch-item.is
    (counted c.batch-item.result
    (ap (λ (rs : List Request). length rs == 0) (sym c.requests.ensures) ∙ sym c.is_empty.ensures ∙ unset)))

pub loop-batch-preserved : goal.loop-batch-preserved
loop-batch-preserved c =
    let within : c.loop-batch.batch-index < length c.args.batches.now = omega arith in
    let set : c.is_empty.result ≡ true = search rules in
    none-joined c.args.batches.now c.loop-batch.batch-index c.batch-item.result within c.batch-item.is
    ((unsigned_Decides (length c.batch-item.result) 0).0
    (ap (λ (rs : List Request). length rs == 0) (sym c.requests.ensures) ∙ sym c.is_empty.ensures ∙ set))
    c.loop-batch.invariant
