use Rattle.std.proofs.Common.{ℕ, ◌-◌, ◌^◌, ◌∙◌, List, ap, arith, length, min, sum_by}
use Rattle.std.proofs.lemmas.List.{take_all}
use Rattle.nfs_engine.proofs.SaturatingSumLemmas.{sum-more}
use Rattle.nfs_engine.proofs.lengths.texts_size.Goals as goal

pub loop-text-preserved : goal.loop-text-preserved
loop-text-preserved c = c.saturating_add-size.ensures ∙ sum-more length c.args.texts.now c.loop-text.text-index
    c.text-item.result _ _ (omega arith) c.text-item.is c.loop-text.invariant (omega arith)

pub returns : goal.returns
returns c = c.loop-text.invariant ∙ ap (λ (ts : List (List ℕ)). min (sum_by length ts) (2 ^ 64 - 1))
    (take_all c.loop-text.text-index c.args.texts.now (omega arith))
