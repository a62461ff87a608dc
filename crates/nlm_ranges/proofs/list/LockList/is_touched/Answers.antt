use Rattle.std.proofs.Common.{ap, ◌∙◌}
use Rattle.std.specs.List.{list_any}
use Rattle.nlm_ranges.proofs.PieceLemmas.{any-joined}
use Rattle.nlm_ranges.proofs.list.LockList.is_touched.Goals as goal
use Rattle.nlm_ranges.specs.Cutting.{is_touched, joined}

pub returns : goal.returns
returns c =
    let touched = is_touched c.args.range.now in
    c.any_touched.ensures ∙ any-joined touched c.deref.result.now
    ∙ ap (λ ps. list_any touched (joined ps)) c.deref.ensures.value ∙ ap (list_any touched) c.self.view_is
