use Rattle.std.proofs.Common.{ap, ◌∙◌}
use Rattle.std.specs.List.{list_any}
use Rattle.nlm_ranges.proofs.PieceLemmas.{any-joined}
use Rattle.nlm_ranges.proofs.requests.RequestList.has.Goals as goal
use Rattle.nlm_ranges.specs.Cutting.{joined}
use Rattle.nlm_ranges.specs.Requests.{goes}

pub returns : goal.returns
returns c =
    let one = goes c.args.going in
    c.any_of.ensures ∙ any-joined one c.deref.result.now
    ∙ ap (λ bs. list_any one (joined bs)) c.deref.ensures.value ∙ ap (list_any one) c.self.view_is
