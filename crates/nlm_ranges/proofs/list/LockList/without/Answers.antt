use Rattle.std.proofs.Common.{◌+◌, ap, subst, sym, ◌∙◌}
use Rattle.std.specs.List.{flat_map}
use Rattle.nlm_ranges.proofs.CutLocksLemmas.{given-anew-as, given-cut}
use Rattle.nlm_ranges.proofs.list.LockList.without.Goals as goal
use Rattle.nlm_ranges.specs.Cutting.{cut, joined}
use Rattle.nlm_ranges.specs.Held.{IsGivenBack}

pub returns-in_default : goal.returns-in_default
returns-in_default c =
    let range = c.args.range.now in
    let left = c.in_ok-pieces.ensures ∙ ap (λ ps. flat_map (cut range) (joined ps)) c.deref.ensures.value
    ∙ ap (flat_map (cut range)) c.self.view_is in
    subst (IsGivenBack c.args.self.now range) (sym left) (given-cut c.args.self.now range c.last-last.ensures.rises)

pub returns : goal.returns
returns c =
    let range = c.args.range.now in
    let wide = c.between-wide.result in
    let left = ap joined c.deref-3.ensures.value ∙ c.in_ok-rest.ensures
    ∙ ap (λ ps. flat_map (cut wide) (joined ps)) c.deref-2.ensures.value ∙ ap (flat_map (cut wide)) c.self.view_is in
    given-anew-as c.args.self.now range c.last-last.ensures.rises c.in-Some.behind.now c.in-Some.ensures wide
    c.between-more.result c.is_exclusive.result (joined c.deref-3.result.now) _
    (c.between-wide.ensures
    ∙ (λ i. record { owner = range.owner; first = c.first.ensures i; last = c.last.ensures i }))
    (c.between-more.ensures
    ∙ (λ i. record { owner = range.owner; first = c.last-2.ensures.last i + 1; last = c.last-3.ensures i }))
    c.is_exclusive.ensures left c.in_ok-pieces-2.ensures
