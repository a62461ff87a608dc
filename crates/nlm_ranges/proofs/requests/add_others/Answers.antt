use Rattle.std.proofs.Common.{◌≡◌, ◌++◌, ap, false, rules, sym, ◌∙◌}
use Rattle.nlm_ranges.proofs.PieceLemmas.{all_others}
use Rattle.nlm_ranges.proofs.requests.add_others.Goals as goal
use Rattle.nlm_ranges.specs.Cutting.{joined}
use Rattle.nlm_ranges.specs.Requests.{goes}

pub returns-then-not-has : goal.returns-then-not-has
returns-then-not-has c =
    let unset : c.has.result ≡ false = search rules in
    c.in_ok-add_batch.ensures
    ∙ ap (λ rs. joined c.args.batches.now.items ++ rs) (c.in_ok-clone.ensures.cases
    ∙ sym (all_others (goes c.args.going) c.args.batch.now (sym c.has.ensures ∙ unset)))
