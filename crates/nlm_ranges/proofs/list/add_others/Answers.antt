use Rattle.std.proofs.Common.{◌≡◌, ◌++◌, ap, false, rules, sym, ◌∙◌}
use Rattle.nlm_ranges.proofs.PieceLemmas.{all_others}
use Rattle.nlm_ranges.proofs.list.add_others.Goals as goal
use Rattle.nlm_ranges.specs.Cutting.{is_of_caller, joined}

pub returns-then-not-has_caller : goal.returns-then-not-has_caller
returns-then-not-has_caller c =
    let unset : c.has_caller.result ≡ false = search rules in
    c.in_ok-add_piece.ensures
    ∙ ap (λ ls. joined c.args.pieces.now.items ++ ls) (c.in_ok-clone.ensures.cases
    ∙ sym (all_others (is_of_caller c.args.caller_name.now) c.args.piece.now (sym c.has_caller.ensures ∙ unset)))
