use Rattle.std.proofs.Common.{◌≡◌, ◌++◌, ap, false, rules, sym, ◌∙◌}
use Rattle.nlm_ranges.proofs.PieceLemmas.{uncut}
use Rattle.nlm_ranges.proofs.list.add_rest.Goals as goal
use Rattle.nlm_ranges.specs.Cutting.{joined}

pub returns-then-not-is_touched : goal.returns-then-not-is_touched
returns-then-not-is_touched c =
    let unset : c.is_touched.result ≡ false = search rules in
    c.in_ok-add_piece.ensures
    ∙ ap (λ ls. joined c.args.pieces.now.items ++ ls) (c.in_ok-clone.ensures.cases
    ∙ sym (uncut c.args.range.now c.args.piece.now (sym c.is_touched.ensures ∙ unset)))
