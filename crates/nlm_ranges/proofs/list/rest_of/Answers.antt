use Rattle.std.proofs.Common.{◌<◌, ◌++◌, ap, arith, length, sym, ◌∙◌}
use Rattle.std.specs.List.{flat_map}
use Rattle.nlm_ranges.proofs.PieceLemmas.{next-cut}
use Rattle.nlm_ranges.proofs.list.rest_of.Goals as goal
use Rattle.nlm_ranges.specs.Cutting.{cut}

pub loop-piece-preserved : goal.loop-piece-preserved
loop-piece-preserved c =
    let within : c.loop-piece.piece-index < length c.args.pieces.now = omega arith in
    c.in_ok-add_rest.ensures
    ∙ ap (λ ls. ls ++ flat_map (cut c.args.range.now) c.piece-item.result) c.loop-piece.invariant
    ∙ sym (next-cut c.args.pieces.now c.loop-piece.piece-index c.piece-item.result within c.piece-item.is
    (cut c.args.range.now))
