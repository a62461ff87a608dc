use Rattle.std.proofs.Common.{◌<◌, ◌++◌, ap, arith, filter, length, not, sym, ◌∙◌}
use Rattle.nfs_machine.specs.State.{Lock}
use Rattle.nlm_ranges.proofs.PieceLemmas.{next-left}
use Rattle.nlm_ranges.proofs.list.others_of.Goals as goal
use Rattle.nlm_ranges.specs.Cutting.{is_of_caller}

pub loop-piece-preserved : goal.loop-piece-preserved
loop-piece-preserved c =
    let within : c.loop-piece.piece-index < length c.args.pieces.now = omega arith in
    c.in_ok-add_others.ensures
    ∙ ap (λ ls. ls ++ filter (λ (l : Lock). not (is_of_caller c.args.caller_name.now l)) c.piece-item.result)
    c.loop-piece.invariant
    ∙ sym (next-left c.args.pieces.now c.loop-piece.piece-index c.piece-item.result within c.piece-item.is
    (λ (l : Lock). not (is_of_caller c.args.caller_name.now l)))
