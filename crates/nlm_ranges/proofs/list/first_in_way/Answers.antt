use Rattle.std.proofs.Common.{◌<◌, arith, length}
use Rattle.nlm_ranges.proofs.PieceLemmas.{in-piece}
use Rattle.nlm_ranges.proofs.list.first_in_way.Goals as goal

pub returns-in-Some-clause-some : goal.returns-in-Some-clause-some
returns-in-Some-clause-some c =
    let within : c.loop-piece.piece-index < length c.args.pieces.now = omega arith in (
      in-piece c.args.pieces.now c.loop-piece.piece-index c.piece-item.result within c.piece-item.is
          c.in-Some.lock.now c.in-Some.ensures.some.0,
      c.in-Some.ensures.some.1,
    )
