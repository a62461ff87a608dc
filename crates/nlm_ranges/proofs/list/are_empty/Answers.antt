use Rattle.std.proofs.Common.{◌≡◌, ◌==◌, ◌<◌, List, ap, arith, false, length, rules, sym, true, ◌∙◌}
use Rattle.std.specs.Cmp.{unsigned_Decides}
use Rattle.nfs_machine.specs.State.{Lock}
use Rattle.nlm_ranges.proofs.PieceLemmas.{counted, none-joined, some-joined}
use Rattle.nlm_ranges.proofs.list.are_empty.Goals as goal

pub returns-then-not-is_empty : goal.returns-then-not-is_empty
returns-then-not-is_empty c =
    let within : c.loop-piece.piece-index < length c.args.pieces.now = omega arith in
    let unset : c.is_empty.result ≡ false = search rules in
    sym (some-joined c.args.pieces.now c.loop-piece.piece-index c.piece-item.result within c.piece-item.is
    (counted c.piece-item.result
    (ap (λ (ls : List Lock). length ls == 0) (sym c.locks.ensures) ∙ sym c.is_empty.ensures ∙ unset)))

pub loop-piece-preserved : goal.loop-piece-preserved
loop-piece-preserved c =
    let within : c.loop-piece.piece-index < length c.args.pieces.now = omega arith in
    let set : c.is_empty.result ≡ true = search rules in
    none-joined c.args.pieces.now c.loop-piece.piece-index c.piece-item.result within c.piece-item.is
    ((unsigned_Decides (length c.piece-item.result) 0).0
    (ap (λ (ls : List Lock). length ls == 0) (sym c.locks.ensures) ∙ sym c.is_empty.ensures ∙ set))
    c.loop-piece.invariant
