use Rattle.std.proofs.Common.{◌++◌, ap, ◌∙◌}
use Rattle.nlm_ranges.proofs.PieceLemmas.{inserts-pieces}
use Rattle.nlm_ranges.proofs.list.with_lock.Goals as goal

pub returns : goal.returns
returns c =
    let front = c.split_at.result.0.now in
    let behind = c.in-Some.behind.now in
    inserts-pieces c.args.pieces.now front behind c.new-new.result.items c.add_pieces.new.pieces.items
    c.add_locks-2.new.pieces.items c.add_pieces-2.new.pieces.items c.in-Some.piece.now _ _ c.in_ok-with_lock-2.ensures
    (c.split_at.ensures.by_index.0 ∙ ap (λ ps. front ++ ps) c.in-Some.ensures.cases.0) c.new-new.ensures.items
    c.in_ok-add_pieces.ensures c.in_ok-add_locks-2.ensures c.in_ok-add_pieces-2.ensures
