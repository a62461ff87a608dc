use Rattle.std.proofs.Common.{◌∙◌, ◌++◌, ap, sym, arith, append_assoc, length, length-append, take}
use Rattle.std.specs.List.{concat}
use Rattle.nfs_xdr.proofs.BytesInPiecesLemmas.{next-fits, next-piece}
use Rattle.nfs_xdr.proofs.pieces.Pieces.append_to.Goals as goal

pub append-requires : goal.append-requires
append-requires c =
    let fits = next-fits c.deref-piece-items.result.now c.loop-piece.piece-index c.piece-item.result
    c.loop-piece-test.true c.piece-item.is in
    let all = ap (λ ps. length (concat ps)) c.deref-piece-items.ensures.value ∙ ap length c.self.view_is in
    let piece = ap length c.as_slice.ensures in
    omega (arith, fits, all, piece, c.loop-piece.invariant.len, c.loop-piece.invariant.capacity, c.requires)

pub loop-piece-preserved : goal.loop-piece-preserved
loop-piece-preserved c =
    let pieces = c.deref-piece-items.result.now in
    let front = concat (take c.loop-piece.piece-index pieces) in
    let more = next-piece pieces c.loop-piece.piece-index c.piece-item.result c.loop-piece-test.true c.piece-item.is in
    let long = ap length more ∙ length-append front c.piece-item.result in
    let piece = ap length c.as_slice.ensures in
    record {
      items = c.append.ensures.items ∙ (λ j. c.loop-piece.invariant.items j ++ c.as_slice.ensures j)
          ∙ append_assoc c.args.buffer.now.items front c.piece-item.result
          ∙ ap (λ xs. c.args.buffer.now.items ++ xs) (sym more);
      len = omega (arith, c.append.ensures.len, c.loop-piece.invariant.len, piece, long);
      capacity = omega (arith, c.append.ensures.capacity, c.loop-piece.invariant.capacity);
    }
