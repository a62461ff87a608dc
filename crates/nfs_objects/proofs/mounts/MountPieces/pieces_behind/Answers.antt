use Rattle.std.proofs.Common.{◌≡◌, ◌≤◌, ◌∷◌, ◌++◌, ap, drop, length, map, subst, sym, ◌∙◌}
use Rattle.std.specs.Arc.{arc_value}
use Rattle.nfs_objects.proofs.MountTableLemmas.{first-apart, others-apart, others-kept}
use Rattle.nfs_objects.proofs.mounts.MountPieces.pieces_behind.Goals as goal
use Rattle.nfs_objects.specs.MountTables.{AreDistinct, ArePacked, first_piece, joined}

pub add_piece-requires : goal.add_piece-requires
add_piece-requires c =
    let first = arc_value c.in-Some.first.now in
    let others = map arc_value c.in-Some.others.now in
    let cut : c.args.self.now ≡ first ∷ others =
    sym c.as_slice.ensures.pieces ∙ ap (map arc_value) c.in-Some.ensures.cases.0 in
    let start : joined (map arc_value c.new-pieces.result.items) ++ arc_value c.in_ok-shortened.field-0
    ≡ drop c.args.count first =
    λ i. joined (map arc_value (c.new-pieces.ensures.items i)) ++ c.in_ok-shortened.ensures i in
    subst AreDistinct (sym start)
    (first-apart first others c.args.count
    (subst (λ ps. AreDistinct (joined ps)) cut c.as_slice.ensures.held.distinct))

pub add_pieces-requires : goal.add_pieces-requires
add_pieces-requires c =
    let first = arc_value c.in-Some.first.now in
    let others = map arc_value c.in-Some.others.now in
    let cut : c.args.self.now ≡ first ∷ others =
    sym c.as_slice.ensures.pieces ∙ ap (map arc_value) c.in-Some.ensures.cases.0 in
    let start : joined (map arc_value c.add_piece.new.pieces.items) ≡ drop c.args.count first =
    c.in_ok-add_piece.ensures.joined
    ∙ (λ i. joined (map arc_value (c.new-pieces.ensures.items i)) ++ c.in_ok-shortened.ensures i) in
    subst AreDistinct (ap (λ xs. xs ++ joined others) (sym start))
    (others-apart first others c.args.count (subst (λ ps. c.args.count ≤ length (first_piece ps)) cut c.requires)
    (subst (λ ps. AreDistinct (joined ps)) cut c.as_slice.ensures.held.distinct))

pub returns-clause-joined : goal.returns-clause-joined
returns-clause-joined c =
    let first = arc_value c.in-Some.first.now in
    let others = map arc_value c.in-Some.others.now in
    let cut : c.args.self.now ≡ first ∷ others =
    sym c.as_slice.ensures.pieces ∙ ap (map arc_value) c.in-Some.ensures.cases.0 in
    let start : joined (map arc_value c.add_piece.new.pieces.items) ≡ drop c.args.count first =
    c.in_ok-add_piece.ensures.joined
    ∙ (λ i. joined (map arc_value (c.new-pieces.ensures.items i)) ++ c.in_ok-shortened.ensures i) in
    c.in_ok-add_pieces.ensures.joined ∙ ap (λ xs. xs ++ joined others) start
    ∙ others-kept first others c.args.count (subst (λ ps. c.args.count ≤ length (first_piece ps)) cut c.requires)
    ∙ ap (λ ps. drop c.args.count (joined ps)) (sym cut)

pub returns-clause-packed : goal.returns-clause-packed
returns-clause-packed c =
    c.in_ok-add_pieces.ensures.packed (c.in_ok-add_piece.ensures.packed
    (subst (λ l. ArePacked 256 (map arc_value l)) (sym c.new-pieces.ensures.items) tt))
