use Rattle.std.proofs.Common.{◌≡◌, ◌++◌, ap, length, map, subst, sym, ◌∙◌}
use Rattle.std.proofs.lemmas.Result.{IfOk-weaker}
use Rattle.std.specs.Arc.{arc_value}
use Rattle.nfs_objects.proofs.MountTableLemmas.{all-held, latest-apart}
use Rattle.nfs_objects.proofs.mounts.MountTable.in_pieces.Goals as goal
use Rattle.nfs_objects.specs.MountTables.{AreDistinct, AreInPieces, joined}

pub pieces_behind-requires : goal.pieces_behind-requires
pieces_behind-requires c = c.self.invariant.within

pub add_piece-requires : goal.add_piece-requires
add_piece-requires c =
    let latest : arc_value c.in_ok-new.field-0 ≡ c.self.inside.latest =
    c.in_ok-new.ensures.ok ∙ c.in_ok-copied.ensures in
    subst AreDistinct (ap (λ xs. joined (map arc_value c.in_ok-pieces.pieces.items) ++ xs) (sym latest))
    (latest-apart c.self.inside.older c.self.inside.gone c.self.inside.latest c.self.invariant
    (map arc_value c.in_ok-pieces.pieces.items) c.in_ok-pieces.ensures.joined)

pub of-requires : goal.of-requires
of-requires c =
    let latest : arc_value c.in_ok-new.field-0 ≡ c.self.inside.latest =
    c.in_ok-new.ensures.ok ∙ c.in_ok-copied.ensures in
    let kept = map arc_value c.in_ok-pieces.pieces.items in
    all-held c.self.inside.older c.self.inside.gone c.self.inside.latest c.self.invariant kept
    c.in_ok-pieces.ensures.joined (map arc_value c.add_piece.new.pieces.items)
    (c.in_ok-add_piece.ensures.joined ∙ ap (λ xs. joined kept ++ xs) latest)
    (c.in_ok-add_piece.ensures.packed c.in_ok-pieces.ensures.packed) c.len.result
    (c.len.ensures.len ∙ ap length (sym c.self.view_is))

pub returns-clause-joined : goal.returns-clause-joined
returns-clause-joined c =
    let latest : arc_value c.in_ok-new.field-0 ≡ c.self.inside.latest =
    c.in_ok-new.ensures.ok ∙ c.in_ok-copied.ensures in
    IfOk-weaker c.of.result _ _
    (λ made same. ap joined same ∙ c.in_ok-add_piece.ensures.joined
    ∙ (λ i. c.in_ok-pieces.ensures.joined i ++ latest i) ∙ c.self.view_is) c.of.ensures

pub returns-clause-held : goal.returns-clause-held
returns-clause-held c =
    IfOk-weaker c.of.result _ _
    (λ made same. subst (λ pieces. AreInPieces pieces (length c.args.self.now)) (sym same)
    (subst (AreInPieces (map arc_value c.add_piece.new.pieces.items)) c.len.ensures.len (of-requires c.before)))
    c.of.ensures
