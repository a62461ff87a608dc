use Rattle.std.proofs.Common.{◌<◌, length, map, not, filter, sym, ap, subst, arith, ◌∙◌}
use Rattle.std.proofs.lemmas.Result.{IfOk-weaker}
use Rattle.std.specs.Arc.{arc_value}
use Rattle.nfs_objects.proofs.MountTableLemmas.{sifted-all, sifted-apart, sifted-pieces, sifted-room}
use Rattle.nfs_objects.proofs.mounts.MountPieces.without.Goals as goal
use Rattle.nfs_objects.specs.Leaving.{leaves}
use Rattle.nfs_objects.specs.MountTables.{AreDistinct, AreInPieces, is_same, joined}
use Rattle.side_wire.specs.declared.mount.lists.MountBody.{MountBody}

pub overflow_add-len : goal.overflow_add-len
overflow_add-len c =
    let items = c.as_slice-old.result.now in
    let within : c.loop-piece.piece-index < length items = omega arith in
    let room = sifted-room arc_value (λ (m : MountBody). not (leaves c.args.leaving m)) items
    c.loop-piece.piece-index c.piece-item.result (map arc_value c.loop-piece.pieces.items) c.loop-piece.len
    (arc_value c.in_ok-rest.rest) c.loop-piece.invariant within c.piece-item.is c.in_ok-rest.ensures in
    let all = ap (λ pieces. length (joined pieces)) c.as_slice-old.ensures.pieces in
    let most = c.as_slice-old.ensures.held.bounded in
    omega (arith, room, all, most, c.len-len.ensures.len, ap length c.deref.ensures)

pub add_piece-requires : goal.add_piece-requires
add_piece-requires c =
    let items = c.as_slice-old.result.now in
    let within : c.loop-piece.piece-index < length items = omega arith in
    sifted-apart arc_value (λ (m : MountBody). not (leaves c.args.leaving m)) items c.loop-piece.piece-index
    c.piece-item.result (map arc_value c.loop-piece.pieces.items) c.loop-piece.len (arc_value c.in_ok-rest.rest)
    c.loop-piece.invariant within c.piece-item.is c.in_ok-rest.ensures
    is_same
    (subst (λ pieces. AreDistinct (joined pieces)) (sym c.as_slice-old.ensures.pieces)
    c.as_slice-old.ensures.held.distinct)

pub of-requires : goal.of-requires
of-requires c =
    let items = c.as_slice-old.result.now in
    let count = length (joined c.args.self.now) in
    sifted-pieces (λ (m : MountBody). not (leaves c.args.leaving m)) (map arc_value items)
    (map arc_value c.loop-piece.pieces.items) c.loop-piece.len count
    (sifted-all arc_value (λ (m : MountBody). not (leaves c.args.leaving m)) items c.loop-piece.piece-index
    (map arc_value c.loop-piece.pieces.items) c.loop-piece.len c.loop-piece-test.false c.loop-piece.invariant)
    (subst (λ pieces. AreInPieces pieces count) (sym c.as_slice-old.ensures.pieces) c.as_slice-old.ensures.held)

pub returns : goal.returns
returns c =
    let items = c.as_slice-old.result.now in
    let sifted = sifted-all arc_value (λ (m : MountBody). not (leaves c.args.leaving m)) items
    c.loop-piece.piece-index (map arc_value c.loop-piece.pieces.items) c.loop-piece.len c.loop-piece-test.false
    c.loop-piece.invariant in
    IfOk-weaker c.of.result _ _
    (λ rest same. ap joined same ∙ sifted.same
    ∙ ap (λ pieces. filter (λ (m : MountBody). not (leaves c.args.leaving m)) (joined pieces))
    c.as_slice-old.ensures.pieces) c.of.ensures
