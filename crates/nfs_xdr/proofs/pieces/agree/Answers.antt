use Rattle.std.proofs.Common.{arith}
use Rattle.nfs_xdr.proofs.BytesInPiecesLemmas.{front-gone, fronts-differ, none-left}
use Rattle.nfs_xdr.proofs.pieces.agree.Goals as goal

pub returns-in_default-split_first : goal.returns-in_default-split_first
returns-in_default-split_first c =
    none-left c.fronts.our.now c.fronts.our_rest.now c.fronts.their.now c.fronts.their_rest.now _
    (grind (arith, c.if-is_empty-2.ensures)) c.in_default-split_first.ensures.cases c.fronts.invariant

pub returns-then-ne : goal.returns-then-ne
returns-then-ne c =
    fronts-differ c.fronts.our.now c.fronts.their.now c.fronts.our_rest.now c.fronts.their_rest.now c.min-front.result _
    c.min-front.ensures (grind (arith, c.if-ne.ensures)) c.fronts.invariant

pub fronts-preserved : goal.fronts-preserved
fronts-preserved c =
    front-gone c.fronts.our.now c.fronts.their.now c.fronts.our_rest.now c.fronts.their_rest.now c.min-front.result _
    c.min-front.ensures (grind (arith, c.if-ne.ensures)) c.fronts.invariant
