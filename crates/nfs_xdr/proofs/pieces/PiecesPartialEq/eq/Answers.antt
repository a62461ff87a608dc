use Rattle.std.proofs.Common.{◌∙◌, ap, arith, length}
use Rattle.std.specs.List.{concat}
use Rattle.nfs_xdr.proofs.BytesInPiecesLemmas.{same-pieces}
use Rattle.nfs_xdr.proofs.pieces.PiecesPartialEq.eq.Goals as goal

pub returns-then-self-other : goal.returns-then-self-other
returns-then-self-other c =
    let long = ap length c.self.view_is in
    let other_long = ap length c.other.view_is in
    let ours = ap concat c.as_slice.ensures.value ∙ c.self.view_is in
    let theirs = ap concat c.as_slice-then-self-other.ensures.value ∙ c.other.view_is in
    c.agree.ensures
    ∙ same-pieces c.as_slice.result.now c.as_slice-then-self-other.result.now c.args.self.now c.args.other.now ours
    theirs (omega (arith, c.if-self-other.true, c.self.invariant, c.other.invariant, long, other_long))
